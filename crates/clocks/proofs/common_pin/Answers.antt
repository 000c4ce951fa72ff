-- `clocks::common_pin` meets its contract: the two pins keep the common pin of p and q while the deeper is raised, and their depths fall. Assumes nothing.
use native.Mathlib.Omega.{arith}
use Rattle.clocks.specs.Small.{few-pins}
use Rattle.clocks.proofs.Meeting.{raise-one, raise-other, met}
use Rattle.clocks.proofs.common_pin.Goals as goal

pub bounds-work-p : goal.bounds-work-p
bounds-work-p c = let i = c.loop-p.invariant in omega (arith, i.clocked.ready.room, i.one.inside, few-pins _ i.clocked.ready.checked)

pub bounds-work-q : goal.bounds-work-q
bounds-work-q c = let i = c.loop-p.invariant in omega (arith, i.clocked.ready.room, i.other.inside, few-pins _ i.clocked.ready.checked)

pub parent-q-requires : goal.parent-q-requires
parent-q-requires c = let i = c.loop-p.invariant in omega (arith, i.clocked.ready.room, i.other.inside, few-pins _ i.clocked.ready.checked)

pub loop-p-smaller-then-work-p : goal.loop-p-smaller-then-work-p
loop-p-smaller-then-work-p c =
    let l = c.loop-p in
    let r =
    raise-other _ _ _ _ l.p l.q l.invariant c.loop-p-test.true
    (omega (arith, c.if-work-p.true)) c.parent-q.result c.parent-q.ensures in
    omega (arith, r.less)

pub loop-p-preserved-then-work-p : goal.loop-p-preserved-then-work-p
loop-p-preserved-then-work-p c =
    let l = c.loop-p in
    let r =
    raise-other _ _ _ _ l.p l.q l.invariant c.loop-p-test.true
    (omega (arith, c.if-work-p.true)) c.parent-q.result c.parent-q.ensures in
    r.again

pub parent-p-requires : goal.parent-p-requires
parent-p-requires c = let i = c.loop-p.invariant in omega (arith, i.clocked.ready.room, i.one.inside, few-pins _ i.clocked.ready.checked)

pub loop-p-smaller : goal.loop-p-smaller
loop-p-smaller c =
    let l = c.loop-p in
    let r =
    raise-one _ _ _ _ l.p l.q l.invariant c.loop-p-test.true
    (omega (arith, c.if-work-p.false)) c.parent-p.result c.parent-p.ensures in
    omega (arith, r.less)

pub loop-p-preserved : goal.loop-p-preserved
loop-p-preserved c =
    let l = c.loop-p in
    let r =
    raise-one _ _ _ _ l.p l.q l.invariant c.loop-p-test.true
    (omega (arith, c.if-work-p.false)) c.parent-p.result c.parent-p.ensures in
    r.again

pub returns : goal.returns
returns c = let l = c.loop-p in met _ _ _ _ l.p l.q l.invariant c.loop-p-test.false
