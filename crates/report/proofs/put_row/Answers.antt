-- `report::put_row` meets its contract. Assumes nothing.
use Rattle.std.proofs.Common.{◌≡◌, ◌-◌, length, reverse, refl, arith, ◌∙◌}
use Rattle.std.proofs.Math.Seq.{paste-zero}
use Rattle.std.proofs.lemmas.List.{length_push, length-reverse}
use Rattle.std.proofs.lemmas.List.FromFn.{length-enumerate_from}
use Rattle.std.proofs.lemmas.Iterator.Adapters.{YieldsList-from_rev_slice}
use Rattle.std.proofs.lemmas.Iterator.Consumers.{YieldsList-from_enumerate, YieldsList-turn, YieldsList-end}
use Rattle.report.proofs.Turned.{arcs, begun, one_more, headed, finish, length-begun}
use Rattle.report.proofs.put_row.Goals as goal

pub loop-i-init : goal.loop-i-init
loop-i-init c =
    let head = c.args.head.now in
    let row = c.args.row.now in
    headed head _ row _ _ (omega arith) (omega (arith, c.requires.room)) c.copy_from_slice.ensures.after refl (c.fill.ensures.after (λ y e. e))
    ∙ paste-zero (begun head (length row - 5)) 5 (arcs c.args.walk.now)

pub loop-i-preserved : goal.loop-i-preserved
loop-i-preserved c =
    let walk = c.args.walk.now in
    let row = c.args.row.now in
    let y = YieldsList-from_enumerate (YieldsList-from_rev_slice walk (cc)) (cc) in
    let t = YieldsList-turn y c.loop-i.yielded _ c.loop-i.yielded_by _ _ (c.in-Some.i, c.in-Some.arc) c.in-Some.is c.next.ensures.steps in
    let long = length-begun c.args.head.now (length row - 5) (length row) (omega arith) refl (omega (arith, c.requires.room)) in
    rw (length_push c.loop-i.yielded (c.in-Some.i, c.in-Some.arc))
    (one_more walk (length c.loop-i.yielded) c.in-Some.i c.in-Some.arc.now t _ _ c.loop-i.invariant (omega (arith, long, c.requires.room)) c.requires.small)

pub returns : goal.returns
returns c =
    let walk = c.args.walk.now in
    let y = YieldsList-from_enumerate (YieldsList-from_rev_slice walk (cc)) (cc) in
    let t = YieldsList-end y c.loop-i.yielded _ c.loop-i.yielded_by _ _ c.in-None.is c.next.ensures.steps in
    let all : length c.loop-i.yielded ≡ length walk = omega (arith, t.1, length-enumerate_from 0 (reverse walk), length-reverse walk) in
    (rw all at c.loop-i.invariant) ∙ finish c.args.head.now walk (length c.args.row.now - 5) (omega arith) (omega (arith, c.requires.room))
