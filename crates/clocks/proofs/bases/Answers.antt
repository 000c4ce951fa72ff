-- `clocks::bases` meets its contract: the bases of the pins below p are written, and the rest of the area is as it was. Assumes nothing.
use mathlib.Core.Path.{◌∙◌}
use native.Mathlib.Omega.{arith}
use Rattle.clocks.specs.Small.{few-pins}
use Rattle.clocks.proofs.Basing.{basing-starts, basing-step}
use Rattle.clocks.proofs.bases.Goals as goal

pub base_of-requires : goal.base_of-requires
base_of-requires c = let l = c.loop-p in basing-starts _ _ l.p _ _ l.invariant (omega arith)

pub bounds-work-p : goal.bounds-work-p
bounds-work-p c =
    let l = c.loop-p in
    omega (arith, l.invariant.clocked.ready.room, l.invariant.kept.long, few-pins _ l.invariant.clocked.ready.checked)

pub loop-p-preserved : goal.loop-p-preserved
loop-p-preserved c =
    let l = c.loop-p in
    basing-step _ _ l.p _ _ l.invariant (omega arith) _ (c.unwrap_or.ensures ∙ c.base_of.ensures)
