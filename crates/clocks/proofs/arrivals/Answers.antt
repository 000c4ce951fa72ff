-- `clocks::arrivals` meets its contract: the pins below p are done, and parents and the rest of the area are as they were. Assumes nothing.
use native.Mathlib.Omega.{arith}
use Rattle.clocks.specs.Small.{few-pins}
use Rattle.clocks.proofs.Filling.{going_step}
use Rattle.clocks.proofs.arrivals.Goals as goal

pub put-requires : goal.put-requires
put-requires c = let i = c.loop-p.invariant in omega (arith, i.ready.room, i.kept.long, few-pins _ i.ready.checked)

pub loop-p-preserved : goal.loop-p-preserved
loop-p-preserved c =
    let l = c.loop-p in
    rw c.put.ensures (going_step _ l.p _ _ l.invariant (omega arith) _ c.of.ensures)
