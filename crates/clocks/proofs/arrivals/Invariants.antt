-- `clocks::arrivals` meets its contract: the pins below p are done, and parents and the rest of the area are as they were. Assumes nothing.
use Rattle.clocks.proofs.Filling.{Going}
use Rattle.clocks.proofs.arrivals.Given as goal

abbrev pub invariant-loop-p : goal.invariant-loop-p
invariant-loop-p l = Going l.table l.p l.initial.work l.work
