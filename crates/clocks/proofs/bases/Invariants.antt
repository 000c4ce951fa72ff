-- `clocks::bases` meets its contract: the bases of the pins below p are written, and the rest of the area is as it was. Assumes nothing.
use Rattle.timing.specs.Rows.{mode_of}
use Rattle.clocks.proofs.Basing.{Basing}
use Rattle.clocks.proofs.bases.Given as goal

abbrev pub invariant-loop-p : goal.invariant-loop-p
invariant-loop-p l = Basing (mode_of l.mode) l.table l.p l.initial.work l.work
