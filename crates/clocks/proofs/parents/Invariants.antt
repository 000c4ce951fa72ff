-- `clocks::parents` meets its contract: the arcs passed stand at the pins that they enter. A B or a K has one arc, so no later one takes its place. Assumes nothing.
use Rattle.clocks.proofs.Filling.{Passing}
use Rattle.clocks.proofs.parents.Given as goal

abbrev pub invariant-loop-a : goal.invariant-loop-a
invariant-loop-a l = Passing l.table l.a l.initial.work l.work
