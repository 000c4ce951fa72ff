-- `laying::bounds_of` meets its contract. The invariant: each test passed has its bound.
use Rattle.laying.proofs.Turns.{Bounding}
use Rattle.laying.proofs.bounds_of.Given as goal

abbrev pub invariant-loop-test : goal.invariant-loop-test
invariant-loop-test l = Bounding l.table l.mode l.test l.bounds
