-- `laying::shared_clock` meets its contract. The invariant: the pin is on the clock routes of the tests passed.
use Rattle.laying.specs.Bounds.{Above}
use Rattle.laying.proofs.shared_clock.Given as goal

abbrev pub invariant-loop-test : goal.invariant-loop-test
invariant-loop-test l = Above l.table l.test l.clock
