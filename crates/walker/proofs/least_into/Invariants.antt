-- `walker::least_into` meets its contract.
use Rattle.walker.specs.Laws.Leasts.{So}
use Rattle.walker.proofs.least_into.Given as goal

abbrev pub invariant-loop-i : goal.invariant-loop-i
invariant-loop-i l = So l.work l.v l.end l.i l.least
