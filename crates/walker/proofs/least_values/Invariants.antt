-- `walker::least_values` meets its contract.
use Rattle.walker.specs.Leasts.{Leasts}
use Rattle.walker.proofs.least_values.Given as goal

abbrev pub invariant-loop-v : goal.invariant-loop-v
invariant-loop-v l = Leasts l.initial.work l.work l.v
