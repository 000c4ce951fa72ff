-- `laying::add_counts` meets its contract. The invariant: the counts of the tests passed are added up.
use Rattle.std.specs.Prelude.{◌≡◌}
use Rattle.lists.specs.Laws.Count.{count_to}
use Rattle.timing.specs.Limits.{most_total}
use Rattle.laying.specs.Bounds.{count_at}
use Rattle.laying.proofs.add_counts.Given as goal

abbrev pub invariant-loop-test : goal.invariant-loop-test
invariant-loop-test l = l.sum ≡ count_to most_total (count_at l.table l.work) l.test
