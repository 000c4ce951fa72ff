-- `winners::find` meets its contract.
use Rattle.std.proofs.Common.{◌≡◌}
use Rattle.timing.specs.Table.{test_count}
use Rattle.winners.specs.Finding.{hint_at, Searching}
use Rattle.winners.proofs.find.Given as goal

abbrev pub invariant-loop-j : goal.invariant-loop-j
invariant-loop-j l = Searching l.table l.mode l.k (hint_at l.hints) l.j l.work l.found × (l.n ≡ test_count l.table)
