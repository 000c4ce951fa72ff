-- `winners::by_rounds` meets its contract. The invariant: the list is that of a round, and once no round is left its hints were above every slack.
use Rattle.std.proofs.Common.{◌-◌}
use Rattle.winners.specs.Finding.{Round}
use Rattle.winners.proofs.by_rounds.Given as goal

abbrev pub invariant-loop-round : goal.invariant-loop-round
invariant-loop-round l = Round l.table l.mode l.k (l.k - l.round) l.work l.found
