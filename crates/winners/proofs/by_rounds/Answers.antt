-- `winners::by_rounds` meets its contract.
-- Assumes nothing.
use Rattle.std.proofs.Common.{◌-◌, inl, inr, arith}
use Rattle.winners.specs.Laws.Finding.{won}
use Rattle.winners.proofs.by_rounds.Goals as goal
use Rattle.winners.proofs.by_rounds.Goals.{else-loop-round-test, then-loop-round-test+then-is_answer}

pub returns : goal.returns
returns c =
    won _ _ _ (c.args.k - c.loop-round.round) _ _ c.loop-round.invariant
    (elim c.loop-round-test.branch [
      | else-loop-round-test w ↦ inl (omega (arith, w.loop-round-test.false))
      | then-loop-round-test+then-is_answer w ↦ inr (w.is_answer.ensures w.if-is_answer.true)
    ])
