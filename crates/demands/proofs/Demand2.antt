-- Demand 2: "The rows reported are exactly the first k, or all if fewer, of all launch-to-test paths, each once, ordered by slack after credit and then by the
-- stated tie rule. Credit and slack are those of Definitions 1 and 2" of 004.
--
-- Of every answered asking, over the room that it leaves. Paths, credit, slack and order are those of `Definitions`.
-- Assumes nothing.
use Rattle.std.specs.Prelude.{ℕ, ℤ}
use Rattle.std.proofs.Common.{◌∙◌}
use Rattle.timing.specs.Table.{Table}
use Rattle.timing.specs.Structure.{structure, times}
use Rattle.timing.specs.Paths.{Path}
use Rattle.timing.specs.Slack.{ranked}
use Rattle.timing.specs.Rows.{mode_of}
use Rattle.timing.specs.Asked.{table_rows}
use Rattle.timing.proofs.Laws.Accepted.{accepted}
use Rattle.demands.specs.Definitions.{Answered, ByDefinition}
use Rattle.demands.proofs.Laws.Granted.{granted}
use Rattle.demands.proofs.Laws.Ordered.{strict-total}
use Rattle.demands.proofs.Laws.Reported.{ranked-listed, listed-only, rows_are, rows-many}
use Rattle.demands.specs.Demand2.{Reported}

-- whatever credits and slacks fit the definitions; `Slack` shows that there are such, and only one
pub demand-2 : (t : Table) (mode k : ℕ) (a : Answered t mode k) (credit_of slack_of : Path → ℤ)
    → ByDefinition (mode_of mode) (structure t) (times t) credit_of slack_of → Reported t mode k a credit_of slack_of
unfolding table_rows
demand-2 t mode k a credit_of slack_of d =
    let g = granted t mode k a in
    let m = mode_of mode in
    let s = structure t in
    let x = times t in
    let ok = (accepted t g.checked).sound in
    let r = (accepted t g.checked).ranged in
    record {
      order = strict-total s ok slack_of;
      all = ranked m s x;
      listed = ranked-listed m s x ok r credit_of slack_of d;
      only = listed-only m s x ok r credit_of slack_of d;
      given = λ l h. g.counted ∙ rows-many m s x ok r credit_of slack_of d k l h;
      rows = λ l h. g.stand ∙ rows_are m s x ok r credit_of slack_of d k l h;
      stay = g.stays;
      cleared = g.cleared;
    }
