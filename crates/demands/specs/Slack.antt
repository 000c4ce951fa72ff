-- "Credit and slack are those of Definitions 1 and 2" of 004: stated term by term in `Definitions`, they are the numbers that the operations are proved to give.
--
-- Of every answered asking: the credit and the slack of `timing` fit the definitions, and whatever fits them is equal to these at every path.
-- Assumes nothing.
use Rattle.std.specs.Prelude.{◌≡◌, ℕ, ℤ, pos}
use Rattle.timing.specs.Table.{Table}
use Rattle.timing.specs.Structure.{structure, times}
use Rattle.timing.specs.Paths.{Path}
use Rattle.timing.specs.Slack.{path_credit, slack}
use Rattle.timing.specs.Rows.{mode_of}
use Rattle.demands.specs.Definitions.{IsPath, ByDefinition}

-- the credit and the slack of a path that the operations are proved to give
abbrev pub credit_given : Table → ℕ → Path → ℤ
credit_given t mode p = pos (path_credit (mode_of mode) (structure t) (times t) p)

abbrev pub slack_given : Table → ℕ → Path → ℤ
slack_given t mode = slack (mode_of mode) (structure t) (times t)

pub record Defined (t : Table) (mode : ℕ) : Type 0 where
  pub fit : ByDefinition (mode_of mode) (structure t) (times t) (credit_given t mode) (slack_given t mode)
  pub only : (credit_of slack_of : Path → ℤ) → ByDefinition (mode_of mode) (structure t) (times t) credit_of slack_of
      → (p : Path) → IsPath (structure t) p → (credit_of p ≡ credit_given t mode p) × (slack_of p ≡ slack_given t mode p)
