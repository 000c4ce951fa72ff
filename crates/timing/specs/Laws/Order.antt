-- The order of the rows: `ranked` holds every path once, in the stated order. That no other list does is in the crate `demands`.
-- Assumes nothing.
use Rattle.std.specs.Prelude.{◌≡◌, ◌⊎◌, ◌<ℤ◌}
use Rattle.timing.specs.Structure.{Structure, Times}
use Rattle.timing.specs.Paths.{Path}
use Rattle.timing.specs.Slack.{Mode, slack}
use Rattle.timing.specs.Laws.Listed.{Tie}

-- "Smaller slack first; then smaller test number; then the two arc lists are read backwards from the data pin, and at the first difference the smaller
-- arc number comes first."
abbrev pub Ahead : Mode → Structure → Times → Path → Path → Type 0
Ahead m s x p q = (slack m s x p <ℤ slack m s x q) ⊎ ((slack m s x p ≡ slack m s x q) × Tie p q)
