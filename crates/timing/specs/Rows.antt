-- The rows of an answer, and the total.
-- Assumes nothing.
use Rattle.std.specs.Prelude.{ℕ, zero, suc, ◌+◌, ◌-◌, min, List, ◌∷◌, ◌++◌, reverse, length, take, replicate, ℤ, pos}
use Rattle.lists.specs.Parts.{each}
use Rattle.timing.specs.Limits.{most_total}
use Rattle.timing.specs.Structure.{Structure, pins, Times}
use Rattle.timing.specs.Paths.{Path, start, paths}
use Rattle.timing.specs.Slack.{Mode, for_setup, for_hold, path_credit, slack, ranked}

-- "a mode (0 setup, 1 hold)"
unfoldable pub mode_of : ℕ → Mode
mode_of zero = for_setup
mode_of (suc m) = for_hold

-- "Rows are P + 5 numbers": their length
abbrev pub row_length : ℕ → ℕ
row_length p = p + 5

-- "slack, credit, test, start pin, arc count, the arcs from start to data pin, then zeros"
unfoldable pub row : Mode → Structure → Times → Path → List ℤ
row m s x p =
    slack m s x p
    ∷ pos (path_credit m s x p)
    ∷ pos p.test
    ∷ pos (start s p)
    ∷ pos (length p.walk)
    ∷ (each pos (reverse p.walk) ++ replicate (pins s - length p.walk) (pos 0))

-- "exactly the first k, or all if fewer"
unfoldable pub first_paths : Mode → Structure → Times → ℕ → List Path
first_paths m s x k = take k (ranked m s x)

unfoldable pub rows : Mode → Structure → Times → ℕ → List (List ℤ)
rows m s x k = each (row m s x) (first_paths m s x k)

-- "The number of paths over all tests, or 1,000,000,000 if there are more."
unfoldable pub total : Structure → ℕ
total s = min most_total (length (paths s))
