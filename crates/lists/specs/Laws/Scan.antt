-- Loops that look for the lowest number with a fault, and loops that count those that pass a test, against `first_met`, `those` and
-- `below`. The invariant of such a search is `Passed`, its result is `Lowest`; what it says of a list of grounds is said here, once.
-- Assumes nothing.
use Rattle.std.specs.Prelude.{ℕ, ◌≤◌, ◌<◌, ◌≡◌, Bool, true, false, length}
use Rattle.lists.specs.Parts.{below, those}

-- ---- the lowest fault

-- no fault below r, which is at most n
pub record Passed (bad : ℕ → Bool) (n r : ℕ) : Type 0 where
  pub most : r ≤ n
  pub clean : (y : ℕ) → y < r → bad y ≡ false

-- r is the lowest below n with a fault, or n if there is none
pub record Lowest (bad : ℕ → Bool) (n r : ℕ) : Type 0 where
  pub most : r ≤ n
  pub clean : (y : ℕ) → y < r → bad y ≡ false
  pub hit : r < n → bad r ≡ true

-- ---- counting

-- one for a test that passes, none for one that fails
abbrev pub bit : Bool → ℕ
bit true = 1
bit false = 0

-- how many below n pass the test
unfoldable pub tally : (ℕ → Bool) → ℕ → ℕ
tally f n = length (those f (below n))
