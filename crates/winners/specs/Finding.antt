-- All tests, ascending: the list holds the first k of the paths below the hint.
-- Assumes nothing.
use Rattle.std.specs.Prelude.{◌≡◌, ◌⊎◌, List, [], ℕ, ◌≤◌, ◌<◌, ℤ, pos, ltb, length, get_or}
use Rattle.lists.specs.Choice.{pick}
use Rattle.lists.specs.Parts.{those, gather}
use Rattle.lists.specs.Parts as parts
use Rattle.lists.specs.Rank.{by}
use Rattle.lists.specs.Laws.Member.{In}
use Rattle.lists.specs.Laws.Integer.{Within, Less}
use Rattle.lists.specs.Laws.Top.{rank_top}
use Rattle.lists.specs.Laws.Falling.{kept}
use Rattle.timing.specs.Limits.{most_k}
use Rattle.timing.specs.Table.{Table, test_count}
use Rattle.timing.specs.Structure.{structure, times}
use Rattle.timing.specs.Paths.{Path, test_paths}
use Rattle.timing.specs.Rows.{mode_of, first_paths}
use Rattle.timing.specs.declared.Candidate.{Candidate}
use Rattle.winners.specs.declared.Best.{Best}
use Rattle.winners.specs.declared.Found.{Found}
use Rattle.winners.specs.declared.Hints.{Hints}
use Rattle.laying.specs.Bounds.{Bounds, AllBounds}
use Rattle.laying.specs.Standing.{Prepared}
use Rattle.winners.specs.Held.{slack_in, Holds, Sized}
use Rattle.winners.specs.Stored.{Shelf, Stored}

-- the hint of each test: a slack that its paths must be below. Up to the test `last` it is `high`, behind it `low`
unfoldable pub hint_at : Hints → ℕ → ℤ
hint_at hints j = pick (ltb hints.last j) hints.low hints.high

-- `high` is `low` or one more
abbrev pub OneApart : Hints → Type 0
OneApart hints = Within 0 hints.low hints.high × Within 1 hints.high hints.low

-- the first k of the paths below the hints of their tests, of the tests below n
unfoldable pub first_to : Table → ℕ → ℕ → (ℕ → ℤ) → ℕ → List Path
first_to t mode k hint n =
    rank_top (by (slack_in t mode)) k [] (those (kept (slack_in t mode) (λ (p : Path). hint p.test)) (gather (test_paths (structure t)) (parts.below n)))

-- the tests below n have been gone through
pub record Finding (t : Table) (mode k : ℕ) (hint : ℕ → ℤ) (n : ℕ) (w : List ℕ) (best : Best) : Type 0 where
  pub prepared : Prepared t mode w
  pub sized : Sized k best
  pub shelf : Shelf best.slots
  pub holds : Holds (slack_in t mode) k n best.serial best.list best.count (first_to t mode k hint n)
  pub stored : Stored w best.slots (first_to t mode k hint n)

-- and each of their paths is below its hint, or not below the least slack that was passed over
pub record Searching (t : Table) (mode k : ℕ) (hint : ℕ → ℤ) (n : ℕ) (w : List ℕ) (found : Found) : Type 0 where
  pub finding : Finding t mode k hint n w found.best
  pub past : (p : Path) → In p (gather (test_paths (structure t)) (parts.below n)) → Less (slack_in t mode p) (hint p.test) ⊎ Within 0 found.out (slack_in t mode p)

-- a test is gone through, or left out by a number that is at most the value of each of its walks
pub record Tries (t : Table) (mode k : ℕ) (hint : ℕ → ℤ) (j bound : ℕ) (w : List ℕ) (found : Found) : Type 0 where
  pub searching : Searching t mode k hint j w found
  pub test : j < test_count t
  pub bounds : Bounds t mode j bound

-- the list is full, or nothing was passed over that a slack can be
abbrev pub Complete : ℕ → Found → Type 0
Complete k found = (k ≤ found.best.count) ⊎ Less (pos 257000000) found.out

-- no round is left, or the list is complete
abbrev pub Finished : ℕ → ℕ → Found → Type 0
Finished rounds k found = (rounds ≡ 0) ⊎ Complete k found

-- what the rounds ask: two hints that are one apart at the most, and a bound for each test
pub record Rounds (t : Table) (mode k : ℕ) (hints : Hints) (w bounds : List ℕ) : Type 0 where
  pub prepared : Prepared t mode w
  pub some : 0 < k
  pub most : k ≤ most_k
  pub bounded : AllBounds t mode bounds
  pub near : OneApart hints

-- behind a round: its two hints are one apart at the most, and in the last round above every slack
pub record Round (t : Table) (mode k rounds : ℕ) (w : List ℕ) (found : Found) : Type 0 where
  pub hints : Hints
  pub near : OneApart hints
  pub searching : Searching t mode k (hint_at hints) (test_count t) w found
  pub ends : rounds ≡ 0 → Less (pos 257000000) hints.low

-- the list tells the first k of all paths, and their walks stand in their slots
pub record Won (t : Table) (mode k : ℕ) (w : List ℕ) (list : List Candidate) (count : ℕ) (slots : List ℕ) : Type 0 where
  pub prepared : Prepared t mode w
  pub shelf : Shelf slots
  pub serial : ℕ
  pub holds : Holds (slack_in t mode) k (test_count t) serial list count (first_paths (mode_of mode) (structure t) (times t) k)
  pub stored : Stored w slots (first_paths (mode_of mode) (structure t) (times t) k)

-- the first n of 16 places have their numbers
pub record Numbered (n : ℕ) (slots : List ℕ) : Type 0 where
  pub long : length slots ≡ 16
  pub each : (i : ℕ) → i < n → get_or slots i 0 ≡ i

-- nothing is found yet
pub record Nothing (best : Best) : Type 0 where
  pub places : length best.list ≡ 16
  pub none : best.count ≡ 0
  pub numbered : Numbered 16 best.slots
