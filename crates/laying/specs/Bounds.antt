-- The total, and bounds for the tests.
-- Assumes nothing.
use Rattle.std.specs.Prelude.{List, ℕ, ◌+◌, ◌≤◌, ◌<◌, ℤ, get_or}
use Rattle.std.proofs.Math.IntN.{sub_ℕ}
use Rattle.lists.specs.Laws.Member.{In}
use Rattle.timing.specs.Table.{Table, test_count, test_data}
use Rattle.timing.specs.Structure.{clock_pin, data_pin, structure, times}
use Rattle.timing.specs.Clock.{route}
use Rattle.timing.specs.Paths.{walks}
use Rattle.timing.specs.Value.{value, raise, lower}
use Rattle.timing.specs.Rows.{mode_of}
use Rattle.timing.specs.declared.Candidate.{Candidate}
use Rattle.clocks.specs.Clocked.{ClockPin}
use Rattle.area.specs.Area.{counts_at}
use Rattle.walker.specs.Cursors.{least_at}
use Rattle.laying.specs.Standing.{level, Prepared}

-- what is counted at the data pin of test j
abbrev pub count_at : Table → List ℕ → ℕ → ℕ
count_at t w j = get_or w (counts_at + test_data t j) 0

-- the record of test j for a value and a serial: the value raised and lowered by what the test alone decides
abbrev pub record_of : Table → ℕ → ℕ → ℕ → ℕ → Candidate
record_of t mode j v i =
    record {
      slack = sub_ℕ (v + raise (mode_of mode) (structure t) (times t) j) (lower (mode_of mode) level (structure t) (times t) j);
      test = j;
      serial = i;
    }

-- the slack of a walk of test j with the value v
abbrev pub slack_of : Table → ℕ → ℕ → ℕ → ℤ
slack_of t mode j v = (record_of t mode j v 0).slack

-- v is at most the value of each walk of test j
pub record Bounds (t : Table) (mode j v : ℕ) : Type 0 where
  pub small : v < 1073741824
  pub least : (u : List ℕ) → In u (walks (structure t) (data_pin (structure t) j))
      → v ≤ value (mode_of mode) level (structure t) (times t) (clock_pin (structure t) j) u

-- pin y is on the clock route of each test below n
pub record Above (t : Table) (n y : ℕ) : Type 0 where
  pub pin : ClockPin t y
  pub above : (j : ℕ) → j < n → In y (route (structure t) (clock_pin (structure t) j))

-- the least value at each data pin is at most those of its test
pub record Shared (t : Table) (mode : ℕ) (w : List ℕ) : Type 0 where
  pub prepared : Prepared t mode w
  pub bounds : (j : ℕ) → j < test_count t → Bounds t mode j (least_at w (test_data t j))

-- each test has a bound
abbrev pub AllBounds : Table → ℕ → List ℕ → Type 0
AllBounds t mode b = (j : ℕ) → j < test_count t → Bounds t mode j (get_or b j 0)
