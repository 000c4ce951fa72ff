-- What stands in the work area while the tests are gone through: the clock side and the sorted arcs of the table, and the seeds and least values of one test.
-- Assumes nothing.
use Rattle.std.specs.Prelude.{◌≡◌, List, ℕ, ◌<◌, length, get_or}
use Rattle.timing.specs.Table.{Table, test_count}
use Rattle.timing.specs.Structure.{structure, times, clock_pin}
use Rattle.timing.specs.Rows.{mode_of}
use Rattle.timing.specs.Value.{seed_of}
use Rattle.clocks.specs.Clocked.{Clocked, Based}
use Rattle.area.specs.Area.{plan, arcs_at}
use Rattle.arcs.specs.Laid.{Arcs, Laid}
use Rattle.arcs.specs.Sorting.{weighing}
use Rattle.walker.specs.Cursors.{Lower, least_at}

-- a pin's level is its number
abbrev pub level : ℕ → ℕ
level p = p

-- what a start brings to test j
abbrev pub test_seed : Table → ℕ → ℕ → ℕ → ℕ
test_seed t mode j = seed_of (mode_of mode) level (structure t) (times t) (clock_pin (structure t) j)

-- the clock side is known, and what each start brings before credit, and the arcs stand sorted with their weights
pub record Prepared (t : Table) (mode : ℕ) (w : List ℕ) : Type 0 where
  pub clocked : Clocked t w
  pub based : Based (mode_of mode) t w
  pub by-arcs : Arcs (structure t) (weighing t mode) (plan w)

-- and the seeds are those of test j
pub record Sown (t : Table) (mode j : ℕ) (w : List ℕ) : Type 0 where
  pub prepared : Prepared t mode w
  pub laid : Laid (structure t) (weighing t mode) (test_seed t mode j) (plan w)

-- and the least values
pub record Walks (t : Table) (mode j : ℕ) (w : List ℕ) : Type 0 where
  pub sown : Sown t mode j w
  pub test : j < test_count t
  pub lower : Lower (structure t) (weighing t mode) (test_seed t mode j) (least_at w)

-- test j is laid, and the slots stay
pub record Lay (t : Table) (mode j : ℕ) (w₀ w : List ℕ) : Type 0 where
  pub walks : Walks t mode j w
  pub slots : (i : ℕ) → i < arcs_at → get_or w i 0 ≡ get_or w₀ i 0
  pub long : length w ≡ length w₀
