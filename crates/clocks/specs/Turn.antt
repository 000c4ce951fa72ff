-- One turn of the pass over the pins: what it asks, and what it answers for its pin.
-- Assumes nothing.
use Rattle.std.specs.Prelude.{◌≡◌, ◌⊎◌, List, ℕ, ◌+◌, ◌<◌, length, set}
use Rattle.std.specs.Option.{unwrap_or}
use Rattle.timing.specs.Kinds.{B, K}
use Rattle.timing.specs.Table.{Table, early, late, pin_count}
use Rattle.timing.specs.Structure.{kind, structure, times}
use Rattle.timing.specs.Clock.{climb, clock_arrival}
use Rattle.area.specs.Area.{arrivals_at, depths_at, drivers_at, none}
use Rattle.clocks.specs.declared.Clocking.{Clocking}
use Rattle.clocks.specs.Clocked.{Ready, ClockPin, Parented, ClockedTo, driver_for}

-- parents are known, the pins below p are done, and p is next
pub record Next (t : Table) (p : ℕ) (w : List ℕ) : Type 0 where
  pub ready : Ready t w
  pub parents : Parented t w
  pub so_far : ClockedTo t p w
  pub inside : p < pin_count t

-- and p is a B or a K
pub record NextDriven (t : Table) (p : ℕ) (w : List ℕ) : Type 0 where
  pub next : Next t p w
  pub driven : (kind (structure t) p ≡ B) ⊎ (kind (structure t) p ≡ K)

-- the numbers of one pin, the first three where it is of the clock tree
pub record Arrives (t : Table) (p : ℕ) (c : Clocking) : Type 0 where
  pub is-early : ClockPin t p → c.early ≡ clock_arrival early (structure t) (times t) p
  pub is-late : ClockPin t p → c.late ≡ clock_arrival late (structure t) (times t) p
  pub is-depth : ClockPin t p → c.depth ≡ length (climb (structure t) p)
  pub is-driver : unwrap_or c.driver none ≡ driver_for t p

-- the area with the numbers of pin p at its four places
abbrev pub with_clocking : List ℕ → ℕ → Clocking → List ℕ
with_clocking w p c = set (set (set (set w (arrivals_at early + p) c.early) (arrivals_at late + p) c.late) (depths_at + p) c.depth) (drivers_at + p) (unwrap_or c.driver none)
