-- Where the arcs of the walks in the list are kept: 16 slots of 256 numbers at the front of the work area; in a slot the number of arcs, then the arcs, read
-- backwards from the data pin.
-- Assumes nothing.
use Rattle.std.specs.Prelude.{◌≡◌, ◌⊎◌, List, ℕ, ◌+◌, ◌≤◌, ◌<◌, length, get_or}
use Rattle.area.specs.Area.{plan, first_at, slot_at, arcs_at, turns_at}
use Rattle.walker.specs.declared.Cursor.{Cursor}
use Rattle.walker.specs.Cursors.{Ready, walk_at}

-- the walk u stands in a slot
pub record Stands (w : List ℕ) (slot : ℕ) (u : List ℕ) : Type 0 where
  pub count : get_or w (slot_at slot) 0 ≡ length u
  pub few : length u < 256
  pub arcs : (i : ℕ) → i < length u → get_or w (slot_at slot + 1 + i) 0 ≡ get_or u i 0

-- nothing is new in the work area but the slot
pub record Aside (slot : ℕ) (w₀ w : List ℕ) : Type 0 where
  pub long : length w ≡ length w₀
  pub others : (i : ℕ) → (i < slot_at slot) ⊎ (slot_at (slot + 1) ≤ i) → get_or w i 0 ≡ get_or w₀ i 0

-- the cursor found a walk, and there is a slot for it
pub record Keeps (w : List ℕ) (c : Cursor) (slot : ℕ) : Type 0 where
  pub ready : Ready w c
  pub taken : first_at (plan w) c.pin < c.place
  pub inside : slot < 16

-- its walk is kept
pub record Kept (slot : ℕ) (w₀ : List ℕ) (d p : ℕ) (w : List ℕ) : Type 0 where
  pub aside : Aside slot w₀ w
  pub stands : Stands w slot (walk_at w₀ d p)

-- its first n arcs are
pub record Keeping (slot : ℕ) (w₀ : List ℕ) (d p n : ℕ) (w : List ℕ) : Type 0 where
  pub aside : Aside slot w₀ w
  pub arcs : (i : ℕ) → i < n → get_or w (slot_at slot + 1 + i) 0 ≡ get_or (walk_at w₀ d p) i 0

-- nothing is new in the work area but slots and turns
pub record Still (w₀ w : List ℕ) : Type 0 where
  pub long : length w ≡ length w₀
  pub same : (i : ℕ) → arcs_at ≤ i → i < turns_at → get_or w i 0 ≡ get_or w₀ i 0
