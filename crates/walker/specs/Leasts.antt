-- The least value that a walk can have that goes on from a pin, pin after pin: a start's seed, and at any other pin no more than each arc into it brings.
-- Assumes nothing.
use Rattle.std.specs.Prelude.{◌≡◌, List, ℕ, ◌+◌, ◌≤◌, ◌<◌, length}
use Rattle.timing.specs.Structure.{Structure, pins, arcs, leaves, enters}
use Rattle.area.specs.Area.{Kept, none, plan, word_at, first_at, seed_at, from_in, weight_in, leasts_at, clocks_at}
use Rattle.walker.specs.Cursors.{Planned, Lower, least_at}

-- the arcs into v stand where the work area says, and the numbers of the pins that they leave stand too
pub record Into (w : List ℕ) (v : ℕ) : Type 0 where
  pub long : clocks_at ≤ length w
  pub pin : v < 256
  pub fits : first_at (plan w) (v + 1) ≤ 1024
  pub low : (i : ℕ) → first_at (plan w) v ≤ i → i < first_at (plan w) (v + 1) → least_at w (from_in (word_at (plan w) i)) ≤ none

-- r is at most what each arc into pin v brings
pub record Least (w : List ℕ) (v r : ℕ) : Type 0 where
  pub most : r ≤ none
  pub under : (i : ℕ) → first_at (plan w) v ≤ i → i < first_at (plan w) (v + 1) → r ≤ least_at w (from_in (word_at (plan w) i)) + weight_in (word_at (plan w) i)

-- at a start it is the seed
pub record LeastAt (w : List ℕ) (v r : ℕ) : Type 0 where
  pub most : r ≤ none
  pub start : seed_at (plan w) v < none → r ≡ seed_at (plan w) v
  pub other : none ≤ seed_at (plan w) v → Least w v r

-- each arc leaves a pin of a lower number
abbrev pub Rises : Structure → Type 0
Rises s = (a : ℕ) → a < arcs s → leaves s a < enters s a

pub record Laid (w : List ℕ) (p : ℕ) : Type 0 where
  pub of : Structure
  pub weight : ℕ → ℕ
  pub seed : ℕ → ℕ
  pub planned : Planned of weight seed (plan w)
  pub rises : Rises of
  pub size : p ≡ pins of
  pub long : clocks_at ≤ length w

-- nothing is new in the work area but the least values
abbrev pub Beside : List ℕ → List ℕ → Type 0
Beside = Kept leasts_at clocks_at

-- the least values of the pins below v stand
pub record Leasts (w₀ w : List ℕ) (v : ℕ) : Type 0 where
  pub beside : Beside w₀ w
  pub are : (u : ℕ) → u < v → LeastAt w u (least_at w u)

-- those of all pins
pub record AllLeasts (w₀ w : List ℕ) (p : ℕ) : Type 0 where
  pub beside : Beside w₀ w
  pub lower : (s : Structure) (weight seed : ℕ → ℕ) → Planned s weight seed (plan w₀) → p ≡ pins s → Lower s weight seed (least_at w)
