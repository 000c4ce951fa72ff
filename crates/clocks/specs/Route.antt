-- The seeds of a test by the route of its clock: the pins of the route have their own credit, and each other clock pin takes the credit of the pin that drives
-- it, since the common pin of v and c is v where v is on c's route, and else that of v's driver and c.
-- Assumes nothing.
use Rattle.std.specs.Prelude.{◌≡◌, List, ℕ, ◌+◌, ◌<◌, length, get_or, set, eqb, ltb}
use Rattle.lists.specs.Choice.{pick}
use Rattle.lists.specs.Parts.{any}
use Rattle.timing.specs.Table.{Table, pin_count}
use Rattle.timing.specs.Structure.{structure, times}
use Rattle.timing.specs.Clock.{route, pin_credit}
use Rattle.area.specs.Area.{seeds_at, credits_at, drivers_at, bases_at, none}
use Rattle.clocks.specs.Clocked.{seed_with}

-- ---- the route

-- no pin has a credit yet
pub record Unmarked (t : Table) (w : List ℕ) : Type 0 where
  pub clear : (q : ℕ) → q < pin_count t → get_or w (credits_at + q) 0 ≡ none

-- a pin's own credit where it is on c's route; none at any other
unfoldable pub route_credit : Table → ℕ → ℕ → ℕ
route_credit t c q = pick (any (eqb q) (route (structure t) c)) (pin_credit (structure t) (times t) q) none

pub record Marked (t : Table) (c : ℕ) (w : List ℕ) : Type 0 where
  pub credit : (q : ℕ) → q < pin_count t → get_or w (credits_at + q) 0 ≡ route_credit t c q

-- ---- one turn of the pass over the pins

-- the pin that drives p
abbrev pub driver_in : List ℕ → ℕ → ℕ
driver_in w p = get_or w (drivers_at + p) 0

-- the credit of clock pin p: its own if it has one, else that of pin u, which drives it
unfoldable pub credit_down : List ℕ → ℕ → ℕ → ℕ
credit_down w p u = pick (ltb (get_or w (credits_at + p) 0) none) (get_or w (credits_at + p) 0) (get_or w (credits_at + u) 0)

-- where a pin drives p, it is below p, and the credit that comes down is one
pub record NextSeed (w : List ℕ) (p : ℕ) : Type 0 where
  pub room : bases_at + p < length w
  pub below : driver_in w p < none → driver_in w p < p
  pub light : driver_in w p < none → credit_down w p (driver_in w p) < none

-- credit x and its seed laid at p
abbrev pub laid_with : List ℕ → ℕ → ℕ → List ℕ
laid_with w p x = set (set w (credits_at + p) x) (seeds_at + p) (seed_with (get_or w (bases_at + p) 0) x)

-- the area after the turn of p: the base of a pin that nothing drives is its seed
unfoldable pub with_seed : List ℕ → ℕ → List ℕ
with_seed w p = pick (ltb (driver_in w p) none) (laid_with w p (credit_down w p (driver_in w p))) (set w (seeds_at + p) (get_or w (bases_at + p) 0))
