-- Two times of one structure, the second's ranges containing the first's: no slack is greater in the second, and none is lower by more than all that
-- was widened, lengthened or shortened, added up.
--
-- The slack is the sum of the picks for a path less those against it. Widening lowers the first and raises the second. Each arc and each pin is picked
-- once, so what a sum moves by is at most what all of them moved by. A ranking by such a slack moves rank by rank as the slacks of its items do.
-- Assumes nothing.
use Rattle.std.specs.Prelude.{◌≡◌, ◌⊎◌, ℕ, ◌+◌, ◌-◌, ◌≤◌, ◌<◌}
use Rattle.lists.specs.Parts.{below, sum}
use Rattle.timing.specs.Kinds.{R, I}
use Rattle.timing.specs.Table.{early, late}
use Rattle.timing.specs.Structure.{Structure, pins, arcs, tests, kind, Times}

-- "In the second, each arrival and delay range contains the first's, no setup or hold time is smaller, and the period is no longer."
pub record Wider (s : Structure) (x y : Times) : Type 0 where
  pub pin-early : (p : ℕ) → p < pins s → (kind s p ≡ R) ⊎ (kind s p ≡ I) → y.arrival early p ≤ x.arrival early p
  pub pin-late : (p : ℕ) → p < pins s → (kind s p ≡ R) ⊎ (kind s p ≡ I) → x.arrival late p ≤ y.arrival late p
  pub arc-early : (a : ℕ) → a < arcs s → y.delay early a ≤ x.delay early a
  pub arc-late : (a : ℕ) → a < arcs s → x.delay late a ≤ y.delay late a
  pub setups : (j : ℕ) → j < tests s → x.setup j ≤ y.setup j
  pub holds : (j : ℕ) → j < tests s → x.hold j ≤ y.hold j
  pub shorter : y.period ≤ x.period

-- by how much f is above g, over the numbers below n
unfoldable pub above : (ℕ → ℕ) → (ℕ → ℕ) → ℕ → ℕ
above f g n = sum (λ (i : ℕ). f i - g i) (below n)

-- "everything that was widened, lengthened or shortened, added up"
unfoldable pub moved : Structure → Times → Times → ℕ
moved s x y =
    above (x.arrival early) (y.arrival early) (pins s)
    + above (y.arrival late) (x.arrival late) (pins s)
    + above (x.delay early) (y.delay early) (arcs s)
    + above (y.delay late) (x.delay late) (arcs s)
    + above y.setup x.setup (tests s)
    + above y.hold x.hold (tests s)
    + (x.period - y.period)
