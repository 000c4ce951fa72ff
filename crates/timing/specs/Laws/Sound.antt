-- A sound structure: what the check of a table ensures of what is joined to what. Paths and clock routes lean on this and on nothing else of a table.
-- Assumes nothing.
use Rattle.std.specs.Prelude.{◌≡◌, ◌⊎◌, ◌≢◌, true, ℕ, ◌≤◌, ◌<◌, length, eqb}
use Rattle.lists.specs.Parts.{below, those}
use Rattle.timing.specs.Limits.{most_pins}
use Rattle.timing.specs.Kinds.{R, B, K, D, may_drive}
use Rattle.timing.specs.Structure.{Structure, pins, arcs, tests, kind, leaves, enters, clock_pin, data_pin}
use Rattle.timing.specs.Clock.{into}

pub record Sound (s : Structure) : Type 0 where
  pub few-pins : pins s ≤ most_pins
  pub one-root : length (those (λ (p : ℕ). eqb (kind s p) R) (below (pins s))) ≡ 1
  -- both ends of an arc are pins
  pub from_in : (a : ℕ) → a < arcs s → leaves s a < pins s
  pub to_in : (a : ℕ) → a < arcs s → enters s a < pins s
  -- a place for each pin, such that every arc rises: here the pin's own number
  pub level : ℕ → ℕ
  pub level_in : (p : ℕ) → p < pins s → level p < pins s
  pub rises : (a : ℕ) → a < arcs s → level (leaves s a) < level (enters s a)
  pub drives : (a : ℕ) → a < arcs s → may_drive (kind s (leaves s a)) (kind s (enters s a)) ≡ true
  -- "Each B and K has exactly one arc coming in, each D at least one."
  pub one_in : (p : ℕ) → p < pins s → (kind s p ≡ B) ⊎ (kind s p ≡ K) → length (into s p) ≡ 1
  pub some_in : (p : ℕ) → p < pins s → kind s p ≡ D → length (into s p) ≢ 0
  -- "A test names a K pin, a D pin"
  pub clock-in : (j : ℕ) → j < tests s → clock_pin s j < pins s
  pub clock-kind : (j : ℕ) → j < tests s → kind s (clock_pin s j) ≡ K
  pub data-in : (j : ℕ) → j < tests s → data_pin s j < pins s
  pub data-kind : (j : ℕ) → j < tests s → kind s (data_pin s j) ≡ D
