-- Times within the limits: what the check of a table ensures of its ranges, and the clock arrivals that follow.
-- Assumes nothing.
use Rattle.std.specs.Prelude.{ℕ, ◌≤◌, ◌<◌}
use Rattle.timing.specs.Limits.{most_time}
use Rattle.timing.specs.Table.{early, late}
use Rattle.timing.specs.Structure.{Structure, pins, arcs, tests, Times}

-- "Each range has early at most late and both within the limit"
pub record Ranged (s : Structure) (x : Times) : Type 0 where
  pub arrivals : (p : ℕ) → p < pins s → x.arrival early p ≤ x.arrival late p
  pub arrival-most : (p : ℕ) → p < pins s → x.arrival late p ≤ most_time
  pub delays : (a : ℕ) → a < arcs s → x.delay early a ≤ x.delay late a
  pub delay-most : (a : ℕ) → a < arcs s → x.delay late a ≤ most_time
  pub setup-most : (j : ℕ) → j < tests s → x.setup j ≤ most_time
  pub hold-most : (j : ℕ) → j < tests s → x.hold j ≤ most_time
  pub period-most : x.period ≤ most_time
