-- What demand 3 supposes of two designs, and what was moved between them, number by number of their tables.
-- Assumes nothing.
use Rattle.std.specs.Prelude.{◌≡◌, ◌⊎◌, ℕ, ◌+◌, ◌-◌, ◌≤◌, ◌<◌}
use Rattle.lists.specs.Parts.{below, sum}
use Rattle.timing.specs.Kinds.{R, I}
use Rattle.timing.specs.Table.{Table, pin_count, arc_count, test_count, period_of, early, late, pin_kind, pin_time, arc_from, arc_to, arc_time, test_clock, test_data, test_setup, test_hold}

-- "the same pin kinds, arc ends, test pins"
pub record SameStructure (t u : Table) : Type 0 where
  pub pins : pin_count t ≡ pin_count u
  pub arcs : arc_count t ≡ arc_count u
  pub tests : test_count t ≡ test_count u
  pub kinds : (p : ℕ) → p < pin_count t → pin_kind t p ≡ pin_kind u p
  pub froms : (a : ℕ) → a < arc_count t → arc_from t a ≡ arc_from u a
  pub tos : (a : ℕ) → a < arc_count t → arc_to t a ≡ arc_to u a
  pub clocks : (j : ℕ) → j < test_count t → test_clock t j ≡ test_clock u j
  pub datas : (j : ℕ) → j < test_count t → test_data t j ≡ test_data u j

-- the range from e' to l' contains the range from e to l
abbrev pub Contains : ℕ → ℕ → ℕ → ℕ → Type 0
Contains e' l' e l = (e' ≤ e) × (l ≤ l')

-- "In the second, each arrival and delay range contains the first's, no setup or hold time is smaller, and the period is no longer."
pub record Wider (t u : Table) : Type 0 where
  pub arrivals : (p : ℕ) → p < pin_count t → (pin_kind t p ≡ R) ⊎ (pin_kind t p ≡ I)
      → Contains (pin_time u early p) (pin_time u late p) (pin_time t early p) (pin_time t late p)
  pub delays : (a : ℕ) → a < arc_count t → Contains (arc_time u early a) (arc_time u late a) (arc_time t early a) (arc_time t late a)
  pub setups : (j : ℕ) → j < test_count t → test_setup t j ≤ test_setup u j
  pub holds : (j : ℕ) → j < test_count t → test_hold t j ≤ test_hold u j
  pub period : period_of u ≤ period_of t

-- "everything that was widened, lengthened or shortened, added up": both ends of every arrival and of every delay, clock arcs and data arcs alike, every setup
-- and hold time, and the period
unfoldable pub moved : Table → Table → ℕ
moved t u =
    sum (λ p. (pin_time t early p - pin_time u early p) + (pin_time u late p - pin_time t late p)) (below (pin_count t))
    + sum (λ a. (arc_time t early a - arc_time u early a) + (arc_time u late a - arc_time t late a)) (below (arc_count t))
    + sum (λ j. (test_setup u j - test_setup t j) + (test_hold u j - test_hold t j)) (below (test_count t))
    + (period_of t - period_of u)
