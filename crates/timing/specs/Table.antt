-- The table: where each number of a design stands. A number that is not there reads as 0.
-- "32-bit unsigned numbers: P, A, T, period; then per pin kind, early, late; per arc from, to, early, late; per test clock, data, setup, hold."
-- Assumes nothing.
use Rattle.std.specs.Prelude.{ℕ, ◌+◌, ◌*◌, List, get_or}

abbrev pub Table : Type 0
Table = List ℕ

-- ---- the header

abbrev pub pin_count : Table → ℕ
pin_count t = get_or t 0 0

abbrev pub arc_count : Table → ℕ
arc_count t = get_or t 1 0

abbrev pub test_count : Table → ℕ
test_count t = get_or t 2 0

abbrev pub period_of : Table → ℕ
period_of t = get_or t 3 0

-- "Its length is exactly 4 + 3P + 4A + 4T."
abbrev pub length_for : ℕ → ℕ → ℕ → ℕ
length_for p a t = 4 + 3 * p + 4 * a + 4 * t

-- ---- number n of pin p, of arc a, of test j

abbrev pub of_pin : Table → ℕ → ℕ → ℕ
of_pin t n p = get_or t (4 + 3 * p + n) 0

abbrev pub of_arc : Table → ℕ → ℕ → ℕ
of_arc t n a = get_or t (4 + 3 * pin_count t + 4 * a + n) 0

abbrev pub of_test : Table → ℕ → ℕ → ℕ
of_test t n j = get_or t (4 + 3 * pin_count t + 4 * arc_count t + 4 * j + n) 0

-- ---- what these numbers are

-- The two ends of a range. What holds of one end holds of the other, so definitions and laws take the end as an argument.
pub data Edge : Type 0 where
  early late : Edge

abbrev pub pin_kind : Table → ℕ → ℕ
pin_kind t = of_pin t 0

abbrev pub pin_time : Table → Edge → ℕ → ℕ
pin_time t early = of_pin t 1
pin_time t late = of_pin t 2

abbrev pub arc_from : Table → ℕ → ℕ
arc_from t = of_arc t 0

abbrev pub arc_to : Table → ℕ → ℕ
arc_to t = of_arc t 1

abbrev pub arc_time : Table → Edge → ℕ → ℕ
arc_time t early = of_arc t 2
arc_time t late = of_arc t 3

abbrev pub test_clock : Table → ℕ → ℕ
test_clock t = of_test t 0

abbrev pub test_data : Table → ℕ → ℕ
test_data t = of_test t 1

abbrev pub test_setup : Table → ℕ → ℕ
test_setup t = of_test t 2

abbrev pub test_hold : Table → ℕ → ℕ
test_hold t = of_test t 3
