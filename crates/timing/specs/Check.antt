-- The check of a table: refusals 6 to 13, "6, all pins 7, 8, then arc by arc 9, 10, 11, all pins 12, all tests 13".
--
-- Each condition has a name and says when the number is refused, for any list of numbers whatever. The order is the order of one list of grounds, and
-- the first ground that is met decides.
-- Assumes nothing.
use Rattle.std.specs.Prelude.{ℕ, Bool, not, ◌&&◌, ◌||◌, List, [], ◌∷◌, ◌++◌, length, eqb, leb, ltb}
use Rattle.std.proofs.Math.Option.{Option}
use Rattle.lists.specs.Choice.{Ground, ground, first_met}
use Rattle.lists.specs.Parts.{below, those, each, gather}
use Rattle.timing.specs.declared.Refusal.{Refusal}
use Rattle.timing.specs.declared.Refusal.TheVariants.{TableHeader, PinNumbers, RootCount, ArcEnds, ArcKinds, ArcRange, ArcsInto, TestNumbers}
use Rattle.timing.specs.Limits.{most_pins, most_arcs, most_tests, most_time}
use Rattle.timing.specs.Kinds.{R, B, K, D, has_times, may_drive}
use Rattle.timing.specs.Table.{Table, pin_count, arc_count, test_count, period_of, length_for, early, late, pin_kind, pin_time, arc_from, arc_to, arc_time, test_clock, test_data, test_setup, test_hold}

-- ---- 6: "table length wrong, header outside limits"

abbrev pub limits_bad : ℕ → ℕ → ℕ → ℕ → Bool
limits_bad p a t x = not (leb 1 p && leb p most_pins && leb a most_arcs && leb t most_tests && leb 1 x && leb x most_time)

unfoldable pub header_bad : Table → Bool
header_bad t =
    limits_bad (pin_count t) (arc_count t) (test_count t) (period_of t)
    || not (eqb (length t) (length_for (pin_count t) (arc_count t) (test_count t)))

-- ---- 7: "pin: kind over 4, bad range, times on B, K or D"

-- "Each range has early at most late and both within the limit; any other is bad."
abbrev pub range_bad : ℕ → ℕ → Bool
range_bad e l = not (leb e l && leb l most_time)

-- "R and I have an early and a late arrival; the other kinds hold 0 in both places.": a pin of kind k with arrivals e and l
abbrev pub pin_numbers_bad : ℕ → ℕ → ℕ → Bool
pin_numbers_bad k e l = ltb D k || has_times k && range_bad e l || not (has_times k) && not (eqb e 0 && eqb l 0)

unfoldable pub pin_bad : Table → ℕ → Bool
pin_bad t p = pin_numbers_bad (pin_kind t p) (pin_time t early p) (pin_time t late p)

-- ---- 8: "not exactly one R"

abbrev pub is_root : Table → ℕ → Bool
is_root t p = eqb (pin_kind t p) R

unfoldable pub roots_bad : Table → Bool
roots_bad t = not (eqb (length (those (is_root t) (below (pin_count t)))) 1)

-- ---- 9: "arc: an end not below P, or from not below to"

abbrev pub end_numbers_bad : ℕ → ℕ → ℕ → Bool
end_numbers_bad p from to = not (ltb from p && ltb to p && ltb from to)

unfoldable pub ends_bad : Table → ℕ → Bool
ends_bad t a = end_numbers_bad (pin_count t) (arc_from t a) (arc_to t a)

-- ---- 10: "arc: pair of kinds not in the 5 by 5"

unfoldable pub kinds_bad : Table → ℕ → Bool
kinds_bad t a = not (may_drive (pin_kind t (arc_from t a)) (pin_kind t (arc_to t a)))

-- ---- 11: "arc: bad range"

unfoldable pub delay_bad : Table → ℕ → Bool
delay_bad t a = range_bad (arc_time t early a) (arc_time t late a)

-- ---- 12: "wrong number of arcs into a pin"

-- the arcs of a table into pin p, ascending
unfoldable pub arcs_into : Table → ℕ → List ℕ
arcs_into t p = those (λ (a : ℕ). eqb (arc_to t a) p) (below (arc_count t))

-- "Each B and K has exactly one arc coming in, each D at least one.": a pin of kind k with n arcs coming in
abbrev pub into_numbers_bad : ℕ → ℕ → Bool
into_numbers_bad k n = (eqb k B || eqb k K) && not (eqb n 1) || eqb k D && eqb n 0

unfoldable pub into_bad : Table → ℕ → Bool
into_bad t p = into_numbers_bad (pin_kind t p) (length (arcs_into t p))

-- ---- 13: "test: clock no K, data no D, setup or hold over limit"

-- p is a pin of kind k
unfoldable pub is_of : Table → ℕ → ℕ → Bool
is_of t k p = ltb p (pin_count t) && eqb (pin_kind t p) k

unfoldable pub test_bad : Table → ℕ → Bool
test_bad t j =
    not (is_of t K (test_clock t j) && is_of t D (test_data t j) && leb (test_setup t j) most_time && leb (test_hold t j) most_time)

-- ---- the order

unfoldable pub pin_grounds : Table → List (Ground Refusal)
pin_grounds t = each (λ (p : ℕ). ground (pin_bad t p) (PinNumbers p)) (below (pin_count t))

-- of one arc
unfoldable pub arc_ground : Table → ℕ → List (Ground Refusal)
arc_ground t a = ground (ends_bad t a) (ArcEnds a) ∷ ground (kinds_bad t a) (ArcKinds a) ∷ ground (delay_bad t a) (ArcRange a) ∷ []

unfoldable pub arc_grounds : Table → List (Ground Refusal)
arc_grounds t = gather (arc_ground t) (below (arc_count t))

unfoldable pub into_grounds : Table → List (Ground Refusal)
into_grounds t = each (λ (p : ℕ). ground (into_bad t p) (ArcsInto p)) (below (pin_count t))

unfoldable pub test_grounds : Table → List (Ground Refusal)
test_grounds t = each (λ (j : ℕ). ground (test_bad t j) (TestNumbers j)) (below (test_count t))

unfoldable pub table_grounds : Table → List (Ground Refusal)
table_grounds t =
    ground (header_bad t) TableHeader
    ∷ (pin_grounds t ++ (ground (roots_bad t) RootCount ∷ (arc_grounds t ++ (into_grounds t ++ test_grounds t))))

-- the refusal of a table, if there is one
unfoldable pub table_fault : Table → Option Refusal
table_fault t = first_met (table_grounds t)
