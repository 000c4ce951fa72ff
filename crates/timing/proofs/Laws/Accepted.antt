-- What an accepted table holds: each condition of 6 to 13 fails at each place, so its structure is sound and its times are within the limits.
-- Assumes nothing.
use Rattle.std.specs.Prelude.{◌≡◌, refl, ◌⊎◌, ◌≢◌, ◌↔◌, Bool, true, false, not, ◌&&◌, ◌||◌, ◌∷◌, ◌++◌, ℕ, ◌≤◌, ◌<◌, eqb, leb, ltb}
use Rattle.std.proofs.Math.Path.{ap, ap₂}
use Rattle.std.proofs.Common.{◌∙◌, inl, inr, arith}
use Rattle.std.proofs.Math.Option.{none}
use borrow.Author.Tests.{ltb-true, ltb-false, leb-true, eqb-true, eqb-false, not-false}
use Rattle.std.proofs.Math.ListN.{length}
use Rattle.lists.specs.Choice.{ground}
use Rattle.lists.proofs.Laws.Cases.{clash, and_both, or-none}
use Rattle.lists.specs.Laws.Unmet.{Unmet}
use Rattle.lists.proofs.Laws.Unmet.{unmet-none, unmet-nil, unmet-cons, unmet-first, unmet-rest, unmet-both, unmet-left, unmet-right, unmet-gather, unmet-each}
use Rattle.timing.specs.declared.Refusal.TheVariants.{TableHeader, PinNumbers, RootCount, ArcsInto, TestNumbers}
use Rattle.timing.specs.Limits.{most_pins, most_arcs, most_tests, most_time}
use Rattle.timing.specs.Kinds.{B, K, D, has_times, may_drive}
use Rattle.timing.specs.Table.{Table, pin_count, arc_count, test_count, period_of, length_for, early, late, pin_kind, pin_time, arc_from, arc_to, test_clock, test_data, test_setup, test_hold}
use Rattle.timing.specs.Structure.{Structure, pins, arcs, tests, kind, leaves, enters, clock_pin, data_pin, structure, times}
use Rattle.timing.specs.Clock.{into}
use Rattle.timing.specs.Check.{header_bad, range_bad, pin_numbers_bad, pin_bad, roots_bad, end_numbers_bad, ends_bad, kinds_bad, delay_bad, arcs_into, into_numbers_bad, into_bad, is_of, test_bad, pin_grounds, arc_ground, arc_grounds, into_grounds, test_grounds, table_grounds, table_fault}
use Rattle.timing.specs.Laws.Sound.{Sound}
use Rattle.timing.specs.Laws.Ranged.{Ranged}
use Rattle.timing.proofs.Laws.Columns.{pins-is, arcs-is, tests-is, kind-is, leaves-is, enters_is, clock-is, data_is, into-is, roots-are}
use Rattle.timing.specs.Laws.Accepted.{Clear, HeaderFits, TestFits, Accepted}

clear : (t : Table) → table_fault t ≡ none → Clear t
unfolding table_fault table_grounds pin_grounds arc_grounds arc_ground into_grounds test_grounds
clear t h =
    let P = pin_grounds t in
    let A = arc_grounds t in
    let J = into_grounds t in
    let S = test_grounds t in
    let r8 = ground (roots_bad t) RootCount in
    let all = (unmet-none (table_grounds t)).0 h in
    let from-pins : Unmet (P ++ (r8 ∷ (A ++ (J ++ S)))) = unmet-rest all in
    let from-roots : Unmet (r8 ∷ (A ++ (J ++ S))) = unmet-right P (r8 ∷ (A ++ (J ++ S))) from-pins in
    let from-arcs : Unmet (A ++ (J ++ S)) = unmet-rest from-roots in
    let from-into : Unmet (J ++ S) = unmet-right A (J ++ S) from-arcs in
    let arc : (a : ℕ) → a < arc_count t → Unmet (arc_ground t a) = (unmet-gather (arc_ground t) (arc_count t)).0 (unmet-left A (J ++ S) from-arcs) in
    record {
      header = unmet-first (header_bad t) TableHeader (P ++ (r8 ∷ (A ++ (J ++ S)))) all;
      pin = (unmet-each (pin_bad t) PinNumbers (pin_count t)).0 (unmet-left P (r8 ∷ (A ++ (J ++ S))) from-pins);
      roots = unmet-first (roots_bad t) RootCount (A ++ (J ++ S)) from-roots;
      ends = λ a l. unmet-first _ _ _ (arc a l);
      pair = λ a l. unmet-first _ _ _ (unmet-rest (arc a l));
      range = λ a l. unmet-first _ _ _ (unmet-rest (unmet-rest (arc a l)));
      ins = (unmet-each (into_bad t) ArcsInto (pin_count t)).0 (unmet-left J S from-into);
      test = (unmet-each (test_bad t) TestNumbers (test_count t)).0 (unmet-right J S from-into);
    }

clear_none : (t : Table) → Clear t → table_fault t ≡ none
unfolding table_fault table_grounds pin_grounds arc_grounds arc_ground into_grounds test_grounds
clear_none t c =
    (unmet-none (table_grounds t)).1
    (unmet-cons c.header
    (unmet-both ((unmet-each (pin_bad t) PinNumbers (pin_count t)).1 c.pin)
    (unmet-cons c.roots
    (unmet-both
    ((unmet-gather (arc_ground t) (arc_count t)).1
    (λ a l. unmet-cons (c.ends a l) (unmet-cons (c.pair a l) (unmet-cons (c.range a l) unmet-nil))))
    (unmet-both ((unmet-each (into_bad t) ArcsInto (pin_count t)).1 c.ins) ((unmet-each (test_bad t) TestNumbers (test_count t)).1 c.test))))))

-- accepted exactly if no condition holds anywhere
pub clear-exactly : (t : Table) → (table_fault t ≡ none) ↔ Clear t
clear-exactly t = (clear t, clear_none t)

pub header-fits : (t : Table) → header_bad t ≡ false → HeaderFits t
unfolding header_bad
header-fits t h =
    let p = pin_count t in
    let a = arc_count t in
    let j = test_count t in
    let x = period_of t in
    let r = or-none (not (leb 1 p && leb p most_pins && leb a most_arcs && leb j most_tests && leb 1 x && leb x most_time)) (not (eqb (length t) (length_for p a j))) h in
    let b5 = and_both (leb 1 p && leb p most_pins && leb a most_arcs && leb j most_tests && leb 1 x) (leb x most_time) (not-false _ r.0) in
    let b4 = and_both (leb 1 p && leb p most_pins && leb a most_arcs && leb j most_tests) (leb 1 x) b5.0 in
    let b3 = and_both (leb 1 p && leb p most_pins && leb a most_arcs) (leb j most_tests) b4.0 in
    let b2 = and_both (leb 1 p && leb p most_pins) (leb a most_arcs) b3.0 in
    let b1 = and_both (leb 1 p) (leb p most_pins) b2.0 in
    record {
      some-pins = leb-true _ _ b1.0;
      few-pins = leb-true _ _ b1.1;
      few-arcs = leb-true _ _ b2.1;
      few-tests = leb-true _ _ b3.1;
      some-period = leb-true _ _ b4.1;
      short-period = leb-true _ _ b5.1;
      whole = eqb-true _ _ (not-false _ r.1);
    }

good-range : (e l : ℕ) → range_bad e l ≡ false → (e ≤ l) × (l ≤ most_time)
good-range e l h = let r = and_both (leb e l) (leb l most_time) (not-false _ h) in (leb-true e l r.0, leb-true l most_time r.1)

-- a pin's kind and range
pin-fits : (k e l : ℕ) → pin_numbers_bad k e l ≡ false → (k ≤ 4) × (e ≤ l) × (l ≤ most_time)
pin-fits k e l h =
    let r = or-none (ltb D k || has_times k && range_bad e l) (not (has_times k) && not (eqb e 0 && eqb l 0)) h in
    let f = or-none (ltb D k) (has_times k && range_bad e l) r.0 in
    let q = go (has_times k) f.1 r.1 in
    (ltb-false D k f.0, q.0, q.1)
  where
    go : (b : Bool) → (b && range_bad e l) ≡ false → (not b && not (eqb e 0 && eqb l 0)) ≡ false → (e ≤ l) × (l ≤ most_time)
    go true f g = good-range e l f
    go false f g =
        let z = and_both (eqb e 0) (eqb l 0) (not-false _ g) in
        let ez : e ≡ 0 = eqb-true e 0 z.0 in
        let lz : l ≡ 0 = eqb-true l 0 z.1 in
        (omega arith, omega arith)

arc-fits : (p from to : ℕ) → end_numbers_bad p from to ≡ false → (from < p) × (to < p) × (from < to)
arc-fits p from to h =
    let r = and_both (ltb from p && ltb to p) (ltb from to) (not-false _ h) in
    let q = and_both (ltb from p) (ltb to p) r.0 in
    (ltb-true _ _ q.0, ltb-true _ _ q.1, ltb-true _ _ r.1)

into-fits : (k n : ℕ) → into_numbers_bad k n ≡ false → ((k ≡ B) ⊎ (k ≡ K) → n ≡ 1) × (k ≡ D → n ≢ 0)
into-fits k n h = (
  (λ c. one c),
  (λ e q.
      let z : eqb n 0 ≡ false = rw e at (or-none ((eqb k B || eqb k K) && not (eqb n 1)) (eqb k D && eqb n 0) h).1 in
      eqb-false n 0 z q),
)
  where
    some_one : (b : Bool) → b ≡ true → (b && not (eqb n 1)) ≡ false → n ≡ 1
    some_one true e f = eqb-true n 1 (not-false _ f)
    some_one false e f = clash false e refl

    clocked : (k ≡ B) ⊎ (k ≡ K) → (eqb k B || eqb k K) ≡ true
    clocked (inl e) = rw e
    clocked (inr e) = rw e

    one : (k ≡ B) ⊎ (k ≡ K) → n ≡ 1
    one c = some_one (eqb k B || eqb k K) (clocked c) (or-none ((eqb k B || eqb k K) && not (eqb n 1)) (eqb k D && eqb n 0) h).0

is-of : (t : Table) (k p : ℕ) → is_of t k p ≡ true → (p < pin_count t) × (pin_kind t p ≡ k)
unfolding is_of
is-of t k p h = let r = and_both (ltb p (pin_count t)) (eqb (pin_kind t p) k) h in (ltb-true _ _ r.0, eqb-true _ _ r.1)

test_fits : (t : Table) (j : ℕ) → test_bad t j ≡ false → TestFits t j
unfolding test_bad
test_fits t j h =
    let c = is_of t K (test_clock t j) in
    let d = is_of t D (test_data t j) in
    let r3 = and_both (c && d && leb (test_setup t j) most_time) (leb (test_hold t j) most_time) (not-false _ h) in
    let r2 = and_both (c && d) (leb (test_setup t j) most_time) r3.0 in
    let r1 = and_both c d r2.0 in
    record {
      clock = is-of t K (test_clock t j) r1.0;
      data-pin = is-of t D (test_data t j) r1.1;
      setup = leb-true _ _ r2.1;
      hold = leb-true _ _ r3.1;
    }

module _ (t : Table) (c : Clear t) where
  abbrev s : Structure
  s = structure t

  abbrev fits : HeaderFits t
  fits = header-fits t c.header

  -- places of the structure are places of the table
  pin-place : (p : ℕ) → p < pins s → p < pin_count t
  pin-place p l = rw (pins-is t) at l

  arc-place : (a : ℕ) → a < arcs s → a < arc_count t
  arc-place a l = rw (arcs-is t) at l

  test-place : (j : ℕ) → j < tests s → j < test_count t
  test-place j l = rw (tests-is t) at l

  ends_of : (a : ℕ) → a < arcs s → (leaves s a < pin_count t) × (enters s a < pin_count t) × (leaves s a < enters s a)
  unfolding ends_bad
  ends_of a l =
      let k = arc-place a l in
      rw (leaves-is t a k, enters_is t a k) (arc-fits (pin_count t) (arc_from t a) (arc_to t a) (c.ends a k))

  kinds-of : (a : ℕ) → a < arcs s → may_drive (kind s (leaves s a)) (kind s (enters s a)) ≡ true
  unfolding kinds_bad
  kinds-of a l =
      let k = arc-place a l in
      let e = ends_of a l in
      ap₂ may_drive (kind-is t (leaves s a) e.0 ∙ ap (pin_kind t) (leaves-is t a k)) (kind-is t (enters s a) e.1 ∙ ap (pin_kind t) (enters_is t a k))
      ∙ not-false _ (c.pair a k)

  into-of : (p : ℕ) → p < pins s → ((kind s p ≡ B) ⊎ (kind s p ≡ K) → length (into s p) ≡ 1) × (kind s p ≡ D → length (into s p) ≢ 0)
  unfolding into_bad
  into-of p l =
      let k = pin-place p l in
      rw (kind-is t p k, into-is t p) (into-fits (pin_kind t p) (length (arcs_into t p)) (c.ins p k))

  clock-of : (j : ℕ) → j < tests s → (clock_pin s j < pins s) × (kind s (clock_pin s j) ≡ K)
  clock-of j l =
      let k = test-place j l in
      let f = (test_fits t j (c.test j k)).clock in
      rw (clock-is t j k, pins-is t) (f.0, kind-is t (test_clock t j) f.0 ∙ f.1)

  data_of : (j : ℕ) → j < tests s → (data_pin s j < pins s) × (kind s (data_pin s j) ≡ D)
  data_of j l =
      let k = test-place j l in
      let f = (test_fits t j (c.test j k)).data-pin in
      rw (data_is t j k, pins-is t) (f.0, kind-is t (test_data t j) f.0 ∙ f.1)

  clear-sound : Sound s
  unfolding roots_bad
  clear-sound =
      record {
        few-pins = rw (pins-is t) fits.few-pins;
        one-root = ap length (roots-are t) ∙ eqb-true _ _ (not-false _ c.roots);
        from_in = λ a l. rw (pins-is t) (ends_of a l).0;
        to_in = λ a l. rw (pins-is t) (ends_of a l).1;
        level = λ p. p;
        level_in = λ p l. l;
        rises = λ a l. (ends_of a l).2;
        drives = kinds-of;
        one_in = λ p l. (into-of p l).0;
        some_in = λ p l. (into-of p l).1;
        clock-in = λ j l. (clock-of j l).0;
        clock-kind = λ j l. (clock-of j l).1;
        data-in = λ j l. (data_of j l).0;
        data-kind = λ j l. (data_of j l).1;
      }

  clear-ranged : Ranged s (times t)
  unfolding times pin_bad delay_bad
  clear-ranged =
      record {
        arrivals = λ p l. (pin-fits (pin_kind t p) (pin_time t early p) (pin_time t late p) (c.pin p (pin-place p l))).1;
        arrival-most = λ p l. (pin-fits (pin_kind t p) (pin_time t early p) (pin_time t late p) (c.pin p (pin-place p l))).2;
        delays = λ a l. (good-range _ _ (c.range a (arc-place a l))).0;
        delay-most = λ a l. (good-range _ _ (c.range a (arc-place a l))).1;
        setup-most = λ j l. (test_fits t j (c.test j (test-place j l))).setup;
        hold-most = λ j l. (test_fits t j (c.test j (test-place j l))).hold;
        period-most = fits.short-period;
      }

pub accepted : (t : Table) → table_fault t ≡ none → Accepted t
accepted t h =
    let c = clear t h in
    record { header = header-fits t c.header; sound = clear-sound t c; ranged = clear-ranged t c }

-- the level of a pin is its number
pub accepted-level : (t : Table) (h : table_fault t ≡ none) → (accepted t h).sound.level ≡ (λ (p : ℕ). p)
unfolding accepted clear-sound
accepted-level t h = refl
