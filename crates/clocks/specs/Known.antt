-- What a checked table and a clocked area tell, for whoever calls.
-- Assumes nothing.
use Rattle.std.specs.Prelude.{◌≡◌, ◌⊎◌, ◌≢◌, Bool, ◌||◌, List, ℕ, ◌+◌, ◌-◌, ◌<◌}
use Rattle.std.proofs.Math.Path.{refl, ap₂}
use Rattle.std.proofs.Common.{◌∙◌, inl, inr, arith}
use Rattle.std.proofs.Math.Bool.{true, false}
use Rattle.std.proofs.Math.Option.{none}
use borrow.Author.Tests.{lt-ltb, ne_eqb}
use Rattle.std.proofs.Math.Dec.{eqb}
use Rattle.lists.specs.Choice.{pick}
use Rattle.timing.specs.Kinds.{K, I}
use Rattle.timing.specs.Table.{Table, early, late, pin_count, test_count, pin_kind, test_clock, test_data}
use Rattle.timing.specs.Structure.{tests, kind, structure, times}
use Rattle.timing.specs.Clock.{pin_credit}
use Rattle.timing.specs.Slack.{Mode, for_setup, for_hold}
use Rattle.timing.specs.Value.{credit_from, seed_of}
use Rattle.timing.specs.Check.{table_fault}
use Rattle.timing.proofs.Laws.Columns.{pins-is, tests-is, kind-is, clock-is, data_is}
use Rattle.timing.proofs.Laws.Accepted.{accepted}
use Rattle.area.specs.Area as area
use Rattle.clocks.specs.Clocked.{ClockPin, Clocked, Spans, credit_in, base_of, base_for, seed_for, seed_with}
use Rattle.clocks.specs.Small.{few-pins, arrival-order, start-most, seed-small}

-- a K is a pin of the clock tree
pub k-pin : (t : Table) (p : ℕ) → p < pin_count t → pin_kind t p ≡ K → ClockPin t p
k-pin t p l e = record { inside = l; clock = inr (inr (kind-is t p l ∙ e)) }

-- the pins of a test
module _ (t : Table) (h : table_fault t ≡ none) (j : ℕ) (l : j < test_count t) where
  place : j < tests (structure t)
  place = rw (tests-is t) l

  pub test-clock : ClockPin t (test_clock t j)
  test-clock =
      let e = clock-is t j l in
      let s = (accepted t h).sound in
      record { inside = rw (e, pins-is t) at (s.clock-in j place); clock = inr (inr (rw e at (s.clock-kind j place))) }

  pub test-data : test_data t j < pin_count t
  test-data = rw (data_is t j l, pins-is t) at ((accepted t h).sound.data-in j place)

-- the credit of a pin of the clock tree stands in the area
module _ (t : Table) (w : List ℕ) (c : Clocked t w) (p : ℕ) (k : ClockPin t p) where
  pub spans : Spans w p
  spans =
      record {
        room = omega (arith, c.ready.room, few-pins t c.ready.checked, k.inside);
        order = rw (c.pins.arrival early p k.inside k, c.pins.arrival late p k.inside k) (arrival-order t c.ready.checked p);
      }

  pub credit-is : credit_in w p ≡ pin_credit (structure t) (times t) p
  unfolding pin_credit
  credit-is = ap₂ (λ (x y : ℕ). x - y) (c.pins.arrival late p k.inside k) (c.pins.arrival early p k.inside k)

-- what stands at a pin's place among the seeds
module _ (m : Mode) (t : Table) (c p : ℕ) where
  pub seed-start : (kind (structure t) p ≡ K) ⊎ (kind (structure t) p ≡ I) → seed_for m t c p ≡ seed_of m (λ q. q) (structure t) (times t) c p
  unfolding seed_for pick
  seed-start (inl e) = rw e
  seed-start (inr e) = rw e

  pub seed-none : kind (structure t) p ≢ K → kind (structure t) p ≢ I → seed_for m t c p ≡ area.none
  unfolding seed_for pick
  seed-none n o = rw (ne_eqb (kind (structure t) p) K n, ne_eqb (kind (structure t) p) I o)

  -- a start's is below 2 ^ 30
  pub seed-light : table_fault t ≡ none → ClockPin t c → p < pin_count t → seed_for m t c p < area.none → seed_for m t c p < 1073741824
  unfolding seed_for pick
  seed-light h k l = go (eqb (kind (structure t) p) K || eqb (kind (structure t) p) I)
    where
      go : (b : Bool) → pick b (seed_of m (λ q. q) (structure t) (times t) c p) area.none < area.none → pick b (seed_of m (λ q. q) (structure t) (times t) c p) area.none < 1073741824
      go true g = seed-small t h m c p k l
      go false g = absurd (omega arith)

-- ---- a seed is a base and a credit

module _ (t : Table) (h : table_fault t ≡ none) (p : ℕ) (l : p < pin_count t) where
  -- a start's base is below 2 ^ 30
  base-small : (m : Mode) → base_of m t p < 1073741824
  unfolding base_of
  base-small for_setup = omega (arith, few-pins t h)
  base-small for_hold = omega (arith, start-most t h early p l)

  seed-sum : (m : Mode) (c : ℕ) → seed_of m (λ q. q) (structure t) (times t) c p ≡ base_of m t p + credit_from m (structure t) (times t) c p
  unfolding seed_of base_of
  seed-sum for_setup c = omega (arith, start-most t h late p l)
  seed-sum for_hold c = refl

  -- at a start
  pub seed-base : (m : Mode) (c : ℕ) → (kind (structure t) p ≡ K) ⊎ (kind (structure t) p ≡ I)
      → seed_for m t c p ≡ base_for m t p + credit_from m (structure t) (times t) c p
  unfolding seed_for base_for pick
  seed-base m c (inl e) = rw e (seed-sum m c)
  seed-base m c (inr e) = rw e (seed-sum m c)

  -- at any pin
  pub seed-with : (m : Mode) (c : ℕ) → seed_for m t c p ≡ seed_with (base_for m t p) (credit_from m (structure t) (times t) c p)
  unfolding seed_for base_for seed_with pick
  seed-with m c = go (eqb (kind (structure t) p) K || eqb (kind (structure t) p) I)
    where
      go : (b : Bool) → pick b (seed_of m (λ q. q) (structure t) (times t) c p) area.none ≡ seed_with (pick b (base_of m t p) area.none) (credit_from m (structure t) (times t) c p)
      go true = rw (lt-ltb (base_of m t p) area.none (omega (arith, base-small m))) (seed-sum m c)
      go false = refl
