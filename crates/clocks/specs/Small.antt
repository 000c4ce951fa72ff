-- How large the numbers of the clock side become: no arrival and no credit is above 256,000,000 ps, no seed reaches 2 ^ 30.
--
-- At most 255 arcs lead from R to a pin, since every arc rises, and each adds at most 1,000,000 ps to the arrival of R.
-- Assumes nothing.
use Rattle.std.specs.Prelude.{◌≡◌, Bool, ℕ, ◌≤◌, ◌<◌, length}
use Rattle.std.proofs.Math.Path.{refl}
use Rattle.std.proofs.Common.{ap, eqb-true, length-append}
use Rattle.std.proofs.Math.Logic.{inr}
use Rattle.std.proofs.Math.Bool.{true, false}
use Rattle.std.proofs.Math.Option.{none}
use native.Mathlib.Omega.{arith}
use Rattle.std.proofs.Math.Dec.{eqb}
use Rattle.lists.specs.Choice.{pick}
use Rattle.lists.proofs.Laws.Sum.{sum_bound}
use Rattle.timing.specs.Limits.{most_time}
use Rattle.timing.specs.Kinds.{K}
use Rattle.timing.specs.Table.{Table, Edge, early, late, pin_count, arc_count, pin_time}
use Rattle.timing.specs.Structure.{pins, arcs, kind, structure, times}
use Rattle.timing.specs.Clock.{climb, root, common, clock_arrival, pin_credit}
use Rattle.timing.specs.Slack.{Mode, for_setup, for_hold, start_arrival}
use Rattle.timing.specs.Value.{credit_from, seed_of}
use Rattle.timing.specs.Check.{table_fault}
use Rattle.timing.proofs.Laws.Routes.{climb-arcs, climb-split, length-climb, root_is, common-on}
use Rattle.timing.proofs.Laws.Ranged.{clock-order}
use Rattle.timing.proofs.Laws.Columns.{pins-is, arcs-is}
use Rattle.timing.proofs.Laws.Accepted.{accepted}
use Rattle.clocks.specs.Clocked.{ClockPin}

module _ (t : Table) (h : table_fault t ≡ none) where
  pub few-pins : pin_count t ≤ 256
  few-pins = (accepted t h).header.few-pins

  -- places of the table are places of its structure
  pub arc-place : (a : ℕ) → a < arc_count t → a < arcs (structure t)
  arc-place a l = rw (arcs-is t) l

  pub pin-place : (p : ℕ) → p < pin_count t → p < pins (structure t)
  pin-place p l = rw (pins-is t) l

  pub pin-most : (e : Edge) (p : ℕ) → p < pin_count t → pin_time t e p ≤ 1000000
  unfolding times
  pin-most early p l = let r = (accepted t h).ranged in let m = pin-place p l in omega (arith, r.arrivals p m, r.arrival-most p m)
  pin-most late p l = (accepted t h).ranged.arrival-most p (pin-place p l)

  pub arrival-order : (p : ℕ) → clock_arrival early (structure t) (times t) p ≤ clock_arrival late (structure t) (times t) p
  arrival-order p = clock-order (structure t) (accepted t h).sound (times t) (accepted t h).ranged p

  -- at most 255 arcs lead to a pin
  pub depth-most : (p : ℕ) → p < pin_count t → length (climb (structure t) p) ≤ 255
  depth-most p l =
      let ok = (accepted t h).sound in
      let m = pin-place p l in
      omega (arith, length-climb (structure t) ok p m, ok.level_in p m, ok.few-pins)

  short-late : (p : ℕ) → length (climb (structure t) p) ≤ 255 → clock_arrival late (structure t) (times t) p ≤ 256000000
  unfolding clock_arrival
  short-late p l =
      let s = structure t in
      let r = (accepted t h).ranged in
      omega (
        arith,
        r.arrival-most (root s) (root_is s (accepted t h).sound).0,
        sum_bound ((times t).delay late) most_time (climb s p) (λ a i. r.delay-most a (climb-arcs s p a i)),
      )

  pub arrival-most : (e : Edge) (p : ℕ) → p < pin_count t → clock_arrival e (structure t) (times t) p ≤ 256000000
  arrival-most early p l = omega (arith, arrival-order p, short-late p (depth-most p l))
  arrival-most late p l = short-late p (depth-most p l)

  -- the common pin is no deeper than p
  common-short : (p c : ℕ) → ClockPin t p → ClockPin t c → length (climb (structure t) (common (structure t) p c)) ≤ 255
  common-short p c kp kc =
      let s = structure t in
      let ok = (accepted t h).sound in
      let m = pin-place p kp.inside in
      let on = common-on s ok p c m (pin-place c kc.inside) kp.clock kc.clock in
      let y = climb-split s ok (common s p c) p m on.0 in
      omega (arith, ap length y.meets, length-append y.front (climb s (common s p c)), depth-most p kp.inside)

  -- its credit
  pub common-most : (p c : ℕ) → ClockPin t p → ClockPin t c → pin_credit (structure t) (times t) (common (structure t) p c) ≤ 256000000
  unfolding pin_credit
  common-most p c kp kc = omega (arith, short-late (common (structure t) p c) (common-short p c kp kc))

  pub credit-most : (m : Mode) (c p : ℕ) → ClockPin t c → p < pin_count t → credit_from m (structure t) (times t) c p ≤ 256000000
  unfolding credit_from pick
  credit-most m c p kc l = go (eqb (kind (structure t) p) K) refl
    where
      go : (b : Bool) → eqb (kind (structure t) p) K ≡ b
          → pick b (pin_credit (structure t) (times t) (common (structure t) p c)) 0 ≤ 256000000
      go true e = common-most p c (record { inside = l; clock = inr (inr (eqb-true _ _ e)) }) kc
      go false e = omega arith

  pub start-most : (e : Edge) (p : ℕ) → p < pin_count t → start_arrival e (structure t) (times t) p ≤ 256000000
  unfolding start_arrival pick times
  start-most e p l = go (eqb (kind (structure t) p) K)
    where
      go : (b : Bool) → pick b (clock_arrival e (structure t) (times t) p) ((times t).arrival e p) ≤ 256000000
      go true = arrival-most e p l
      go false = omega (arith, pin-most e p l)

  pub seed-small : (m : Mode) (c p : ℕ) → ClockPin t c → p < pin_count t → seed_of m (λ q. q) (structure t) (times t) c p < 1073741824
  unfolding seed_of
  seed-small for_setup c p kc l = omega (arith, credit-most for_setup c p kc l, few-pins)
  seed-small for_hold c p kc l = omega (arith, credit-most for_hold c p kc l, start-most early p l)
