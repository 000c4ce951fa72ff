-- The clock tree of a checked table, arc by arc: the arc that the area has for a B or a K is the one that comes into it, and adds its delay to the arrivals
-- and one to the depth; its driver is the pin that this arc leaves. R has its own arrivals, and no driver; nor has a pin of the data side.
-- Assumes nothing.
use Rattle.std.specs.Prelude.{◌≡◌, ◌⊎◌, ◌≢◌, ℕ, ◌+◌, ◌<◌, get_or}
use Rattle.std.proofs.Math.Path.{sym, ap}
use Rattle.std.proofs.Common.{◌∙◌, arith, add-one, ne_eqb}
use Rattle.std.proofs.Math.Logic.{inl, inr, ⊎_elim}
use mathlib.Core.List.{List, [], ◌∷◌}
use Rattle.std.proofs.Math.Option.{none}
use Rattle.std.proofs.Math.ListN.{length}
use Rattle.lists.specs.Choice.{pick}
use Rattle.timing.specs.Kinds.{R, B, K}
use Rattle.timing.specs.Table.{Table, Edge, pin_count, arc_count, pin_kind, pin_time, arc_from, arc_to, arc_time}
use Rattle.timing.specs.Structure.{arcs, kind, leaves, enters, structure, times}
use Rattle.timing.specs.Clock.{into, climb, root, clock_arrival}
use Rattle.timing.specs.Check.{table_fault}
use Rattle.timing.proofs.Laws.Kinds.{drive-clock}
use Rattle.timing.proofs.Laws.Routes.{into-cases, climb-top, climb-step, root-only}
use Rattle.timing.proofs.Laws.Common.{only-in, root_none}
use Rattle.timing.proofs.Laws.Ranged.{clock-root, clock-step}
use Rattle.timing.proofs.Laws.Columns.{pins-is, arcs-is, kind-is, leaves-is, enters_is}
use Rattle.timing.proofs.Laws.Accepted.{accepted, accepted-level}
use Rattle.area.specs.Area.{parents_at}
use Rattle.area.specs.Area as area
use Rattle.clocks.specs.Clocked.{ClockPin, Parented, driver_for}
use Rattle.clocks.specs.Small.{pin-place}

-- arc a comes into p, a B or a K, from another clock pin: one step of the tree
pub record Driven (t : Table) (p a : ℕ) : Type 0 where
  pub arc : a < arc_count t
  pub into-is : into (structure t) p ≡ a ∷ []
  pub from : leaves (structure t) a ≡ arc_from t a
  pub below : arc_from t a < p
  pub clock : ClockPin t (arc_from t a)
  pub arrival : (e : Edge) → clock_arrival e (structure t) (times t) p ≡ clock_arrival e (structure t) (times t) (arc_from t a) + arc_time t e a
  pub depth : length (climb (structure t) p) ≡ length (climb (structure t) (arc_from t a)) + 1

-- ---- drivers

-- the driver of a B or a K
pub driver-some : (t : Table) (p a : ℕ) → (kind (structure t) p ≡ B) ⊎ (kind (structure t) p ≡ K) → Driven t p a → driver_for t p ≡ arc_from t a
unfolding driver_for pick
driver-some t p a (inl e) d = rw (e, d.into-is) d.from
driver-some t p a (inr e) d = rw (e, d.into-is) d.from

-- nothing drives another
pub driver-none : (t : Table) (p : ℕ) → kind (structure t) p ≢ B → kind (structure t) p ≢ K → driver_for t p ≡ area.none
unfolding driver_for pick
driver-none t p b k = rw (ne_eqb (kind (structure t) p) B b, ne_eqb (kind (structure t) p) K k)

-- ---- the tree

module _ (t : Table) (h : table_fault t ≡ none) where
  -- every arc rises
  rises : (b : ℕ) → b < arc_count t → arc_from t b < arc_to t b
  rises b l = rw (accepted-level t h, leaves-is t b l, enters_is t b l) at ((accepted t h).sound.rises b (rw (arcs-is t) l))

  -- the one arc into a clock pin, a step of arrivals and of depths
  one-step : (b : ℕ) → b < arcs (structure t) → (kind (structure t) (enters (structure t) b) ≡ B) ⊎ (kind (structure t) (enters (structure t) b) ≡ K)
      → Driven t (enters (structure t) b) b
  unfolding times
  one-step b l k =
      let s = structure t in
      let ok = (accepted t h).sound in
      let bl : b < arc_count t = rw (arcs-is t) at l in
      let f : leaves s b ≡ arc_from t b = leaves-is t b bl in
      let i = only-in s ok b l k in
      record {
        arc = bl;
        into-is = i;
        from = f;
        below = rw (enters_is t b bl) (rises b bl);
        clock = record {
          inside = rw (f, pins-is t) at (ok.from_in b l);
          clock = ⊎_elim (λ e. inl (rw f at e)) (λ e. inr (inl (rw f at e))) (drive-clock (kind s (leaves s b)) (kind s (enters s b)) (ok.drives b l) k);
        };
        arrival = λ e. rw f at (clock-step s ok (times t) e b l k);
        depth = ap length (climb-step s ok (enters s b) b [] (ok.to_in b l) i ∙ ap (λ (q : ℕ). b ∷ climb s q) f) ∙ sym (add-one _);
      }

  -- the arc that stands at the place of a B or a K
  pub driven : (w : List ℕ) → Parented t w → (p : ℕ) → p < pin_count t → (kind (structure t) p ≡ B) ⊎ (kind (structure t) p ≡ K)
      → Driven t p (get_or w (parents_at + p) 0)
  driven w par p l k =
      into-cases (structure t) p (λ i. length i ≡ 1 → Driven t p (get_or w (parents_at + p) 0)) (λ e. absurd (no_way e))
      (λ b more g e n. on b g e)
      ((accepted t h).sound.one_in p (pin-place t h p l) k)
    where
      no_way : ◌≡◌ {A = ℕ} 0 1 → ⊥
      no_way e = omega arith

      on : (b : ℕ) → b < arcs (structure t) → enters (structure t) b ≡ p → Driven t p (get_or w (parents_at + p) 0)
      on b g e =
          let kb : (kind (structure t) (enters (structure t) b) ≡ B) ⊎ (kind (structure t) (enters (structure t) b) ≡ K) = rw e k in
          let z : get_or w (parents_at + p) 0 ≡ b = rw e at (par.parent b g kb) in
          rw z (rw e at (one-step b g kb))

  -- R: its own arrivals, no arc
  pub root-times : (e : Edge) (p : ℕ) → p < pin_count t → pin_kind t p ≡ R → clock_arrival e (structure t) (times t) p ≡ pin_time t e p
  unfolding times
  root-times e p l k =
      let ok = (accepted t h).sound in
      let q : p ≡ root (structure t) = root-only (structure t) ok p (pin-place t h p l) (kind-is t p l ∙ k) in
      rw q (clock-root (structure t) ok (times t) e)

  pub root-depth : (p : ℕ) → p < pin_count t → pin_kind t p ≡ R → length (climb (structure t) p) ≡ 0
  root-depth p l k =
      let ok = (accepted t h).sound in
      let q : p ≡ root (structure t) = root-only (structure t) ok p (pin-place t h p l) (kind-is t p l ∙ k) in
      rw q (ap length (climb-top (structure t) ok (root (structure t)) (root_none (structure t) ok)))
