-- One turn of the pass over the pins: a step of the tree, and the kind that is read. Assumes nothing.
use mathlib.Core.Path.{◌≡◌, sym, ◌∙◌}
use mathlib.Core.Logic.{◌⊎◌, ⊎_elim, ◌≢◌}
use mathlib.Core.List.{List}
use Prim.Native.Nat.{ℕ, ◌+◌, ◌≤◌, ◌<◌}
use native.Mathlib.Omega.{arith}
use lib.ListN.{length, get_or}
use Rattle.timing.specs.Kinds.{R, B, K}
use Rattle.timing.specs.Table.{Table, Edge, pin_count, pin_kind, arc_from, arc_time}
use Rattle.timing.specs.Structure.{structure, times}
use Rattle.timing.specs.Clock.{climb, clock_arrival}
use Rattle.timing.proofs.Laws.Columns.{kind-is}
use Rattle.area.specs.Area.{arrivals_at, parents_at, depths_at}
use Rattle.area.specs.Area as area
use Rattle.clocks.specs.Clocked.{ClockPin, driver_for}
use Rattle.std.specs.Prelude.{None}
use Rattle.clocks.specs.declared.Clocking.{Clocking}
use Rattle.clocks.specs.Turn.{NextDriven, Arrives}
use Rattle.clocks.specs.Small.{few-pins, arrival-most, depth-most}
use Rattle.clocks.specs.Tree.{Driven, driver-some, driver-none, driven}

-- ---- a step of the tree, in the area

-- p is next, and arc a comes into it from a pin that is done: its arrivals and depth with the arc's are those of p
pub record Step (t : Table) (w : List ℕ) (p a from : ℕ) : Type 0 where
  pub few : from < 256
  pub came : (e : Edge) → get_or w (arrivals_at e + from) 0 + arc_time t e a ≡ clock_arrival e (structure t) (times t) p
  pub most : (e : Edge) → get_or w (arrivals_at e + from) 0 + arc_time t e a ≤ 256000000
  pub deep : get_or w (depths_at + from) 0 + 1 ≡ length (climb (structure t) p)
  pub shallow : get_or w (depths_at + from) 0 < 255
  pub drives : from ≡ driver_for t p

pub step : (t : Table) (w : List ℕ) (p a from : ℕ) → NextDriven t p w → a ≡ get_or w (parents_at + p) 0 → from ≡ arc_from t a → Step t w p a from
step t w p a from n e f =
    let s = n.next in
    let h = s.ready.checked in
    let d : Driven t p a = rw e (driven t h w s.parents p s.inside n.driven) in
    let done : from < p = omega (arith, f, d.below) in
    let k : ClockPin t from = rw f d.clock in
    let came : (e : Edge) → get_or w (arrivals_at e + from) 0 + arc_time t e a ≡ clock_arrival e (structure t) (times t) p =
    λ e. rw (s.so_far.arrival e from done k, f) (sym (d.arrival e)) in
    let deep : get_or w (depths_at + from) 0 + 1 ≡ length (climb (structure t) p) = rw (s.so_far.depth from done k, f) (sym d.depth) in
    record {
      few = omega (arith, few-pins t h, k.inside);
      came = came;
      most = λ e. rw (came e) (arrival-most t h e p s.inside);
      deep = deep;
      shallow = omega (arith, deep, depth-most t h p s.inside);
      drives = f ∙ sym (driver-some t p a n.driven d);
    }

-- a pin whose kind is a number
pub kind-cases : (t : Table) (p : ℕ) → ClockPin t p → (pin_kind t p ≡ R) ⊎ ((pin_kind t p ≡ B) ⊎ (pin_kind t p ≡ K))
kind-cases t p c = rw (← kind-is t p c.inside) c.clock

-- ---- the kind that is read

-- no clock pin is behind K
pub past-K : (t : Table) (p : ℕ) → K < pin_kind t p → ClockPin t p → ⊥
past-K t p l c = ⊎_elim (λ e. omega arith) (⊎_elim (λ e. omega arith) (λ e. omega arith)) (kind-cases t p c)

-- nothing drives R, or a pin of the data side
pub not-driven : (t : Table) (p : ℕ) → p < pin_count t → pin_kind t p ≢ B → pin_kind t p ≢ K → area.none ≡ driver_for t p
not-driven t p l b k = sym (driver-none t p (λ e. b (sym (kind-is t p l) ∙ e)) (λ e. k (sym (kind-is t p l) ∙ e)))

-- a pin of the data side has no clocking
pub not-clocked : (t : Table) (p : ℕ) (c : Clocking) → p < pin_count t → K < pin_kind t p → c.driver ≡ None → Arrives t p c
not-clocked t p x l k n =
    record {
      is-early = λ c. absurd (past-K t p k c);
      is-late = λ c. absurd (past-K t p k c);
      is-depth = λ c. absurd (past-K t p k c);
      is-driver = rw n (not-driven t p l (λ e. omega arith) (λ e. omega arith));
    }
