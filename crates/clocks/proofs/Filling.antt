-- The loops that fill the clock side's part of the work area: what holds after the first arcs, and after the first pins. Assumes nothing.
use mathlib.Core.Path.{◌≡◌, sym, ap, ◌∙◌}
use mathlib.Core.Logic.{◌⊎◌, ◌≢◌}
use mathlib.Core.List.{List, [], ◌∷◌}
use mathlib.Core.Option.{none}
use Prim.Native.Nat.{ℕ, ◌+◌, ◌≤◌, ◌<◌}
use native.Mathlib.Decide.{ℕ_discrete}
use native.Mathlib.Omega.{arith}
use lib.ListN.{length, get_or, set, length-set}
use lib.Seq.{get_or-set_same, get_or-set_other}
use Rattle.timing.specs.Limits.{work_length}
use Rattle.timing.specs.Kinds.{B, K}
use Rattle.timing.specs.Table.{Table, Edge, early, late, pin_count, arc_count, arc_to}
use Rattle.timing.specs.Structure.{kind, enters, structure, times}
use Rattle.timing.specs.Clock.{into, climb, clock_arrival}
use Rattle.timing.specs.Check.{table_fault}
use Rattle.timing.proofs.Laws.Common.{only-in}
use Rattle.timing.proofs.Laws.Columns.{pins-is, arcs-is, enters_is}
use Rattle.timing.proofs.Laws.Accepted.{accepted}
use Rattle.area.specs.Area.{Kept, arrivals_at, clocks_at, parents_at, depths_at, drivers_at, turns_at}
use Rattle.clocks.specs.Clocked.{Ready, ClockPin, Parented, ClockedTo, driver_for}
use Rattle.std.specs.Option.{unwrap_or}
use Rattle.area.specs.Area as area
use Rattle.clocks.specs.declared.Clocking.{Clocking}
use Rattle.clocks.specs.Turn.{Arrives}
use Rattle.clocks.specs.Small.{few-pins, arc-place}
use Rattle.area.specs.Laws.Kept.{kept_set}

-- ---- the numbers of a checked table

module _ (t : Table) (h : table_fault t ≡ none) where
  pub to_in : (a : ℕ) → a < arc_count t → arc_to t a < pin_count t
  to_in a l = rw (← enters_is t a l, ← pins-is t) ((accepted t h).sound.to_in a (arc-place t h a l))

-- ---- parents

-- the arcs below a are passed: each that comes into a B or a K stands at its place
pub record Passing (t : Table) (a : ℕ) (w₀ w : List ℕ) : Type 0 where
  pub ready : Ready t w₀
  pub parent : (b : ℕ) → b < a → (kind (structure t) (enters (structure t) b) ≡ B) ⊎ (kind (structure t) (enters (structure t) b) ≡ K)
      → get_or w (parents_at + enters (structure t) b) 0 ≡ b
  pub kept : Kept parents_at depths_at w₀ w

-- two arcs that are the only one are the same
head : (a b : ℕ) (l : List ℕ) → l ≡ a ∷ [] → l ≡ b ∷ [] → a ≡ b
head a b l e f = cc

module _ (t : Table) (a : ℕ) (w₀ w : List ℕ) (s : Passing t a w₀ w) where
  pub passing_step : a < arc_count t → (to v : ℕ) → to ≡ arc_to t a → v ≡ a → Passing t (a + 1) w₀ (set w (parents_at + to) v)
  passing_step l to v e f =
      let h = s.ready.checked in
      let inside : to < 256 = omega (arith, e, to_in t h a l, few-pins t h) in
      record {
        ready = s.ready;
        parent = λ b g k. elim (ℕ_discrete b a) [
          | yes q ↦
              ap (λ (p : ℕ). get_or (set w (parents_at + to) v) (parents_at + p) 0) (ap (enters (structure t)) q ∙ enters_is t a l ∙ sym e)
              ∙ get_or-set_same w (parents_at + to) v 0 (omega (arith, s.kept.long, s.ready.room))
              ∙ f ∙ sym q
          | no q ↦
              get_or-set_other w (parents_at + to) (parents_at + enters (structure t) b) v 0
              (λ z. q (other b (omega arith) k (omega arith ∙ e ∙ sym (enters_is t a l))))
              ∙ s.parent b (omega arith) k
        ];
        kept = kept_set _ _ w₀ w (parents_at + to) v s.kept (omega arith) (omega arith);
      }
    where
      -- no other arc comes into the same clock pin
      other : (b : ℕ) → b < a → (kind (structure t) (enters (structure t) b) ≡ B) ⊎ (kind (structure t) (enters (structure t) b) ≡ K)
          → enters (structure t) b ≡ enters (structure t) a → b ≡ a
      other b g k z =
          let ok = (accepted t s.ready.checked).sound in
          let bl : b < arc_count t = omega arith in
          let kb = only-in (structure t) ok b (arc-place t s.ready.checked b bl) k in
          let ka = only-in (structure t) ok a (arc-place t s.ready.checked a l) (rw z at k) in
          head b a (into (structure t) (enters (structure t) a)) (rw z at kb) ka

  pub passing-end : arc_count t ≤ a → Parented t w
  passing-end l = record { parent = λ b g k. s.parent b (let m : b < arc_count t = rw (arcs-is t) at g in omega arith) k }

-- ---- arrivals

-- the pins below p are done; parents, and what stands outside the clock side's part, are as they were
pub record Going (t : Table) (p : ℕ) (w₀ w : List ℕ) : Type 0 where
  pub ready : Ready t w₀
  pub parents : Parented t w
  pub so_far : ClockedTo t p w
  pub kept : Kept clocks_at turns_at w₀ w

-- what four stores leave: each number at its place, any other place as it was
record Laid (w v : List ℕ) (i j k m x y z u : ℕ) : Type 0 where
  one : get_or v i 0 ≡ x
  two : get_or v j 0 ≡ y
  three : get_or v k 0 ≡ z
  four : get_or v m 0 ≡ u
  other : (n : ℕ) → n ≢ i → n ≢ j → n ≢ k → n ≢ m → get_or v n 0 ≡ get_or w n 0

laid : (w : List ℕ) (i j k m x y z u : ℕ) → i < j → j < k → k < m → m < length w → Laid w (set (set (set (set w i x) j y) k z) m u) i j k m x y z u
laid w i j k m x y z u a b c l =
    let w₁ = set w i x in
    let w₂ = set w₁ j y in
    let w₃ = set w₂ k z in
    record {
      one =
          get_or-set_other w₃ m i u 0 (λ e. omega arith) ∙ get_or-set_other w₂ k i z 0 (λ e. omega arith) ∙ get_or-set_other w₁ j i y 0 (λ e. omega arith)
          ∙ get_or-set_same w i x 0 (omega arith);
      two =
          get_or-set_other w₃ m j u 0 (λ e. omega arith) ∙ get_or-set_other w₂ k j z 0 (λ e. omega arith)
          ∙ get_or-set_same w₁ j y 0 (rw length-set (omega arith));
      three = get_or-set_other w₃ m k u 0 (λ e. omega arith) ∙ get_or-set_same w₂ k z 0 (simp length-set (omega arith));
      four = get_or-set_same w₃ m u 0 (simp length-set (omega arith));
      other = λ n e f g h.
          get_or-set_other w₃ m n u 0 h ∙ get_or-set_other w₂ k n z 0 g ∙ get_or-set_other w₁ j n y 0 f ∙ get_or-set_other w i n x 0 e;
    }

module _ (t : Table) (p : ℕ) (w₀ w : List ℕ) (s : Going t p w₀ w) (l : p < pin_count t) where
  few : p < 256
  few = omega (arith, few-pins t s.ready.checked)

  room : work_length ≤ length w
  room = omega (arith, s.kept.long, s.ready.room)

  module _ (c : Clocking) (a : Arrives t p c) where
    abbrev e : ℕ
    e = c.early

    abbrev f : ℕ
    f = c.late

    abbrev d : ℕ
    d = c.depth

    abbrev u : ℕ
    u = unwrap_or c.driver area.none

    -- one store, two, three, four
    abbrev one : List ℕ
    one = set w (arrivals_at early + p) e

    abbrev two : List ℕ
    two = set one (arrivals_at late + p) f

    abbrev three : List ℕ
    three = set two (depths_at + p) d

    abbrev now : List ℕ
    now = set three (drivers_at + p) u

    stores : Laid w now (arrivals_at early + p) (arrivals_at late + p) (depths_at + p) (drivers_at + p) e f d u
    stores =
        laid w (arrivals_at early + p) (arrivals_at late + p) (depths_at + p) (drivers_at + p) e f d u (omega arith) (omega arith) (omega arith) (omega (arith, few, room))

    -- what stands in any part but at p's place
    aside : (n : ℕ) → n ≢ arrivals_at early + p → n ≢ arrivals_at late + p → n ≢ depths_at + p → n ≢ drivers_at + p → get_or now n 0 ≡ get_or w n 0
    aside = stores.other

    pub going_step : Going t (p + 1) w₀ now
    going_step =
        record {
          ready = s.ready;
          parents = record {
            parent = λ b g k.
                let m : enters (structure t) b < pin_count t = rw (pins-is t) at ((accepted t s.ready.checked).sound.to_in b g) in
                let n : enters (structure t) b < 256 = omega (arith, few-pins t s.ready.checked) in
                aside (parents_at + enters (structure t) b) (λ z. omega (arith, few)) (λ z. omega (arith, few)) (λ z. omega (arith, few)) (λ z. omega (arith, few))
                ∙ s.parents.parent b g k;
          };
          so_far = record { arrival = came; depth = deep; driver = drove };
          kept =
              kept_set _ _ w₀ three (drivers_at + p) u
              (kept_set _ _ w₀ two (depths_at + p) d
              (kept_set _ _ w₀ one (arrivals_at late + p) f
              (kept_set _ _ w₀ w (arrivals_at early + p) e s.kept (omega arith) (omega (arith, few))) (omega arith) (omega (arith, few)))
              (omega arith) (omega (arith, few)))
              (omega arith) (omega (arith, few));
        }
      where
        came : (g : Edge) (q : ℕ) → q < p + 1 → ClockPin t q → get_or now (arrivals_at g + q) 0 ≡ clock_arrival g (structure t) (times t) q
        came early q m c = elim (ℕ_discrete q p) [
          | yes z ↦ rw z (stores.one ∙ a.is-early (rw z at c))
          | no z ↦
              aside (arrivals_at early + q) (λ y. z (omega arith)) (λ y. omega (arith, few)) (λ y. omega (arith, few)) (λ y. omega (arith, few))
              ∙ s.so_far.arrival early q (omega arith) c
        ]
        came late q m c = elim (ℕ_discrete q p) [
          | yes z ↦ rw z (stores.two ∙ a.is-late (rw z at c))
          | no z ↦
              aside (arrivals_at late + q) (λ y. omega (arith, few)) (λ y. z (omega arith)) (λ y. omega (arith, few)) (λ y. omega (arith, few))
              ∙ s.so_far.arrival late q (omega arith) c
        ]

        deep : (q : ℕ) → q < p + 1 → ClockPin t q → get_or now (depths_at + q) 0 ≡ length (climb (structure t) q)
        deep q m c = elim (ℕ_discrete q p) [
          | yes z ↦ rw z (stores.three ∙ a.is-depth (rw z at c))
          | no z ↦
              aside (depths_at + q) (λ y. omega (arith, few)) (λ y. omega (arith, few)) (λ y. z (omega arith)) (λ y. omega (arith, few))
              ∙ s.so_far.depth q (omega arith) c
        ]

        drove : (q : ℕ) → q < p + 1 → get_or now (drivers_at + q) 0 ≡ driver_for t q
        drove q m = elim (ℕ_discrete q p) [
          | yes z ↦ rw z (stores.four ∙ a.is-driver)
          | no z ↦
              aside (drivers_at + q) (λ y. omega (arith, few)) (λ y. omega (arith, few)) (λ y. omega (arith, few)) (λ y. z (omega arith))
              ∙ s.so_far.driver q (omega arith)
        ]
