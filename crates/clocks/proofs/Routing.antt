-- Seeds by the route of a test's clock. The route is marked from c up: what is left of it is the route of the pin at hand, and after R nothing. Then credits go
-- down the tree, from driver to driven, and each start's seed is its base with its credit. Assumes nothing.
use mathlib.Core.Path.{◌≡◌, refl, sym, ap, ◌∙◌}
use mathlib.Core.Logic.{◌⊎◌, inl, inr, ⊎_elim, ◌≢◌}
use mathlib.Core.Bool.{Bool, true, false, true≢false}
use mathlib.Core.List.{List, [], ◌∷◌}
use mathlib.Core.Option.{none}
use Prim.Native.Nat.{ℕ, ◌+◌, ◌≤◌, ◌<◌}
use native.Mathlib.Decide.{ℕ_discrete}
use native.Mathlib.Omega.{arith}
use lib.Dec.{eqb}
use lib.ListN.{length, get_or, set, replicate}
use borrow.Rule.Slice.PartMut.{put_mid}
use Rattle.std.proofs.lemmas.List.{places}
use lib.Seq.{get_or-set_same, get_or-set_other}
use Rattle.lists.specs.Choice.{pick}
use Rattle.lists.specs.Parts.{any}
use Rattle.lists.specs.Laws.Member.{In}
use Rattle.timing.specs.Limits.{work_length}
use Rattle.timing.specs.Kinds.{R, B, K}
use Rattle.timing.specs.Table.{Table, pin_count}
use Rattle.timing.specs.Structure.{kind, structure, times}
use Rattle.timing.specs.Clock.{into, route, common, pin_credit}
use Rattle.timing.specs.Check.{table_fault}
use Rattle.timing.proofs.Laws.Routes.{any_here, here-any, route-top, route-step, root-only}
use Rattle.timing.proofs.Laws.Common.{root_none, common-up}
use Rattle.timing.proofs.Laws.Accepted.{accepted}
use Rattle.area.specs.Area.{Kept, credits_at, clocks_at, drivers_at, given}
use Rattle.area.specs.Area as area
use Rattle.std.specs.Prelude.{Option, None, Some, IfSome}
use Rattle.clocks.specs.Clocked.{Ready, ClockPin, Parented, Clocked, credit_in, driver_for}
use Rattle.area.specs.Laws.Given.{given-is}
use Rattle.clocks.proofs.Words.{given-some}
use Rattle.clocks.specs.Route.{Unmarked, Marked, route_credit}
use Rattle.clocks.specs.Small.{few-pins, pin-place}
use Rattle.clocks.specs.Tree.{Driven, driven, driver-some, driver-none}
use Rattle.clocks.specs.Known.{credit-is}
use Rattle.area.specs.Laws.Kept.{kept_set}
use Rattle.clocks.specs.Kept.{clocked-kept}

-- ---- no credits

-- a part that is filled, and what it leaves
module _ (a k x : ℕ) (w : List ℕ) (h : a + k ≤ length w) where
  filled-in : (q : ℕ) → q < k → get_or (put_mid a k w (replicate k x)) (a + q) 0 ≡ x
  filled-in q l = grind (arith, places)

  filled-long : length (put_mid a k w (replicate k x)) ≡ length w
  filled-long = grind (arith, places)

  filled-front : (i : ℕ) → i < a → get_or (put_mid a k w (replicate k x)) i 0 ≡ get_or w i 0
  filled-front i l = grind (arith, places)

  filled-back : (i : ℕ) → a + k ≤ i → get_or (put_mid a k w (replicate k x)) i 0 ≡ get_or w i 0
  filled-back i l = grind (arith, places)

-- the part is filled with a word for each pin
pub cleared : (t : Table) (w : List ℕ) → Ready t w → (n : ℕ) → n ≡ pin_count t
    → Unmarked t (put_mid credits_at n w (replicate n area.none)) × Kept credits_at clocks_at w (put_mid credits_at n w (replicate n area.none))
cleared t w r n e = (
  record { clear = λ q l. filled-in credits_at n area.none w room q (omega arith) },
  record {
    long = filled-long credits_at n area.none w room;
    front = filled-front credits_at n area.none w room;
    back = λ i l. filled-back credits_at n area.none w room i (omega (arith, few));
  },
)
  where
    few : n ≤ 256
    few = omega (arith, e, few-pins t r.checked)

    room : credits_at + n ≤ length w
    room = omega (arith, few, r.room)

-- ---- from a clock pin to its driver

-- the route of a pin; nothing of no pin
abbrev pub upward : Table → Option ℕ → List ℕ
upward t None = []
upward t (Some u) = route (structure t) u

-- what falls on the way up: one more than the pin's number; 0 of no pin
abbrev pub above : Option ℕ → ℕ
above None = 0
above (Some u) = u + 1

above-less : (o : Option ℕ) (v : ℕ) → IfSome o (λ u. u < v) → above o < v + 1
above-less None v h = omega arith
above-less (Some u) v h = omega (arith, h)

-- the driver of clock pin p: the rest of p's route begins at it, and off c's route p and it have the same common pin with c
pub record Rising (t : Table) (p u : ℕ) : Type 0 where
  pub pin : ClockPin t u
  pub below : u < p
  pub rest : route (structure t) p ≡ p ∷ route (structure t) u
  pub up : (c : ℕ) → (In p (route (structure t) c) → ⊥) → common (structure t) p c ≡ common (structure t) u c

module _ (t : Table) (h : table_fault t ≡ none) where
  pub rising : (w : List ℕ) → Parented t w → (p : ℕ) → p < pin_count t → (kind (structure t) p ≡ B) ⊎ (kind (structure t) p ≡ K) → Rising t p (driver_for t p)
  rising w par p l k =
      let s = structure t in
      let ok = (accepted t h).sound in
      let a = get_or w (area.parents_at + p) 0 in
      let d : Driven t p a = driven t h w par p l k in
      rw (driver-some t p a k d)
      (record {
        pin = d.clock;
        below = d.below;
        rest = route-step s ok p a [] (pin-place t h p l) d.into-is ∙ ap (λ (q : ℕ). p ∷ route s q) d.from;
        up = λ c n. common-up s ok p c a [] (pin-place t h p l) d.into-is n ∙ ap (λ (q : ℕ). common s q c) d.from;
      })

  -- R ends a route
  top-route : (p : ℕ) → p < pin_count t → kind (structure t) p ≡ R → route (structure t) p ≡ p ∷ []
  top-route p l k =
      let s = structure t in
      let ok = (accepted t h).sound in
      route-top s ok p (ap (into s) (root-only s ok p (pin-place t h p l) k) ∙ root_none s ok)

not-clock : (k : ℕ) → k ≡ R → (k ≢ B) × (k ≢ K)
not-clock k e = ((λ f. omega arith), (λ f. omega arith))

-- what is left of a clock pin's route
route-left : (t : Table) (w : List ℕ) → Clocked t w → (p : ℕ) → ClockPin t p → route (structure t) p ≡ p ∷ upward t (given (driver_for t p))
route-left t w c p k = go k.clock
  where
    go : (kind (structure t) p ≡ R) ⊎ ((kind (structure t) p ≡ B) ⊎ (kind (structure t) p ≡ K)) → route (structure t) p ≡ p ∷ upward t (given (driver_for t p))
    go (inl e) =
        let n = not-clock _ e in
        rw (driver-none t p n.0 n.1) (top-route t c.ready.checked p k.inside e)
    go (inr e) =
        let r = rising t c.ready.checked w c.parents p k.inside e in
        rw (given-some (driver_for t p) (omega (arith, r.below, k.inside, few-pins t c.ready.checked))) r.rest

-- a B or a K, or none of the two
pub driven-or-free : (k : ℕ) → ((k ≡ B) ⊎ (k ≡ K)) ⊎ ((k ≢ B) × (k ≢ K))
driven-or-free k = elim (ℕ_discrete k B) [
  | yes e ↦ inl (inl e)
  | no e ↦ elim (ℕ_discrete k K) [
    | yes f ↦ inl (inr f)
    | no f ↦ inr (e, f)
  ]
]

-- a driver is a clock pin below the pin that it drives
pub driver-pin : (t : Table) (w : List ℕ) → Clocked t w → (p : ℕ) → p < pin_count t → driver_for t p < area.none → ClockPin t (driver_for t p) × (driver_for t p < p)
driver-pin t w c p l g = ⊎_elim on (λ n. absurd (no_way (driver-none t p n.0 n.1))) (driven-or-free (kind (structure t) p))
  where
    on : (kind (structure t) p ≡ B) ⊎ (kind (structure t) p ≡ K) → ClockPin t (driver_for t p) × (driver_for t p < p)
    on k = let r = rising t c.ready.checked w c.parents p l k in (r.pin, r.below)

    no_way : driver_for t p ≡ area.none → ⊥
    no_way e = omega arith

pub driver-given : (t : Table) (w : List ℕ) → Clocked t w → (p : ℕ) → p < pin_count t → IfSome (given (driver_for t p)) (λ u. ClockPin t u × (u < p))
driver-given t w c p l = go (given (driver_for t p)) refl
  where
    go : (o : Option ℕ) → given (driver_for t p) ≡ o → IfSome o (λ u. ClockPin t u × (u < p))
    go None e = tt
    go (Some u) e = let g = given-is _ u e in rw g.0 at (driver-pin t w c p l g.1)

-- ---- the route is marked

-- the pins of c's route are marked from c up; those of u's, which is part of it, are left
pub record Marking (t : Table) (c : ℕ) (u : Option ℕ) (w₀ w : List ℕ) : Type 0 where
  pub clocked : Clocked t w₀
  pub pin : IfSome u (ClockPin t)
  pub on : (q : ℕ) → In q (upward t u) → In q (route (structure t) c)
  pub passed : (q : ℕ) → q < pin_count t → In q (route (structure t) c) → In q (upward t u) ⊎ (get_or w (credits_at + q) 0 ≡ pin_credit (structure t) (times t) q)
  pub off : (q : ℕ) → q < pin_count t → (In q (route (structure t) c) → ⊥) → get_or w (credits_at + q) 0 ≡ area.none
  pub kept : Kept credits_at clocks_at w₀ w

module _ (t : Table) (c v : ℕ) (w₀ w : List ℕ) (s : Marking t c (Some v) w₀ w) where
  pub marking-pin : ClockPin t v
  marking-pin = s.pin

  pub marking-few : v < 256
  marking-few = omega (arith, marking-pin.inside, few-pins t s.clocked.ready.checked)

  pub marking-room : work_length ≤ length w
  marking-room = omega (arith, s.kept.long, s.clocked.ready.room)

  left : route (structure t) v ≡ v ∷ upward t (given (driver_for t v))
  left = route-left t w₀ s.clocked v marking-pin

  below : IfSome (given (driver_for t v)) (λ u. ClockPin t u × (u < v))
  below = driver-given t w₀ s.clocked v marking-pin.inside

  pub marking_step : (x : ℕ) → x ≡ pin_credit (structure t) (times t) v → Marking t c (given (driver_for t v)) w₀ (set w (credits_at + v) x)
  marking_step x e =
      record {
        clocked = s.clocked;
        pin = first (given (driver_for t v)) below;
        on = λ q i. s.on q (rw left (inr i));
        passed = λ q g i. elim (ℕ_discrete q v) [
          | yes z ↦ inr (rw z (get_or-set_same w (credits_at + v) x 0 (omega (arith, marking-few, marking-room)) ∙ e))
          | no z ↦
              ⊎_elim (λ k. inl (later q z (rw left at k)))
              (λ f. inr (get_or-set_other w (credits_at + v) (credits_at + q) x 0 (λ y. z (omega arith)) ∙ f))
              (s.passed q g i)
        ];
        off = λ q g n.
            get_or-set_other w (credits_at + v) (credits_at + q) x 0 (λ y. n (same q (omega arith))) ∙ s.off q g n;
        kept = kept_set _ _ w₀ w (credits_at + v) x s.kept (omega arith) (omega (arith, marking-few));
      }
    where
      first : (o : Option ℕ) → IfSome o (λ u. ClockPin t u × (u < v)) → IfSome o (ClockPin t)
      first None h = tt
      first (Some u) h = h.0

      later : (q : ℕ) → q ≢ v → In q (v ∷ upward t (given (driver_for t v))) → In q (upward t (given (driver_for t v)))
      later q z (inl f) = absurd (z f)
      later q z (inr i) = i

      same : (q : ℕ) → q ≡ v → In q (route (structure t) c)
      same q f = s.on q (rw (left, f) (inl refl))

  -- the area as the pass up finds it
  pub marking-clocked : Clocked t w
  marking-clocked = clocked-kept t credits_at clocks_at w₀ w (omega arith) s.kept s.clocked

  -- one turn of the pass up, for what the code reads
  pub marking-turn : (x : ℕ) → x ≡ credit_in w v
      → Marking t c (given (get_or (set w (credits_at + v) x) (drivers_at + v) 0)) w₀ (set w (credits_at + v) x)
      × (above (given (get_or (set w (credits_at + v) x) (drivers_at + v) 0)) < v + 1)
  marking-turn x f =
      let own : x ≡ pin_credit (structure t) (times t) v = f ∙ credit-is t w marking-clocked v marking-pin in
      let next : get_or (set w (credits_at + v) x) (drivers_at + v) 0 ≡ driver_for t v =
      get_or-set_other w (credits_at + v) (drivers_at + v) x 0 (λ z. omega arith) ∙ marking-clocked.pins.driver v marking-pin.inside in
      rw next (marking_step x own, above-less (given (driver_for t v)) v (second (given (driver_for t v)) below))
    where
      second : (o : Option ℕ) → IfSome o (λ u. ClockPin t u × (u < v)) → IfSome o (λ u. u < v)
      second None h = tt
      second (Some u) h = h.1

pub marking-end : (t : Table) (c : ℕ) (w₀ w : List ℕ) → Marking t c None w₀ w → Marked t c w
unfolding route_credit pick
marking-end t c w₀ w s = record { credit = λ q g. go q g (any (eqb q) (route (structure t) c)) refl }
  where
    go : (q : ℕ) → q < pin_count t → (b : Bool) → any (eqb q) (route (structure t) c) ≡ b → get_or w (credits_at + q) 0 ≡ route_credit t c q
    go q g true e = rw e (⊎_elim (λ i. absurd i) (λ f. f) (s.passed q g (any_here q (route (structure t) c) e)))
    go q g false e = rw e (s.off q g (λ i. true≢false (sym (here-any q (route (structure t) c) i) ∙ e)))
