-- Arrivals, credit and slack by Definitions 1 and 2 of 004 are those of `timing`, which the engine is proved against: whatever numbers fit the sentences,
-- they are these.
-- Assumes nothing.
use Rattle.std.specs.Prelude.{◌≡◌, ◌⊎◌, ℕ, ◌+◌, ◌-◌, ◌≤◌, ◌<◌, length, eqb, ℤ, pos, ◌+ℤ◌, ◌-ℤ◌}
use Rattle.std.proofs.Math.Path.{refl, ap}
use Rattle.std.proofs.Common.{sym, ◌∙◌, inl, inr, arith, eq-eqb}
use mathlib.Core.List.{List, [], ◌∷◌}
use Rattle.std.proofs.Math.IntN.{sub_ℕ}
use Rattle.lists.specs.Choice.{pick}
use Rattle.lists.specs.Parts.{sum, last}
use Rattle.lists.proofs.Laws.Integer.{both-within, sub_is, plus-is, minus_is}
use Rattle.timing.specs.Kinds.{B, K, I}
use Rattle.timing.specs.Table.{Edge, early, late}
use Rattle.timing.specs.Structure.{Structure, pins, arcs, kind, leaves, enters, clock_pin, data_pin, Times}
use Rattle.timing.specs.Clock.{into, clock_arrival, common, pin_credit}
use Rattle.timing.specs.Paths.{Path, start}
use Rattle.timing.specs.Slack.{Mode, for_setup, for_hold, start_arrival, path_credit, gain, loss, slack}
use Rattle.timing.specs.Laws.Sound.{Sound}
use Rattle.timing.proofs.Laws.Routes.{climb-ind, root-only}
use Rattle.timing.specs.Laws.Routes.{Clocked}
use Rattle.timing.specs.Laws.Ranged.{Ranged}
use Rattle.timing.proofs.Laws.Ranged.{clock-order, clock-root, clock-step}
use Rattle.demands.specs.Definitions.{Runs, IsPath, Arrivals, before, credit, Credited, ByDefinition}
use Rattle.demands.proofs.Laws.Ancestors.{into-clocked, ancestor-in, ancestor-clocked, common-lowest, lowest-is}

-- ---- sums of integers, term by term

four : (a b c d e : ℕ) → pos a +ℤ pos b -ℤ pos c -ℤ pos d -ℤ pos e ≡ sub_ℕ (a + b) (c + d + e)
four a b c d e =
    let x = pos a +ℤ pos b -ℤ pos c in
    let y = x -ℤ pos d in
    let z = y -ℤ pos e in
    let u = sub_ℕ (a + b) (c + d + e) in
    let hx = minus_is (pos a +ℤ pos b) c in
    let hy = minus_is x d in
    let hz = minus_is y e in
    let hu = sub_is (a + b) (c + d + e) in
    both-within z u (omega (arith, hx, hy, hz, hu)) (omega (arith, hx, hy, hz, hu))

three : (a b c d : ℕ) → pos a +ℤ pos b -ℤ pos c -ℤ pos d ≡ sub_ℕ (a + b) (c + d)
three a b c d =
    let x = pos a +ℤ pos b -ℤ pos c in
    let y = x -ℤ pos d in
    let u = sub_ℕ (a + b) (c + d) in
    let hx = minus_is (pos a +ℤ pos b) c in
    let hy = minus_is x d in
    let hu = sub_is (a + b) (c + d) in
    both-within y u (omega (arith, hx, hy, hu)) (omega (arith, hx, hy, hu))

sum_of : (a b c : ℕ) → sub_ℕ a b +ℤ pos c ≡ sub_ℕ (a + c) b
sum_of a b c =
    let x = sub_ℕ a b in
    let y = x +ℤ pos c in
    let u = sub_ℕ (a + c) b in
    let hx = sub_is a b in
    let hy = plus-is x c in
    let hu = sub_is (a + c) b in
    both-within y u (omega (arith, hx, hy, hu)) (omega (arith, hx, hy, hu))

less : (a b : ℕ) → b ≤ a → pos a -ℤ pos b ≡ pos (a - b)
less a b h =
    let x = pos a -ℤ pos b in
    let hx = minus_is (pos a) b in
    both-within x (pos (a - b)) (omega (arith, hx)) (omega (arith, hx))

module _ (s : Structure) (ok : Sound s) (x : Times) where
  -- ---- arrivals

  module _ (at : Edge → ℕ → ℕ) (h : Arrivals s x at) where
    clock-at : (e : Edge) (p : ℕ) → p < pins s → Clocked s ok p → at e p ≡ clock_arrival e s x p
    clock-at e =
        climb-ind s ok (λ p. Clocked s ok p → at e p ≡ clock_arrival e s x p) (λ p l i c. top p l i c)
        (λ p a more l b q i r ih c.
        let k = into-clocked s ok p a b q c in
        let o : (kind s (enters s a) ≡ B) ⊎ (kind s (enters s a) ≡ K) = rw q k.0 in
        rw (← q) (h.down e a b o ∙ ap (λ (n : ℕ). n + x.delay e a) (ih k.1) ∙ sym (clock-step s ok x e a b o)))
      where
        top : (p : ℕ) → p < pins s → into s p ≡ [] → Clocked s ok p → at e p ≡ clock_arrival e s x p
        top p l i (inl c) = h.of-root e p l c ∙ rw (root-only s ok p l c) (sym (clock-root s ok x e))
        top p l i (inr c) = absurd (no_way (sym (ap length i) ∙ ok.one_in p l c))
          where
            no_way : ◌≡◌ {A = ℕ} 0 1 → ⊥
            no_way e = omega arith

    start-at : (e : Edge) (p : ℕ) → p < pins s → (kind s p ≡ K) ⊎ (kind s p ≡ I) → at e p ≡ start_arrival e s x p
    unfolding start_arrival pick
    start-at e p l (inl k) = rw k (clock-at e p l (inr (inr k)))
    start-at e p l (inr k) = rw k (h.of-input e p l k)

  -- there are such arrivals: an I's own, every other pin's by its clock route
  abbrev some_arrival : Edge → ℕ → ℕ
  some_arrival e p = pick (eqb (kind s p) I) (x.arrival e p) (clock_arrival e s x p)

  clocked-some : (e : Edge) (p : ℕ) → Clocked s ok p → some_arrival e p ≡ clock_arrival e s x p
  unfolding pick
  clocked-some e p (inl k) = rw k
  clocked-some e p (inr (inl k)) = rw k
  clocked-some e p (inr (inr k)) = rw k

  arrivals-exist : Arrivals s x some_arrival
  unfolding pick
  arrivals-exist =
      record {
        of-root = λ e p l k. clocked-some e p (inl k) ∙ rw (root-only s ok p l k) (clock-root s ok x e);
        down = λ e a l k.
            clocked-some e (enters s a) (inr k)
            ∙ clock-step s ok x e a l k
            ∙ ap (λ (n : ℕ). n + x.delay e a) (sym (clocked-some e (leaves s a) (into-clocked s ok (enters s a) a l refl (inr k)).1));
        of-input = λ e p l k. rw k;
      }

  -- ---- the two ends of a path
  record Ends (p : Path) : Type 0 where
    pub start-in : start s p < pins s
    pub start-kind : (kind s (start s p) ≡ K) ⊎ (kind s (start s p) ≡ I)
    pub clock-in : clock_pin s p.test < pins s
    pub clock-kind : kind s (clock_pin s p.test) ≡ K

  runs_last : (v : ℕ) (w : List ℕ) → Runs s v w → (last 0 w < arcs s) × ((kind s (leaves s (last 0 w)) ≡ K) ⊎ (kind s (leaves s (last 0 w)) ≡ I))
  unfolding last
  runs_last v [] h = absurd h
  runs_last v (a ∷ []) h = (h.0, h.2)
  runs_last v (a ∷ b ∷ w) h = runs_last (leaves s a) (b ∷ w) h.2

  ends : (p : Path) → IsPath s p → Ends p
  unfolding start
  ends p h =
      let r = runs_last (data_pin s p.test) p.walk h.1 in
      record {
        start-in = ok.from_in (last 0 p.walk) r.0;
        start-kind = r.1;
        clock-in = ok.clock-in p.test h.0;
        clock-kind = ok.clock-kind p.test h.0;
      }

  -- ---- credit and slack
  module _ (r : Ranged s x) (at : Edge → ℕ → ℕ) (h : Arrivals s x at) (m : Mode) (p : Path) (i : IsPath s p) where
    abbrev o1 : ℕ
    o1 = start s p

    abbrev o2 : ℕ
    o2 = clock_pin s p.test

    credit-at : (u : ℕ) → u < pins s → Clocked s ok u → credit at u ≡ pos (pin_credit s x u)
    unfolding credit pin_credit
    credit-at u l c =
        rw (clock-at at h late u l c, clock-at at h early u l c) (less (clock_arrival late s x u) (clock_arrival early s x u) (clock-order s ok x r u))

    from-K : kind s o1 ≡ K → pos (path_credit m s x p) ≡ credit at (common s o1 o2)
    unfolding path_credit pick
    from-K k =
        let e = ends p i in
        let low = common-lowest s ok o1 o2 e.start-in e.clock-in (inr (inr k)) (inr (inr e.clock-kind)) in
        rw (eq-eqb _ _ k)
        (sym
        (credit-at (common s o1 o2) (ancestor-in s ok (common s o1 o2) e.start-in low.of-first)
        (ancestor-clocked s ok (common s o1 o2) (inr (inr k)) low.of-first)))

    from-I : kind s o1 ≡ I → path_credit m s x p ≡ 0
    unfolding path_credit pick
    from-I k = rw k

    -- whatever fits Definition 2 is the credit of `timing`, and that fits it
    pub credit-is : (c : ℤ) → Credited s at p c → c ≡ pos (path_credit m s x p)
    credit-is c (inl q) =
        let e = ends p i in
        q.1.2
        ∙ ap (credit at) (lowest-is s ok o1 o2 e.start-in e.clock-in (inr (inr q.0)) (inr (inr e.clock-kind)) q.1.0 q.1.1)
        ∙ sym (from-K q.0)
    credit-is c (inr q) = q.1 ∙ ap pos (sym (from-I q.0))

    is-credit : Credited s at p (pos (path_credit m s x p))
    is-credit = go (ends p i).start-kind
      where
        go : (kind s o1 ≡ K) ⊎ (kind s o1 ≡ I) → Credited s at p (pos (path_credit m s x p))
        go (inl k) =
            let e = ends p i in
            inl (k, (common s o1 o2, common-lowest s ok o1 o2 e.start-in e.clock-in (inr (inr k)) (inr (inr e.clock-kind)), from-K k))
        go (inr k) = inr (k, ap pos (from-I k))

    before-is : before m s x at p ≡ sub_ℕ (gain m s x p) (loss m s x p)
    unfolding before gain loss
    before-is = go m (ends p i)
      where
        go : (m : Mode) → Ends p → before m s x at p ≡ sub_ℕ (gain m s x p) (loss m s x p)
        go for_setup e =
            rw (clock-at at h early o2 e.clock-in (inr (inr e.clock-kind)), start-at at h late o1 e.start-in e.start-kind)
            (four (clock_arrival early s x o2) x.period (x.setup p.test) (start_arrival late s x o1) (sum (x.delay late) p.walk))
        go for_hold e =
            rw (clock-at at h late o2 e.clock-in (inr (inr e.clock-kind)), start-at at h early o1 e.start-in e.start-kind)
            (three (start_arrival early s x o1) (sum (x.delay early) p.walk) (clock_arrival late s x o2) (x.hold p.test))

    -- Definition 1 and the credit give the slack of `timing`
    pub slack-is : before m s x at p +ℤ pos (path_credit m s x p) ≡ slack m s x p
    unfolding slack
    slack-is = rw before-is (sum_of (gain m s x p) (loss m s x p) (path_credit m s x p))

  module _ (r : Ranged s x) (m : Mode) where
    -- credit and slack by the definitions are those of `timing`
    pub by-definition : (credit_of slack_of : Path → ℤ) → ByDefinition m s x credit_of slack_of
        → (p : Path) → IsPath s p → (credit_of p ≡ pos (path_credit m s x p)) × (slack_of p ≡ slack m s x p)
    by-definition credit_of slack_of d p i =
        let c = credit-is r d.at d.arrivals m p i (credit_of p) (d.credited p i) in
        (c, d.slacked p i ∙ ap (λ (z : ℤ). before m s x d.at p +ℤ z) c ∙ slack-is r d.at d.arrivals m p i)

    -- and those fit the definitions
    pub defined : ByDefinition m s x (λ (p : Path). pos (path_credit m s x p)) (slack m s x)
    defined =
        record {
          at = some_arrival;
          arrivals = arrivals-exist;
          credited = λ p i. is-credit r some_arrival arrivals-exist m p i;
          slacked = λ p i. sym (slack-is r some_arrival arrivals-exist m p i);
        }
