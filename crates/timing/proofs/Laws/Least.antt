-- The value of a walk, arc by arc; and values against another clock pin: the credit against an ancestor of a test's clock pin is at most the credit against the
-- clock pin itself, since what a start has in common with the ancestor it has in common with the clock pin, and credits grow down the tree. So values against a
-- common ancestor of all clock pins, R for one, are at most those of each test (`value-above`).
-- Assumes nothing.
use Rattle.std.specs.Prelude.{◌≡◌, ◌⊎◌, List, [], ◌∷◌}
use Rattle.std.proofs.Common.{inl, eq-eqb, ne_eqb, sym, subst}
use Rattle.std.proofs.Math.Logic.{inr}
use Prim.Native.Nat.{ℕ, ◌+◌, ◌≤◌, ◌<◌}
use native.Mathlib.Omega.{arith}
use Rattle.std.proofs.Math.Decide.{ℕ_discrete}
use Rattle.lists.specs.Choice.{pick}
use Rattle.lists.specs.Parts.{sum, last, each}
use Rattle.lists.specs.Laws.Member.{In}
use Rattle.lists.proofs.Laws.Member.{in_one, in-each, into-each, in_right, in_left}
use Rattle.lists.proofs.Laws.Sum.{sum-append, sum-le}
use Rattle.timing.specs.Kinds.{R, B, K}
use Rattle.timing.specs.Table.{early, late}
use Rattle.timing.specs.Structure.{Structure, pins, arcs, kind, leaves, enters, Times}
use Rattle.timing.specs.Clock.{climb, route, clock_arrival, common, pin_credit}
use Rattle.timing.specs.Paths.{walks}
use Rattle.timing.specs.Slack.{Mode, for_setup, for_hold}
use Rattle.timing.specs.Value.{value_of, credit_from, seed_of, value}
use Rattle.timing.proofs.Laws.Kinds.{drive-clock, drive-root}
use Rattle.timing.specs.Laws.Sound.{Sound}
use Rattle.timing.specs.Laws.Ranged.{Ranged}
use Rattle.timing.proofs.Laws.Routes.{climb-arcs, climb-ind, climb-split, route-top, route-step, common-on}
use Rattle.timing.specs.Laws.Routes.{Clocked}
use Rattle.timing.proofs.Laws.Common.{lowest-common}
use Rattle.timing.proofs.Laws.Walked.{last-arc, walks-sound}

-- ---- arc by arc

module _ (s : Structure) (weight seed : ℕ → ℕ) where
  -- the value of a walk of one arc
  pub value-start : (a : ℕ) → value_of s weight seed (a ∷ []) ≡ seed (leaves s a) + weight a
  unfolding value_of last sum
  value-start a = omega arith

  -- an arc more
  pub value-over : (a b : ℕ) (w : List ℕ) → value_of s weight seed (a ∷ b ∷ w) ≡ value_of s weight seed (b ∷ w) + weight a
  unfolding value_of last sum
  value-over a b w = omega arith

-- ---- up the clock tree

module _ (s : Structure) (ok : Sound s) where
  route-in : (y p : ℕ) → p < pins s → In y (route s p) → y < pins s
  unfolding route
  route-in y p l (inl e) = rw e l
  route-in y p l (inr i) = let q = in-each (leaves s) y (climb s p) i in rw q.2 (ok.from_in q.0 (climb-arcs s p q.0 q.1))

  driver-clocked : (a : ℕ) → a < arcs s → Clocked s ok (enters s a) → Clocked s ok (leaves s a)
  driver-clocked a l (inl c) = absurd (drive-root (kind s (leaves s a)) (kind s (enters s a)) (ok.drives a l) c)
  driver-clocked a l (inr c) = go (drive-clock (kind s (leaves s a)) (kind s (enters s a)) (ok.drives a l) c)
    where
      go : (kind s (leaves s a) ≡ R) ⊎ (kind s (leaves s a) ≡ B) → Clocked s ok (leaves s a)
      go (inl e) = inl e
      go (inr e) = inr (inl e)

  route-clocked : (y p : ℕ) → p < pins s → Clocked s ok p → In y (route s p) → Clocked s ok y
  route-clocked y =
      climb-ind s ok (λ p. Clocked s ok p → In y (route s p) → Clocked s ok y)
      (λ p l e c h. rw (in_one y p (rw (route-top s ok p e) at h)) c)
      (λ p a more l k e i r ih c h. one p a k e ih c (rw (route-step s ok p a more l i) at h))
    where
      one : (p a : ℕ) → a < arcs s → enters s a ≡ p → (Clocked s ok (leaves s a) → In y (route s (leaves s a)) → Clocked s ok y) → Clocked s ok p
          → In y (p ∷ route s (leaves s a)) → Clocked s ok y
      one p a k e ih c (inl q) = rw q c
      one p a k e ih c (inr i) = ih (driver-clocked a k (rw e c)) i

  -- a pin above another is on its routes
  pub route-up : (z y p : ℕ) → p < pins s → In y (route s p) → In z (route s y) → In z (route s p)
  unfolding route
  route-up z y p l h (inl e) = subst (λ (u : ℕ). In u (route s p)) (sym e) h
  route-up z y p l h (inr i) =
      let q = in-each (leaves s) z (climb s y) i in
      let f = climb-split s ok y p l h in
      let onto : In (leaves s q.0) (each (leaves s) (climb s p)) =
      into-each (leaves s) q.0 (climb s p) (rw f.meets (in_right q.0 f.front (climb s y) q.1)) in
      inr (subst (λ (u : ℕ). In u (each (leaves s) (climb s p))) (sym q.2) onto)

  module _ (x : Times) (r : Ranged s x) where
    -- credits grow down the tree
    pub credit-up : (y p : ℕ) → p < pins s → In y (route s p) → pin_credit s x y ≤ pin_credit s x p
    unfolding pin_credit clock_arrival
    credit-up y p l h =
        let q = climb-split s ok y p l h in
        let a = sum-append (x.delay early) q.front (climb s y) in
        let b = sum-append (x.delay late) q.front (climb s y) in
        let c : sum (x.delay early) q.front ≤ sum (x.delay late) q.front =
        sum-le (x.delay early) (x.delay late) q.front (λ a i. r.delays a (climb-arcs s p a (rw q.meets (in_left a q.front (climb s y) i)))) in
        rw q.meets (omega arith)

    -- the credit against an ancestor of the test's clock pin is at most the test's
    pub credit-above : (m : Mode) (y c p : ℕ) → c < pins s → kind s c ≡ K → In y (route s c) → p < pins s → credit_from m s x y p ≤ credit_from m s x c p
    unfolding credit_from pick
    credit-above m y c p cl ck h l = elim (ℕ_discrete (kind s p) K) [
      | yes e ↦
          let z = common s p y in
          let a = common-on s ok p y l (route-in y c cl h) (inr (inr e)) (route-clocked y c cl (inr (inr ck)) h) in
          let b = common-on s ok p c l cl (inr (inr e)) (inr (inr ck)) in
          rw (eq-eqb _ _ e)
          (credit-up z (common s p c) (route-in (common s p c) p l b.0) (lowest-common s ok z p c l a.0 (route-up z y c cl h a.1)))
      | no e ↦ rw (ne_eqb _ _ e) (omega arith)
    ]

    -- and so is every value
    pub value-above : (m : Mode) (y c v : ℕ) → c < pins s → kind s c ≡ K → In y (route s c) → (w : List ℕ) → In w (walks s v)
        → value m ok.level s x y w ≤ value m ok.level s x c w
    unfolding walks value_of seed_of
    value-above m y c v cl ck h w i = go m
      where
        p : ℕ
        p = leaves s (last 0 w)

        l : p < pins s
        l = ok.from_in (last 0 w) (last-arc s w v (walks-sound s (pins s) v w i))

        go : (m : Mode) → value m ok.level s x y w ≤ value m ok.level s x c w
        go for_setup = omega (arith, credit-above for_setup y c p cl ck h l)
        go for_hold = omega (arith, credit-above for_hold y c p cl ck h l)
