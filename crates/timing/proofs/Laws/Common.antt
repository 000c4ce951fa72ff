-- The common pin is the lowest common ancestor; it can be found from parents and depths alone; the shared arcs are exactly those on both climbs.
-- Assumes nothing.
use Rattle.std.specs.Prelude.{◌≡◌, refl, ◌⊎◌, ◌≢◌, ◌↔◌, ℕ, suc, ◌≤◌, ◌<◌, length, eqb}
use Rattle.std.proofs.Common.{sym, ◌∙◌, inl, inr, ⊎_elim, arith, ne_eqb}
use Rattle.std.proofs.Math.Path.{ap}
use mathlib.Core.Bool.{Bool, true, false}
use mathlib.Core.List.{List, [], ◌∷◌}
use Rattle.std.proofs.Math.ListN.{get_or}
use Rattle.lists.specs.Choice.{pick}
use Rattle.lists.specs.Parts.{those, any}
use Rattle.lists.specs.Laws.Member.{In}
use Rattle.lists.proofs.Laws.Member.{in_right, those-cong}
use Rattle.timing.specs.Kinds.{B, K}
use Rattle.timing.specs.Structure.{Structure, pins, arcs, kind, leaves, enters}
use Rattle.timing.specs.Clock.{into, climb, route, root, common}
use Rattle.timing.proofs.Laws.Kinds.{drive-root}
use Rattle.timing.specs.Laws.Sound.{Sound}
use Rattle.timing.proofs.Laws.Routes.{into-into, into-cases, any_here, here-any, climb-top, climb-step, climb-ind, climb-split, route-top, route-step, self-route, root_is, common-on}
use Rattle.timing.specs.Laws.Routes.{Clocked}
use Rattle.timing.specs.Laws.Common as Of

single-is : (a : ℕ) (l : List ℕ) → length l ≡ 1 → In a l → l ≡ a ∷ []
single-is a [] n h = absurd h
single-is a (y ∷ []) n (inl e) = ap (λ (x : ℕ). x ∷ []) (sym e)
single-is a (y ∷ []) n (inr h) = absurd h
single-is a (y ∷ z ∷ l) n h = absurd (no_way (length l) n)
  where
    no_way : (m : ℕ) → suc (suc m) ≡ 1 → ⊥
    no_way m e = omega arith

not-here : (p : ℕ) (l : List ℕ) → (In p l → ⊥) → any (eqb p) l ≡ false
not-here p l h = go (any (eqb p) l) refl
  where
    go : (b : Bool) → any (eqb p) l ≡ b → b ≡ false
    go true e = absurd (h (any_here p l e))
    go false e = refl

here-or-not : (p : ℕ) (l : List ℕ) → In p l ⊎ (In p l → ⊥)
here-or-not p l = go (any (eqb p) l) refl
  where
    go : (b : Bool) → any (eqb p) l ≡ b → In p l ⊎ (In p l → ⊥)
    go true e = inl (any_here p l e)
    go false e = inr (λ h. mathlib.Core.Bool.true≢false (sym (here-any p l h) ∙ e))

first-of-route : (s : Structure) (p : ℕ) (test : ℕ → Bool) → test p ≡ true → get_or (those test (route s p)) 0 0 ≡ p
unfolding route those pick
first-of-route s p test e = rw e

skip : (x q : ℕ) (l : List ℕ) → x ≢ q → any (eqb x) (q ∷ l) ≡ any (eqb x) l
unfolding any pick
skip x q l n = rw (ne_eqb x q n)

module _ (s : Structure) (ok : Sound s) where
  -- ---- what comes into a clock pin

  pub only-in : (a : ℕ) → a < arcs s → (kind s (enters s a) ≡ B) ⊎ (kind s (enters s a) ≡ K) → into s (enters s a) ≡ a ∷ []
  only-in a l k = single-is a (into s (enters s a)) (ok.one_in (enters s a) (ok.to_in a l) k) (into-into s (enters s a) a l refl)

  pub root_none : into s (root s) ≡ []
  root_none =
      into-cases s (root s) (λ l. l ≡ []) refl
      (λ a more l e. absurd (drive-root (kind s (leaves s a)) (kind s (enters s a)) (ok.drives a l) (ap (kind s) e ∙ (root_is s ok).1)))

  -- ---- the common pin, step by step
  pub common-here : (p q : ℕ) → In p (route s q) → common s p q ≡ p
  unfolding common
  common-here p q h = first-of-route s p (λ (x : ℕ). any (eqb x) (route s q)) (here-any p (route s q) h)

  pub common-up : (p q a : ℕ) (more : List ℕ) → p < pins s → into s p ≡ a ∷ more → (In p (route s q) → ⊥) → common s p q ≡ common s (leaves s a) q
  unfolding common those pick
  common-up p q a more l i h = ap (λ (r : List ℕ). get_or (those (λ (x : ℕ). any (eqb x) (route s q)) r) 0 0) (route-step s ok p a more l i) ∙ rw (not-here p (route s q) h)

  pub common-across : (p q b : ℕ) (more : List ℕ) → q < pins s → into s q ≡ b ∷ more → (In q (route s p) → ⊥) → common s p q ≡ common s p (leaves s b)
  unfolding common
  common-across p q b more l i h =
      ap (λ (r : List ℕ). get_or (those (λ (x : ℕ). any (eqb x) r) (route s p)) 0 0) (route-step s ok q b more l i)
      ∙ ap (λ (r : List ℕ). get_or r 0 0)
      (those-cong (λ (x : ℕ). any (eqb x) (q ∷ route s (leaves s b))) (λ (x : ℕ). any (eqb x) (route s (leaves s b))) (route s p)
      (λ x k. skip x q (route s (leaves s b)) (λ e. h (rw e at k))))

  -- ---- it is the lowest: every common ancestor is an ancestor of it
  pub lowest-common : (x p q : ℕ) → p < pins s → In x (route s p) → In x (route s q) → In x (route s (common s p q))
  lowest-common x p q l =
      climb-ind s ok (λ p. In x (route s p) → In x (route s q) → In x (route s (common s p q)))
      (λ p l e h k. rw (common-here p q (alone p e h k)) h)
      (λ p a more l b e i r ih h k.
      ⊎_elim (λ y. rw (common-here p q y) h)
      (λ n. rw (common-up p q a more l i n) (ih (rest p a h k n (route-step s ok p a more l i)) k))
      (here-or-not p (route s q)))
      p l
    where
      alone : (p : ℕ) → into s p ≡ [] → In x (route s p) → In x (route s q) → In p (route s q)
      alone p e h k = only (rw (route-top s ok p e) at h)
        where
          only : In x (p ∷ []) → In p (route s q)
          only (inl z) = rw z at k
          only (inr z) = absurd z

      rest : (p a : ℕ) → In x (route s p) → In x (route s q) → (In p (route s q) → ⊥) → route s p ≡ p ∷ route s (leaves s a) → In x (route s (leaves s a))
      rest p a h k n z = go (rw z at h)
        where
          go : In x (p ∷ route s (leaves s a)) → In x (route s (leaves s a))
          go (inl z) = absurd (n (rw z at k))
          go (inr z) = z

  abbrev depth : ℕ → ℕ
  depth = Of.depth s ok

  pub depth-top : (p : ℕ) → into s p ≡ [] → depth p ≡ 0
  unfolding Of.depth
  depth-top p e = rw (climb-top s ok p e)

  pub depth-step : (p a : ℕ) (more : List ℕ) → p < pins s → into s p ≡ a ∷ more → depth p ≡ suc (depth (leaves s a))
  unfolding Of.depth
  depth-step p a more l e = rw (climb-step s ok p a more l e)

  above-less : (x p : ℕ) → p < pins s → In x (route s p) → (x ≡ p) ⊎ (depth x < depth p)
  above-less x =
      climb-ind s ok (λ p. In x (route s p) → (x ≡ p) ⊎ (depth x < depth p))
      (λ p l e h. top p (rw (route-top s ok p e) at h))
      (λ p a more l b e i r ih h. one p a ih (depth-step p a more l i) (rw (route-step s ok p a more l i) at h))
    where
      top : (p : ℕ) → In x (p ∷ []) → (x ≡ p) ⊎ (depth x < depth p)
      top p (inl z) = inl z
      top p (inr z) = absurd z

      one : (p a : ℕ) → (In x (route s (leaves s a)) → (x ≡ leaves s a) ⊎ (depth x < depth (leaves s a))) → depth p ≡ suc (depth (leaves s a))
          → In x (p ∷ route s (leaves s a)) → (x ≡ p) ⊎ (depth x < depth p)
      one p a ih d (inl z) = inl z
      one p a ih d (inr z) = inr (⊎_elim (λ q. rw q (omega arith)) (λ q. omega arith) (ih z))

  not-above : (p q : ℕ) → q < pins s → p ≢ q → depth q ≤ depth p → In p (route s q) → ⊥
  not-above p q l n d h = ⊎_elim (λ e. n e) (λ k. less k d) (above-less p q l h)
    where
      less : depth p < depth q → depth q ≤ depth p → ⊥
      less k d = omega arith

  pub common-same : (p : ℕ) → common s p p ≡ p
  common-same p = common-here p p (self-route s p)

  pub common-deeper : (p q a : ℕ) (more : List ℕ) → p < pins s → q < pins s → p ≢ q → depth q ≤ depth p → into s p ≡ a ∷ more
      → common s p q ≡ common s (leaves s a) q
  common-deeper p q a more l m n d i = common-up p q a more l i (not-above p q m n d)

  pub common-other : (p q b : ℕ) (more : List ℕ) → p < pins s → q < pins s → p ≢ q → depth p ≤ depth q → into s q ≡ b ∷ more
      → common s p q ≡ common s p (leaves s b)
  common-other p q b more l m n d i = common-across p q b more m i (not-above q p l (λ e. n (sym e)) d)

  -- ---- the shared arcs are exactly those on both climbs
  on-climb : (a p : ℕ) → p < pins s → In a (climb s p) → In (enters s a) (route s p) × ((more : List ℕ) × (into s (enters s a) ≡ a ∷ more))
  on-climb a =
      climb-ind s ok (λ p. In a (climb s p) → In (enters s a) (route s p) × ((more : List ℕ) × (into s (enters s a) ≡ a ∷ more)))
      (λ p l e h. absurd (rw (climb-top s ok p e) at h))
      (λ p b more l k e i r ih h. one p b more e i ih (route-step s ok p b more l i) (rw (climb-step s ok p b more l i) at h))
    where
      one : (p b : ℕ) (more : List ℕ) → enters s b ≡ p → into s p ≡ b ∷ more
          → (In a (climb s (leaves s b)) → In (enters s a) (route s (leaves s b)) × ((more : List ℕ) × (into s (enters s a) ≡ a ∷ more)))
          → route s p ≡ p ∷ route s (leaves s b) → In a (b ∷ climb s (leaves s b)) → In (enters s a) (route s p) × ((more : List ℕ) × (into s (enters s a) ≡ a ∷ more))
      one p b more e i ih z (inl q) =
          let f : enters s a ≡ p = ap (enters s) q ∙ e in
          (rw f (self-route s p), (more, ap (into s) f ∙ i ∙ ap (λ (x : ℕ). x ∷ more) (sym q)))
      one p b more e i ih z (inr h) = let r = ih h in (rw z (inr r.0), r.1)

  pub shared : (a p q : ℕ) → p < pins s → q < pins s → Clocked s ok p → Clocked s ok q
      → In a (climb s (common s p q)) ↔ (In a (climb s p) × In a (climb s q))
  shared a p q l m cp cq =
      let c = common s p q in
      let on = common-on s ok p q l m cp cq in
      let sp = climb-split s ok c p l on.0 in
      let sq = climb-split s ok c q m on.1 in (
        (λ h. (rw sp.meets (in_right a sp.front (climb s c) h), rw sq.meets (in_right a sq.front (climb s c) h))),
        (λ h.
            let rp = on-climb a p l h.0 in
            let rq = on-climb a q m h.1 in
            let x = enters s a in
            let rc : In x (route s c) = lowest-common x p q l rp.0 rq.0 in
            let cl : c < pins s = route-in c p l on.0 in
            let y = climb-split s ok x c cl rc in
            rw y.meets (in_right a y.front (climb s x) (rw (climb-step s ok x a rp.1.0 (route-in x p l rp.0) rp.1.1) (inl refl)))),
      )
    where
      route-in : (x p : ℕ) → p < pins s → In x (route s p) → x < pins s
      route-in x =
          climb-ind s ok (λ p. In x (route s p) → x < pins s)
          (λ p l e h. top p l (rw (route-top s ok p e) at h))
          (λ p a more l b e i r ih h. one p a l ih (rw (route-step s ok p a more l i) at h))
        where
          top : (p : ℕ) → p < pins s → In x (p ∷ []) → x < pins s
          top p l (inl z) = rw z l
          top p l (inr z) = absurd z

          one : (p a : ℕ) → p < pins s → (In x (route s (leaves s a)) → x < pins s) → In x (p ∷ route s (leaves s a)) → x < pins s
          one p a l ih (inl z) = rw z l
          one p a l ih (inr z) = ih z
