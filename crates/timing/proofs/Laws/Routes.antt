-- The clock routes of a sound structure: every climb is bounded by the pin's level, every clock pin's route ends at R, two K have a common pin, and from
-- it up their climbs are one.
--
-- A climb is defined by a bound on its steps. `climb-top`, `climb-step` and the induction `climb-ind` hide that bound: nothing below unfolds a climb.
-- Assumes nothing.
use Rattle.std.proofs.Math.Path.{◌≡◌, refl, ap}
use Rattle.std.proofs.Common.{sym, ◌∙◌, inl, inr, ⊎_elim, not-suc-le-zero}
use Rattle.std.specs.Prelude.{◌⊎◌, ◌≢◌, true, get_or}
use Rattle.std.proofs.Math.Bool.{Bool}
use mathlib.Core.List.{List, [], ◌∷◌}
use Prim.Native.Nat.{ℕ, zero, suc, ◌≤◌, ◌<◌}
use native.Mathlib.Omega.{arith}
use borrow.Author.Tests.{eqb-true, eq-eqb}
use Rattle.std.proofs.Math.ListN.{length}
use Rattle.std.proofs.Math.Dec.{eqb}
use Rattle.lists.specs.Parts.{below, those, any, each}
use Rattle.lists.specs.Laws.Member.{In}
use Rattle.lists.proofs.Laws.Member.{of-all, in-those, into-those, any-in, in-any, in-below, into-below}
use Rattle.lists.specs.Laws.Sum.{Distinct}
use Rattle.timing.specs.Kinds.{R, B, K}
use Rattle.timing.specs.Structure.{Structure, pins, arcs, kind, leaves, enters}
use Rattle.timing.specs.Clock.{into, at_first, climb_by, climb, route, root, common}
use Rattle.timing.proofs.Laws.Kinds.{drive-clock}
use Rattle.timing.specs.Laws.Sound.{Sound}
use Rattle.timing.specs.Laws.Routes.{Split}
use Rattle.timing.specs.Laws.Routes as Of

-- ---- the arcs into a pin

pub in-into : (s : Structure) (v a : ℕ) → In a (into s v) → (a < arcs s) × (enters s a ≡ v)
unfolding into
in-into s v a h =
    let r = in-those (λ (a : ℕ). eqb (enters s a) v) a (below (arcs s)) h in
    (in-below a (arcs s) r.0, eqb-true (enters s a) v r.1)

pub into-into : (s : Structure) (v a : ℕ) → a < arcs s → enters s a ≡ v → In a (into s v)
unfolding into
into-into s v a l e = into-those (λ (a : ℕ). eqb (enters s a) v) a (below (arcs s)) (into-below a (arcs s) l) (eq-eqb _ _ e)

-- none, or a first
pub into-cases : (s : Structure) (v : ℕ) (P : List ℕ → Type 0) → P [] → ((a : ℕ) (more : List ℕ) → a < arcs s → enters s a ≡ v → P (a ∷ more)) → P (into s v)
into-cases s v P f g = go (into s v) (in-into s v)
  where
    go : (l : List ℕ) → ((a : ℕ) → In a l → (a < arcs s) × (enters s a ≡ v)) → P l
    go [] h = f
    go (a ∷ more) h = g a more (h a (inl refl)).0 (h a (inl refl)).1

-- a member of a list, by the test of equality
pub any_here : (p : ℕ) (l : List ℕ) → any (eqb p) l ≡ true → In p l
any_here p l e = let r = any-in (eqb p) l e in on r.0 (eqb-true p r.0 r.2) r.1
  where
    on : (q : ℕ) → p ≡ q → In q l → In p l
    on q z h = rw z h

pub here-any : (p : ℕ) (l : List ℕ) → In p l → any (eqb p) l ≡ true
here-any p l h = in-any (eqb p) p l h (eq-eqb p p refl)

-- the first of a list that has a member
first-in : (x : ℕ) (l : List ℕ) → In x l → In (get_or l 0 0) l
first-in x [] h = absurd h
first-in x (y ∷ l) h = inl refl

only_one : (x : ℕ) (l : List ℕ) → length l ≡ 1 → In x l → x ≡ get_or l 0 0
only_one x [] n h = absurd h
only_one x (y ∷ []) n (inl e) = e
only_one x (y ∷ []) n (inr h) = absurd h
only_one x (y ∷ z ∷ l) n h = absurd (no_way (length l) n)
  where
    no_way : (m : ℕ) → suc (suc m) ≡ 1 → ⊥
    no_way m e = omega arith

pub self-route : (s : Structure) (p : ℕ) → In p (route s p)
unfolding route
self-route s p = inl refl

climb-by-arcs : (s : Structure) (n p a : ℕ) → In a (climb_by s n p) → a < arcs s
unfolding climb_by at_first
climb-by-arcs s zero p a h = absurd h
climb-by-arcs s (suc n) p a h =
    into-cases s p (λ l. In a (at_first (λ (a : ℕ). a ∷ climb_by s n (leaves s a)) l) → a < arcs s) (λ k. absurd k)
    (λ b more l e. ⊎_elim (λ q. rw q l) (λ k. climb-by-arcs s n (leaves s b) a k))
    h

-- what a climb has are arcs
pub climb-arcs : (s : Structure) (p a : ℕ) → In a (climb s p) → a < arcs s
unfolding climb
climb-arcs s p a h = climb-by-arcs s (pins s) p a h

-- ---- one step of a climb, and induction up the tree: the bound is not seen again
module _ (s : Structure) (ok : Sound s) where
  climb-bound : (n m p : ℕ) → ok.level p ≤ n → ok.level p ≤ m → climb_by s n p ≡ climb_by s m p
  unfolding climb_by at_first
  climb-bound zero zero p h k = refl
  climb-bound zero (suc m) p h k =
      into-cases s p (λ l. [] ≡ at_first (λ (a : ℕ). a ∷ climb_by s m (leaves s a)) l) refl (λ a more l e. absurd (no-arc a l e))
    where
      no-arc : (a : ℕ) → a < arcs s → enters s a ≡ p → ⊥
      no-arc a l e = let r : ok.level (leaves s a) < ok.level p = rw e at (ok.rises a l) in omega arith
  climb-bound (suc n) zero p h k =
      into-cases s p (λ l. at_first (λ (a : ℕ). a ∷ climb_by s n (leaves s a)) l ≡ []) refl (λ a more l e. absurd (no-arc a l e))
    where
      no-arc : (a : ℕ) → a < arcs s → enters s a ≡ p → ⊥
      no-arc a l e = let r : ok.level (leaves s a) < ok.level p = rw e at (ok.rises a l) in omega arith
  climb-bound (suc n) (suc m) p h k =
      into-cases s p (λ l. at_first (λ (a : ℕ). a ∷ climb_by s n (leaves s a)) l ≡ at_first (λ (a : ℕ). a ∷ climb_by s m (leaves s a)) l) refl
      (λ a more l e.
      let r : ok.level (leaves s a) < ok.level p = rw e at (ok.rises a l) in
      ap (λ (r : List ℕ). a ∷ r) (climb-bound n m (leaves s a) (omega arith) (omega arith)))

  -- no arc comes in
  pub climb-top : (p : ℕ) → into s p ≡ [] → climb s p ≡ []
  unfolding climb climb_by at_first
  climb-top p e = go (pins s)
    where
      go : (n : ℕ) → climb_by s n p ≡ []
      go zero = refl
      go (suc n) = rw e

  -- a is the first to come in
  pub climb-step : (p a : ℕ) (more : List ℕ) → p < pins s → into s p ≡ a ∷ more → climb s p ≡ a ∷ climb s (leaves s a)
  unfolding climb climb_by at_first
  climb-step p a more l e = go (pins s) refl
    where
      go : (n : ℕ) → pins s ≡ n → climb_by s n p ≡ a ∷ climb s (leaves s a)
      go zero q = absurd (no_way q)
        where
          no_way : pins s ≡ 0 → ⊥
          no_way q = omega arith
      go (suc n) q =
          let i = in-into s p a (rw e (inl refl)) in
          let r : ok.level (leaves s a) < ok.level p = rw i.1 at (ok.rises a i.0) in
          rw e
          (ap (λ (r : List ℕ). a ∷ r)
          (climb-bound n (pins s) (leaves s a) (omega (arith, ok.level_in p l)) (omega (arith, ok.level_in p l))))

  pub climb-ind : (Q : ℕ → Type 0) → ((p : ℕ) → p < pins s → into s p ≡ [] → Q p)
      → ((p a : ℕ) (more : List ℕ) → p < pins s → a < arcs s → enters s a ≡ p → into s p ≡ a ∷ more → ok.level (leaves s a) < ok.level p → Q (leaves s a) → Q p)
      → (p : ℕ) → p < pins s → Q p
  climb-ind Q f g p l = go (suc (ok.level p)) p l (omega arith)
    where
      go : (n p : ℕ) → p < pins s → ok.level p < n → Q p
      go zero p l k = absurd (not-suc-le-zero k)
      go (suc n) p l k =
          into-cases s p (λ m. into s p ≡ m → Q p) (λ e. f p l e)
          (λ a more b e i.
          let r : ok.level (leaves s a) < ok.level p = rw e at (ok.rises a b) in
          g p a more l b e i r (go n (leaves s a) (ok.from_in a b) (omega arith)))
          refl

module _ (s : Structure) (ok : Sound s) where
  abbrev up : ℕ → List ℕ
  up p = climb s p

  pub in-climb : (a p : ℕ) → p < pins s → In a (climb s p) → (a < arcs s) × (ok.level (enters s a) ≤ ok.level p)
  in-climb a =
      climb-ind s ok (λ p. In a (up p) → (a < arcs s) × (ok.level (enters s a) ≤ ok.level p))
      (λ p l e h. absurd (rw (climb-top s ok p e) at h))
      (λ p b more l k e i r ih h. one p b k e r ih (rw (climb-step s ok p b more l i) at h))
    where
      one : (p b : ℕ) → b < arcs s → enters s b ≡ p → ok.level (leaves s b) < ok.level p → (In a (up (leaves s b)) → (a < arcs s) × (ok.level (enters s a) ≤ ok.level (leaves s b)))
          → In a (b ∷ up (leaves s b)) → (a < arcs s) × (ok.level (enters s a) ≤ ok.level p)
      one p b k e r ih (inl q) = rw (q, e) (k, omega arith)
      one p b k e r ih (inr h) = let y = ih h in (y.0, omega (arith, y.1))

  pub climb-distinct : (p : ℕ) → p < pins s → Distinct (climb s p)
  climb-distinct =
      climb-ind s ok (λ p. Distinct (up p)) (λ p l e. rw (climb-top s ok p e) tt)
      (λ p b more l k e i r ih.
      rw (climb-step s ok p b more l i) (
        of-all (λ c. b ≢ c) (up (leaves s b))
            (λ c m q. no_way (ok.level (leaves s b)) (ok.level (enters s b)) (ok.level (enters s c)) (ok.rises b k) (ap (λ (x : ℕ). ok.level (enters s x)) q) (in-climb c (leaves s b) (ok.from_in b k) m).1),
        ih,
      ))
    where
      no_way : (x y z : ℕ) → x < y → y ≡ z → z ≤ x → ⊥
      no_way x y z h e k = omega arith

  pub length-climb : (p : ℕ) → p < pins s → length (climb s p) ≤ ok.level p
  length-climb =
      climb-ind s ok (λ p. length (up p) ≤ ok.level p) (λ p l e. rw (climb-top s ok p e) (omega arith))
      (λ p b more l k e i r ih. rw (climb-step s ok p b more l i) (omega arith))

  -- ---- routes
  pub route-top : (p : ℕ) → into s p ≡ [] → route s p ≡ p ∷ []
  unfolding route each
  route-top p e = rw (climb-top s ok p e)

  pub route-step : (p a : ℕ) (more : List ℕ) → p < pins s → into s p ≡ a ∷ more → route s p ≡ p ∷ route s (leaves s a)
  unfolding route each
  route-step p a more l e = rw (climb-step s ok p a more l e)

  pub climb-split : (x p : ℕ) → p < pins s → In x (route s p) → Split s ok x p
  climb-split x =
      climb-ind s ok (λ p. In x (route s p) → Split s ok x p) (λ p l e h. last p e (rw (route-top p e) at h))
      (λ p b more l k e i r ih h. one p b more l i r ih (rw (route-step p b more l i) at h))
    where
      last : (p : ℕ) → into s p ≡ [] → In x (p ∷ []) → Split s ok x p
      last p e (inl q) = record { front = []; meets = ap up (sym q); short = rw q (omega arith) }
      last p e (inr h) = absurd h

      one : (p b : ℕ) (more : List ℕ) → p < pins s → into s p ≡ b ∷ more → ok.level (leaves s b) < ok.level p → (In x (route s (leaves s b)) → Split s ok x (leaves s b))
          → In x (p ∷ route s (leaves s b)) → Split s ok x p
      one p b more l i r ih (inl q) = record { front = []; meets = ap up (sym q); short = rw q (omega arith) }
      one p b more l i r ih (inr h) =
          let y = ih h in
          record { front = b ∷ y.front; meets = climb-step s ok p b more l i ∙ ap (λ (r : List ℕ). b ∷ r) y.meets; short = omega (arith, y.short) }

  -- ---- the one R
  pub root-only : (p : ℕ) → p < pins s → kind s p ≡ R → p ≡ root s
  unfolding root
  root-only p l e =
      only_one p (those (λ (p : ℕ). eqb (kind s p) R) (below (pins s))) ok.one-root
      (into-those (λ (p : ℕ). eqb (kind s p) R) p (below (pins s)) (into-below p (pins s) l) (eq-eqb _ _ e))

  pub root_is : (root s < pins s) × (kind s (root s) ≡ R)
  unfolding root
  root_is = go (those (λ (p : ℕ). eqb (kind s p) R) (below (pins s))) ok.one-root (λ x h. in-those (λ (p : ℕ). eqb (kind s p) R) x (below (pins s)) h)
    where
      go : (l : List ℕ) → length l ≡ 1 → ((x : ℕ) → In x l → In x (below (pins s)) × (eqb (kind s x) R ≡ true)) → (get_or l 0 0 < pins s) × (kind s (get_or l 0 0) ≡ R)
      go [] n h = absurd (no_way n)
        where
          no_way : ◌≡◌ {A = ℕ} 0 1 → ⊥
          no_way e = omega arith
      go (x ∷ l) n h = let r = h x (inl refl) in (in-below x (pins s) r.0, eqb-true _ _ r.1)

  abbrev Clocked : ℕ → Type 0
  Clocked = Of.Clocked s ok

  pub root-route : (p : ℕ) → p < pins s → Clocked p → In (root s) (route s p)
  root-route =
      climb-ind s ok (λ p. Clocked p → In (root s) (route s p))
      (λ p l e c. top p l e c)
      (λ p a more l k e i r ih c. rw (route-step p a more l i) (one p a l k e ih c))
    where
      top : (p : ℕ) → p < pins s → into s p ≡ [] → Clocked p → In (root s) (route s p)
      top p l e (inl c) = rw (← root-only p l c) (self-route s p)
      top p l e (inr c) = absurd (no_way (sym (ap length e) ∙ ok.one_in p l c))
        where
          no_way : ◌≡◌ {A = ℕ} 0 1 → ⊥
          no_way e = omega arith

      one : (p a : ℕ) → p < pins s → a < arcs s → enters s a ≡ p → (Clocked (leaves s a) → In (root s) (route s (leaves s a))) → Clocked p → In (root s) (p ∷ route s (leaves s a))
      one p a l k e ih (inl c) = inl (sym (root-only p l c))
      one p a l k e ih (inr c) = inr (ih (on (drive-clock (kind s (leaves s a)) (kind s p) (rw e at (ok.drives a k)) c)))
        where
          on : (kind s (leaves s a) ≡ R) ⊎ (kind s (leaves s a) ≡ B) → Clocked (leaves s a)
          on (inl e) = inl e
          on (inr e) = inr (inl e)

  -- ---- the common pin is on both routes
  pub common-on : (p q : ℕ) → p < pins s → q < pins s → Clocked p → Clocked q → In (common s p q) (route s p) × In (common s p q) (route s q)
  unfolding common
  common-on p q l m e f =
      let ps = route s p in
      let qs = route s q in
      let test : ℕ → Bool = λ x. any (eqb x) qs in
      let rp : In (root s) ps = root-route p l e in
      let rq : In (root s) qs = root-route q m f in
      let c : In (get_or (those test ps) 0 0) (those test ps) = first-in (root s) (those test ps) (into-those test (root s) ps rp (here-any (root s) qs rq)) in
      let r = in-those test (get_or (those test ps) 0 0) ps c in
      (r.0, any_here (get_or (those test ps) 0 0) qs r.1)

  abbrev Meeting : ℕ → ℕ → Type 0
  Meeting = Of.Meeting s ok

  pub meeting : (p q : ℕ) → p < pins s → q < pins s → kind s p ≡ K → kind s q ≡ K → Meeting p q
  meeting p q l m e f =
      let r = common-on p q l m (inr (inr e)) (inr (inr f)) in
      record { own = climb-split (common s p q) p l r.0; other = climb-split (common s p q) q m r.1 }
