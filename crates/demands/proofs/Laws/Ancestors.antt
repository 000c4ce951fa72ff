-- Ancestors and the lowest common one by their sentences, and those that `timing` computes from routes: the same for clock pins.
-- Assumes nothing.
use Rattle.std.specs.Prelude.{◌≡◌, ◌⊎◌, [], ◌∷◌, ℕ, ◌<◌}
use Rattle.std.proofs.Common.{sym, inl, inr, arith}
use Rattle.lists.specs.Laws.Member.{In}
use Rattle.timing.specs.Kinds.{R, B, K}
use Rattle.timing.specs.Structure.{Structure, pins, arcs, kind, leaves, enters}
use Rattle.timing.specs.Clock.{into, route, common}
use Rattle.timing.proofs.Laws.Kinds.{drive-clock, drive-root}
use Rattle.timing.specs.Laws.Sound.{Sound}
use Rattle.timing.proofs.Laws.Routes.{climb-ind, route-top, route-step, self-route, common-on}
use Rattle.timing.specs.Laws.Routes.{Clocked}
use Rattle.timing.proofs.Laws.Common.{only-in, lowest-common}
use Rattle.demands.specs.Definitions.{Ancestor, itself, over, Lowest}

module _ (s : Structure) (ok : Sound s) where
  -- what an arc into a clock pin leaves
  pub into-clocked : (v a : ℕ) → a < arcs s → enters s a ≡ v → Clocked s ok v → ((kind s v ≡ B) ⊎ (kind s v ≡ K)) × Clocked s ok (leaves s a)
  into-clocked v a l e (inl c) = absurd (drive-root (kind s (leaves s a)) (kind s v) (rw e at (ok.drives a l)) c)
  into-clocked v a l e (inr c) = (c, on (drive-clock (kind s (leaves s a)) (kind s v) (rw e at (ok.drives a l)) c))
    where
      on : (kind s (leaves s a) ≡ R) ⊎ (kind s (leaves s a) ≡ B) → Clocked s ok (leaves s a)
      on (inl z) = inl z
      on (inr z) = inr (inl z)

  -- what is on a pin's route is an ancestor
  pub route-ancestor : (u v : ℕ) → v < pins s → In u (route s v) → Ancestor s u v
  route-ancestor u =
      climb-ind s ok (λ v. In u (route s v) → Ancestor s u v) (λ v l e h. top v (rw (route-top s ok v e) at h))
      (λ v a more l b e i r ih h. step v a b e ih (rw (route-step s ok v a more l i) at h))
    where
      top : (v : ℕ) → In u (v ∷ []) → Ancestor s u v
      top v (inl e) = itself e
      top v (inr h) = absurd h

      step : (v a : ℕ) → a < arcs s → enters s a ≡ v → (In u (route s (leaves s a)) → Ancestor s u (leaves s a)) → In u (v ∷ route s (leaves s a))
          → Ancestor s u v
      step v a b e ih (inl q) = itself q
      step v a b e ih (inr h) = over a b e (ih h)

  -- an ancestor of a clock pin is on its route
  pub ancestor-route : (u : ℕ) {v : ℕ} → v < pins s → Clocked s ok v → Ancestor s u v → In u (route s v)
  ancestor-route u {v} l c (itself e) = rw e (self-route s v)
  ancestor-route u {v} l c (over a b e h) =
      let k = into-clocked v a b e c in
      let one : into s v ≡ a ∷ [] = rw e at (only-in s ok a b (rw e k.0)) in
      rw (route-step s ok v a [] l one) (inr (ancestor-route u (ok.from_in a b) k.1 h))

  -- it is a pin, and a clock pin
  pub ancestor-in : (u : ℕ) {v : ℕ} → v < pins s → Ancestor s u v → u < pins s
  ancestor-in u l (itself e) = rw e l
  ancestor-in u l (over a b e h) = ancestor-in u (ok.from_in a b) h

  pub ancestor-clocked : (u : ℕ) {v : ℕ} → Clocked s ok v → Ancestor s u v → Clocked s ok u
  ancestor-clocked u c (itself e) = rw e c
  ancestor-clocked u {v} c (over a b e h) = ancestor-clocked u (into-clocked v a b e c).1 h

  -- an ancestor is the pin itself or of a lower level
  ancestor-level : (u : ℕ) {v : ℕ} → Ancestor s u v → (u ≡ v) ⊎ (ok.level u < ok.level v)
  ancestor-level u (itself e) = inl e
  ancestor-level u {v} (over a b e h) = inr (go (ancestor-level u h))
    where
      go : (u ≡ leaves s a) ⊎ (ok.level u < ok.level (leaves s a)) → ok.level u < ok.level v
      go (inl q) = rw (q, ← e) (ok.rises a b)
      go (inr q) = rw (← e) (omega (arith, ok.rises a b))

  one-ancestor : (u v : ℕ) → Ancestor s u v → Ancestor s v u → u ≡ v
  one-ancestor u v h k = go (ancestor-level u h) (ancestor-level v k)
    where
      go : (u ≡ v) ⊎ (ok.level u < ok.level v) → (v ≡ u) ⊎ (ok.level v < ok.level u) → u ≡ v
      go (inl e) q = e
      go (inr l) (inl e) = sym e
      go (inr l) (inr m) = absurd (omega arith)

  module _ (u v : ℕ) (l : u < pins s) (m : v < pins s) (cu : Clocked s ok u) (cv : Clocked s ok v) where
    -- the common pin is the lowest common ancestor
    pub common-lowest : Lowest s u v (common s u v)
    common-lowest =
        let on = common-on s ok u v l m cu cv in
        let inside : common s u v < pins s = ancestor-in (common s u v) l (route-ancestor (common s u v) u l on.0) in
        record {
          of-first = route-ancestor (common s u v) u l on.0;
          of-second = route-ancestor (common s u v) v m on.1;
          below_all = λ y h k. route-ancestor y (common s u v) inside (lowest-common s ok y u v l (ancestor-route y l cu h) (ancestor-route y m cv k));
        }

    -- and no other pin is
    pub lowest-is : (c : ℕ) → Lowest s u v c → c ≡ common s u v
    lowest-is c h =
        let w = common-lowest in
        one-ancestor c (common s u v) (w.below_all c h.of-first h.of-second) (h.below_all (common s u v) w.of-first w.of-second)
