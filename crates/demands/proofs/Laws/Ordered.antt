-- The order of rows is a strict total order on paths. Of two walks back from one pin neither is the beginning of the other, since a K or an I is not entered
-- by what carries data: so they differ somewhere, or are one.
-- Assumes nothing.
use Rattle.std.specs.Prelude.{◌≡◌, refl, ◌⊎◌, ◌≢◌, List, [], ◌∷◌, ℕ, ◌<◌, ℤ, ◌<ℤ◌}
use Rattle.std.proofs.Common.{sym, ap₂, ◌∙◌, inl, inr, arith}
use Rattle.std.proofs.Math.Decide.{dec_lt}
use Rattle.std.specs.Int.Signed.{lt_z, <ℤ_irrefl}
use Rattle.lists.proofs.Laws.Cases.{by-test}
use Rattle.lists.proofs.Laws.Integer.{less-within, not-less-within, within-less, less-at, both-within}
use Rattle.timing.specs.Kinds.{K, I, D}
use Rattle.timing.specs.Structure.{Structure, kind, leaves, data_pin}
use Rattle.timing.specs.Paths.{Path}
use Rattle.timing.specs.Laws.Sound.{Sound}
use Rattle.demands.specs.Definitions.{Runs, IsPath, Before, Ahead, StrictTotal}
use Rattle.demands.proofs.Laws.Runs.{no_run}

-- one of three
abbrev Either : {A : Type 0} → (A → A → Type 0) → A → A → Type 0
Either {A} R x y = R x y ⊎ ((x ≡ y) ⊎ R y x)

either_number : (a b : ℕ) → Either ◌<◌ a b
either_number a b = elim (dec_lt a b) [
  | yes l ↦ inl l
  | no l ↦ elim (dec_lt b a) [ yes m ↦ inr (inr m) | no m ↦ inr (inl (omega arith)) ]
]

either-slack : (x y : ℤ) → Either ◌<ℤ◌ x y
either-slack x y =
    by-test (lt_z x y) (λ e. inl (within-less x y (less-within x y e)))
    (λ e.
    by-test (lt_z y x) (λ f. inr (inr (within-less y x (less-within y x f))))
    (λ f. inr (inl (both-within x y (not-less-within y x f) (not-less-within x y e)))))

-- ---- walks
before-not : (l : List ℕ) → Before l l → ⊥
before-not [] h = h
before-not (a ∷ l) (inl h) = omega arith
before-not (a ∷ l) (inr h) = before-not l h.1

before-through : (l m n : List ℕ) → Before l m → Before m n → Before l n
before-through [] m n h k = absurd h
before-through (a ∷ l) [] n h k = absurd h
before-through (a ∷ l) (b ∷ m) [] h k = absurd k
before-through (a ∷ l) (b ∷ m) (c ∷ n) (inl h) (inl k) = inl (omega arith)
before-through (a ∷ l) (b ∷ m) (c ∷ n) (inl h) (inr k) = inl (omega (arith, k.0))
before-through (a ∷ l) (b ∷ m) (c ∷ n) (inr h) (inl k) = inl (omega (arith, h.0))
before-through (a ∷ l) (b ∷ m) (c ∷ n) (inr h) (inr k) = inr (h.0 ∙ k.0, before-through l m n h.1 k.1)

-- the first arcs decide, or the rest where they are one
by_first : (a b : ℕ) (l m : List ℕ) → (a ≡ b → Either Before l m) → Either Before (a ∷ l) (b ∷ m)
by_first a b l m f = go (either_number a b)
  where
    rest : a ≡ b → Either Before l m → Either Before (a ∷ l) (b ∷ m)
    rest e (inl h) = inl (inr (e, h))
    rest e (inr (inl h)) = inr (inl (ap₂ (λ (x : ℕ) (y : List ℕ). x ∷ y) e h))
    rest e (inr (inr h)) = inr (inr (inr (sym e, h)))

    go : Either ◌<◌ a b → Either Before (a ∷ l) (b ∷ m)
    go (inl h) = inl (inl h)
    go (inr (inl e)) = rest e (f e)
    go (inr (inr h)) = inr (inr (inl h))

module _ (s : Structure) (ok : Sound s) where
  start-data : (p : ℕ) → (kind s p ≡ K) ⊎ (kind s p ≡ I) → kind s p ≢ D
  start-data p (inl e) f = omega arith
  start-data p (inr e) f = omega arith

  -- a walk that ends at arc a, and one that goes on behind it
  not_on {ℓ} : {X : Type ℓ} (a b c : ℕ) (w : List ℕ) → (kind s (leaves s a) ≡ K) ⊎ (kind s (leaves s a) ≡ I) → Runs s (leaves s b) (c ∷ w) → a ≡ b → X
  not_on a b c w k h e = absurd (no_run s ok (leaves s b) (c ∷ w) (rw e at (start-data (leaves s a) k)) h)

  walks-either : (v : ℕ) (l m : List ℕ) → Runs s v l → Runs s v m → Either Before l m
  walks-either v [] m h k = absurd h
  walks-either v (a ∷ l) [] h k = absurd k
  walks-either v (a ∷ []) (b ∷ []) h k = by_first a b [] [] (λ e. inr (inl refl))
  walks-either v (a ∷ []) (b ∷ c ∷ m) h k = by_first a b [] (c ∷ m) (λ e. not_on a b c m h.2 k.2 e)
  walks-either v (a ∷ c ∷ l) (b ∷ []) h k = by_first a b (c ∷ l) [] (λ e. not_on b a c l k.2 h.2 (sym e))
  walks-either v (a ∷ c ∷ l) (b ∷ d ∷ m) h k = by_first a b (c ∷ l) (d ∷ m) (λ e. walks-either (leaves s a) (c ∷ l) (d ∷ m) h.2 (rw e k.2))

  -- ---- paths
  -- by test, then by walk
  abbrev Tie : Path → Path → Type 0
  Tie p q = (p.test < q.test) ⊎ ((p.test ≡ q.test) × Before p.walk q.walk)

  tie-through : (p q r : Path) → Tie p q → Tie q r → Tie p r
  tie-through p q r (inl h) (inl k) = inl (omega arith)
  tie-through p q r (inl h) (inr k) = inl (omega (arith, k.0))
  tie-through p q r (inr h) (inl k) = inl (omega (arith, h.0))
  tie-through p q r (inr h) (inr k) = inr (h.0 ∙ k.0, before-through p.walk q.walk r.walk h.1 k.1)

  ties-either : (p q : Path) → IsPath s p → IsPath s q → Either Tie p q
  ties-either p q h k = go (either_number p.test q.test)
    where
      rest : p.test ≡ q.test → Either Before p.walk q.walk → Either Tie p q
      rest e (inl z) = inl (inr (e, z))
      rest e (inr (inl z)) = inr (inl (λ i. record { test = e i; walk = z i }))
      rest e (inr (inr z)) = inr (inr (inr (sym e, z)))

      go : Either ◌<◌ p.test q.test → Either Tie p q
      go (inl z) = inl (inl z)
      go (inr (inl e)) = rest e (walks-either (data_pin s p.test) p.walk q.walk h.1 (rw e k.1))
      go (inr (inr z)) = inr (inr (inl z))

  module _ (slack_of : Path → ℤ) where
    ahead-not : (p : Path) → Ahead slack_of p p → ⊥
    ahead-not p (inl h) = <ℤ_irrefl h
    ahead-not p (inr (e, inl h)) = omega arith
    ahead-not p (inr (e, inr h)) = before-not p.walk h.1

    ahead-through : (p q r : Path) → Ahead slack_of p q → Ahead slack_of q r → Ahead slack_of p r
    ahead-through p q r (inl h) (inl k) =
        inl (within-less (slack_of p) (slack_of r) (omega (arith, less-at (slack_of p) (slack_of q) h, less-at (slack_of q) (slack_of r) k)))
    ahead-through p q r (inl h) (inr k) = inl (rw k.0 at h)
    ahead-through p q r (inr h) (inl k) = inl (rw h.0 k)
    ahead-through p q r (inr h) (inr k) = inr (h.0 ∙ k.0, tie-through p q r h.1 k.1)

    ahead-either : (p q : Path) → IsPath s p → IsPath s q → Either (Ahead slack_of) p q
    ahead-either p q h k = go (either-slack (slack_of p) (slack_of q))
      where
        rest : slack_of p ≡ slack_of q → Either Tie p q → Either (Ahead slack_of) p q
        rest e (inl z) = inl (inr (e, z))
        rest e (inr (inl z)) = inr (inl z)
        rest e (inr (inr z)) = inr (inr (inr (sym e, z)))

        go : Either ◌<ℤ◌ (slack_of p) (slack_of q) → Either (Ahead slack_of) p q
        go (inl z) = inl (inl z)
        go (inr (inl e)) = rest e (ties-either p q h k)
        go (inr (inr z)) = inr (inr (inl z))

    pub strict-total : StrictTotal s slack_of
    strict-total = record { not_itself = ahead-not; through = ahead-through; one_way = ahead-either }

    pub ahead-asym : (p q : Path) → Ahead slack_of p q → Ahead slack_of q p → ⊥
    ahead-asym p q h k = ahead-not p (ahead-through p q p h k)
