-- Paths by the sentence of 01 alone, and the walks of `timing`, of which no arc but the last leaves a start: in a sound structure they are the same. A K and
-- an I are not entered by what carries data, so a run that goes on behind one never comes to a start.
-- Assumes nothing.
use Rattle.std.specs.Prelude.{◌≡◌, refl, ◌⊎◌, ◌≢◌, ◌↔◌, true, false, List, [], ◌∷◌, ℕ, ◌<◌, eqb}
use Rattle.std.proofs.Math.Logic.{inl, inr}
use Rattle.std.proofs.Common.{arith, eqb-true}
use Rattle.lists.proofs.Laws.Cases.{by-test}
use Rattle.lists.specs.Laws.Member.{In}
use Rattle.timing.specs.Kinds.{R, B, K, I, D, may_drive}
use Rattle.timing.specs.Structure.{Structure, arcs, kind, leaves, enters, data_pin}
use Rattle.timing.specs.Paths.{is_start, Path, paths}
use Rattle.timing.proofs.Laws.Kinds.{drive-cases}
use Rattle.timing.specs.Laws.Sound.{Sound}
use Rattle.timing.specs.Laws.Walked.{Walk}
use Rattle.timing.proofs.Laws.Listed.{exactly-paths}
use Rattle.demands.specs.Definitions.{Runs, IsPath}

-- what drives a D starts a path or is a D; what drives anything else is an R or a B
drive-data : (f k : ℕ) → may_drive f k ≡ true → k ≡ D → (f ≡ K) ⊎ ((f ≡ I) ⊎ (f ≡ D))
drive-data =
    drive-cases (λ f k. k ≡ D → (f ≡ K) ⊎ ((f ≡ I) ⊎ (f ≡ D))) (λ e. absurd (omega arith)) (λ e. absurd (omega arith)) (λ e. absurd (omega arith))
    (λ e. absurd (omega arith)) (λ e. inl refl) (λ e. inr (inl refl)) (λ e. inr (inr refl))

drive-other : (f k : ℕ) → may_drive f k ≡ true → k ≢ D → (f ≡ R) ⊎ (f ≡ B)
drive-other =
    drive-cases (λ f k. k ≢ D → (f ≡ R) ⊎ (f ≡ B)) (λ n. inl refl) (λ n. inl refl) (λ n. inr refl) (λ n. inr refl)
    (λ n. absurd (n refl)) (λ n. absurd (n refl)) (λ n. absurd (n refl))

module _ (s : Structure) where
  -- a start, as a test and as a sentence
  start_is : (p : ℕ) → is_start s p ≡ true → (kind s p ≡ K) ⊎ (kind s p ≡ I)
  unfolding is_start
  start_is p h = by-test (eqb (kind s p) K) (λ q. inl (eqb-true _ _ q)) (λ q. inr (eqb-true _ _ (rw q at h)))

  is-start : (p : ℕ) → (kind s p ≡ K) ⊎ (kind s p ≡ I) → is_start s p ≡ true
  unfolding is_start
  is-start p (inl e) = rw e
  is-start p (inr e) = rw e

  not_start : (p : ℕ) → kind s p ≡ D → is_start s p ≡ false
  unfolding is_start
  not_start p e = rw e

  walk-runs : (v : ℕ) (w : List ℕ) → Walk s v w → Runs s v w
  walk-runs v [] h = absurd h
  walk-runs v (a ∷ []) h = (h.0, h.1, start_is (leaves s a) h.2)
  walk-runs v (a ∷ b ∷ w) h = (h.0, h.1, walk-runs (leaves s a) (b ∷ w) h.3)

  module _ (ok : Sound s) where
    drives : (v a : ℕ) → a < arcs s → enters s a ≡ v → may_drive (kind s (leaves s a)) (kind s v) ≡ true
    drives v a l e = rw e at (ok.drives a l)

    clock-start : (p : ℕ) → (kind s p ≡ R) ⊎ (kind s p ≡ B) → (kind s p ≡ K) ⊎ (kind s p ≡ I) → ⊥
    clock-start p (inl e) (inl f) = omega arith
    clock-start p (inl e) (inr f) = omega arith
    clock-start p (inr e) (inl f) = omega arith
    clock-start p (inr e) (inr f) = omega arith

    clock-data : (p : ℕ) → (kind s p ≡ R) ⊎ (kind s p ≡ B) → kind s p ≢ D
    clock-data p (inl e) f = omega arith
    clock-data p (inr e) f = omega arith

    -- no run ends at a pin that is no D
    pub no_run : (v : ℕ) (w : List ℕ) → kind s v ≢ D → Runs s v w → ⊥
    no_run v [] n h = h
    no_run v (a ∷ []) n h = clock-start (leaves s a) (drive-other _ _ (drives v a h.0 h.1) n) h.2
    no_run v (a ∷ b ∷ w) n h =
        no_run (leaves s a) (b ∷ w) (clock-data (leaves s a) (drive-other _ _ (drives v a h.0 h.1) n)) h.2

    runs-walk : (v : ℕ) (w : List ℕ) → kind s v ≡ D → Runs s v w → Walk s v w
    runs-walk v [] k h = absurd h
    runs-walk v (a ∷ []) k h = (h.0, h.1, is-start (leaves s a) h.2)
    runs-walk v (a ∷ b ∷ w) k h = go (λ e. runs-walk (leaves s a) (b ∷ w) e h.2) (drive-data _ _ (drives v a h.0 h.1) k)
      where
        not-D : (q : ℕ) → kind s (leaves s a) ≡ q → q ≢ D → Walk s v (a ∷ b ∷ w)
        not-D q e n = absurd (no_run (leaves s a) (b ∷ w) (rw e n) h.2)

        go : (kind s (leaves s a) ≡ D → Walk s (leaves s a) (b ∷ w))
            → (kind s (leaves s a) ≡ K) ⊎ ((kind s (leaves s a) ≡ I) ⊎ (kind s (leaves s a) ≡ D)) → Walk s v (a ∷ b ∷ w)
        go f (inl e) = not-D K e (λ z. omega arith)
        go f (inr (inl e)) = not-D I e (λ z. omega arith)
        go f (inr (inr e)) = (h.0, h.1, not_start (leaves s a) e, f e)

    -- `paths` lists exactly the paths
    pub in_all : (p : Path) → In p (paths s) ↔ IsPath s p
    in_all p = (
      λ i. let h = (exactly-paths s ok p).0 i in (h.0, walk-runs (data_pin s p.test) p.walk h.1),
      λ h. (exactly-paths s ok p).1 (h.0, runs-walk (data_pin s p.test) p.walk (ok.data-kind p.test h.0) h.1),
    )
