-- Each step leaves less to go through.
-- Assumes nothing.
use Rattle.std.specs.Prelude.{◌≡◌, refl, List, ◌∷◌, ℕ, suc, ◌+◌, ◌-◌, ◌<◌}
use native.Mathlib.Omega.{arith}
use Rattle.area.specs.Area.{word_at, first_at, from_in}
use Rattle.walker.specs.Rest.{pin_in, place_in, togo, ahead, backwards, size}

togo-more : (f : ℕ → ℕ) (m : List ℕ) (p e : ℕ) → p < e → togo (e - p) f m p ≡ suc (suc (f (from_in (word_at m p)) + togo (e - suc p) f m (suc p)))
unfolding togo
togo-more f m p e h = let z : e - p ≡ suc (e - suc p) = omega arith in rw z refl

module _ (m ts : List ℕ) where
  -- past an arc
  pub size-past : (n v p : ℕ) → p < first_at m (v + 1) → size n m ts v (suc p) < size n m ts v p
  unfolding size
  size-past n v p h = omega (arith, togo-more (ahead n m) m p (first_at m (v + 1)) h)

  -- deeper
  pub size-deeper : (n x v p : ℕ) → p < first_at m (v + 1) → pin_in x ≡ v → place_in x ≡ p
      → size n m (x ∷ ts) (from_in (word_at m p)) (first_at m (from_in (word_at m p))) < size (suc n) m ts v p
  unfolding size backwards ahead
  size-deeper n x v p h i j = rw (i, j) (omega (arith, togo-more (ahead (suc n) m) m p (first_at m (v + 1)) h))

  -- back
  pub size_back : (n x v p : ℕ) → size (suc n) m ts (pin_in x) (suc (place_in x)) < size n m (x ∷ ts) v p
  unfolding size backwards
  size_back n x v p = omega arith
