-- Values written one behind another into a lent list: what a run of stores leaves, and the whole that it comes to. A loop that stores
-- has `sets` in its invariant and joins the next run to it (`sets-join`); at the end `sets-front` says that the new stands at the front.
-- Assumes nothing.
use Prim.Native.Nat.{ℕ, ◌+◌}
use Rattle.std.specs.Prelude.{◌≡◌, set, drop}
use mathlib.Core.List.{List, [], ◌∷◌, ◌++◌}
use Rattle.std.proofs.Math.ListN.{length}

module _ {A : Type 0} where
  -- ---- a run of stores
  -- vs at w and behind it, one store after the other
  unfoldable pub sets : List A → ℕ → List A → List A
  sets t w [] = t
  sets t w (v ∷ vs) = sets (set t w v) (w + 1) vs

  -- ---- what has been written so far
  -- p stands at the front of t, in place of what t₀ has there
  pub record Wrote (p t t₀ : List A) (w : ℕ) : Type 0 where
    pub is : t ≡ p ++ drop w t₀
    pub so-long : w ≡ length p
