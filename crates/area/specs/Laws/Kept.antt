-- What a write to one part of the work area leaves of the others.
-- Assumes nothing.
use Rattle.std.specs.Prelude.{◌≡◌, refl, List, ℕ, ◌+◌, ◌≤◌, ◌<◌, min, set, take, drop}
use Rattle.std.proofs.Common.{sym, ap, ◌∙◌, arith, length-set, length-take, length-drop, get_or-set_other, get_or-take, get_or-drop, ext_get_or}
use Rattle.area.specs.Area.{Kept}

-- nothing written
pub kept-none : (a e : ℕ) (w : List ℕ) → Kept a e w w
kept-none a e w = record { long = refl; front = λ i h. refl; back = λ i h. refl }

-- one more place written within the part
pub kept_set : (a e : ℕ) (w v : List ℕ) (i x : ℕ) → Kept a e w v → a ≤ i → i < e → Kept a e w (set v i x)
kept_set a e w v i x k h l =
    record {
      long = length-set v i x ∙ k.long;
      front = λ j g. get_or-set_other v i j x 0 (λ q. omega arith) ∙ k.front j g;
      back = λ j g. get_or-set_other v i j x 0 (λ q. omega arith) ∙ k.back j g;
    }

-- a part within a wider one
pub kept-wider : (a e b f : ℕ) (w v : List ℕ) → Kept b f w v → a ≤ b → f ≤ e → Kept a e w v
kept-wider a e b f w v k h g = record { long = k.long; front = λ i m. k.front i (omega arith); back = λ i m. k.back i (omega arith) }

-- one write after another, each within the part
pub kept-join : (a e b f : ℕ) (u v w : List ℕ) → Kept a e u v → Kept b f v w → a ≤ b → f ≤ e → Kept a e u w
kept-join a e b f u v w k l h g =
    record {
      long = l.long ∙ k.long;
      front = λ i m. l.front i (omega arith) ∙ k.front i m;
      back = λ i m. l.back i (omega arith) ∙ k.back i m;
    }

module _ (a e : ℕ) (w v : List ℕ) (k : Kept a e w v) where
  -- what stands before the part
  pub kept-take : (n : ℕ) → n ≤ a → take n v ≡ take n w
  kept-take n h =
      ext_get_or 0 (take n v) (take n w) (length-take n v ∙ ap (λ (m : ℕ). min n m) k.long ∙ sym (length-take n w))
      (λ i l.
      let g : i < n = omega (arith, rw length-take at l) in
      get_or-take n v i 0 g ∙ k.front i (omega arith) ∙ sym (get_or-take n w i 0 g))

  -- what stands behind it
  pub kept-drop : (n : ℕ) → e ≤ n → drop n v ≡ drop n w
  kept-drop n h =
      ext_get_or 0 (drop n v) (drop n w) (simp length-drop (omega (arith, k.long)))
      (λ i l. get_or-drop n v i 0 ∙ k.back (n + i) (omega arith) ∙ sym (get_or-drop n w i 0))
