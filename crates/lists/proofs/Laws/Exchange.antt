-- Two items of a list change places: it is a rearrangement, and what stands before both stays.
-- Assumes nothing.
use Rattle.std.specs.Prelude.{◌≡◌, refl, List, [], ◌∷◌, ℕ, zero, suc, ◌≤◌, ◌<◌, length, get_or, set, take}
use Rattle.std.proofs.Common.{ap, ◌∙◌, arith, length-take, length-set, get_or-take}
use Rattle.std.proofs.Math.Seq.{take-set-lt}
use Rattle.lists.specs.Laws.Ranking.{Perm, keep, swap, then}
use Rattle.lists.proofs.Laws.Ranking.{perm_same}
use Rattle.lists.specs.Laws.Exchange as Of

module _ {A : Type 0} (d : A) where
  abbrev exchanged : List A → ℕ → ℕ → List A
  exchanged = Of.exchanged d

  pub length_exchanged : (l : List A) (i m : ℕ) → length (exchanged l i m) ≡ length l
  length_exchanged l i m = length-set (set l m (get_or l i d)) i (get_or l m d) ∙ length-set l m (get_or l i d)

  -- x takes the place of an item, which goes to the front
  perm-replaced : (x : A) (l : List A) (m : ℕ) → m < length l → Perm (get_or l m d ∷ set l m x) (x ∷ l)
  perm-replaced x [] m h = absurd (omega arith)
  perm-replaced x (y ∷ l) zero h = swap
  perm-replaced x (y ∷ l) (suc m) h = then swap (then (keep (perm-replaced x l m (omega arith))) swap)

  pub perm-exchanged : (l : List A) (i m : ℕ) → i ≤ m → m < length l → Perm (exchanged l i m) l
  perm-exchanged [] i m h k = absurd (omega arith)
  perm-exchanged (x ∷ l) zero zero h k = perm_same (x ∷ l)
  perm-exchanged (x ∷ l) zero (suc m) h k = perm-replaced x l m (omega arith)
  perm-exchanged (x ∷ l) (suc i) zero h k = absurd (omega arith)
  perm-exchanged (x ∷ l) (suc i) (suc m) h k = keep (perm-exchanged l i m (omega arith) (omega arith))

  -- what stands before both stays
  pub exchanged-front : (l : List A) (i m : ℕ) → i ≤ m → take i (exchanged l i m) ≡ take i l
  exchanged-front [] i m h = refl
  exchanged-front (x ∷ l) zero m h = refl
  exchanged-front (x ∷ l) (suc i) zero h = absurd (omega arith)
  exchanged-front (x ∷ l) (suc i) (suc m) h = ap (λ (r : List A). x ∷ r) (exchanged-front l i m (omega arith))

  exchanged-among : (l : List A) (n i m : ℕ) → i < n → m < n → take n (exchanged l i m) ≡ exchanged (take n l) i m
  exchanged-among l n i m h k =
      rw (take-set-lt n (set l m (get_or l i d)) i (get_or l m d) h, take-set-lt n l m (get_or l i d) k, get_or-take n l i d h, get_or-take n l m d k) refl

  -- of the first n items only the order is new
  pub perm-among : (l : List A) (n i m : ℕ) → i ≤ m → m < n → n ≤ length l → Perm (take n (exchanged l i m)) (take n l)
  perm-among l n i m h k z = rw (exchanged-among l n i m (omega arith) k) (perm-exchanged (take n l) i m h (omega (arith, length-take n l)))
