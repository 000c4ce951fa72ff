-- Counting with a cap: "the number, or c if it is more". A count that is cut to c after each addition, of parts that were cut to c
-- themselves, ends at the whole number cut to c, so a loop never holds a number above c + c.
-- Assumes nothing.
use Prim.Native.Nat.{ℕ, zero, suc}
use mathlib.Core.List.{List, [], ◌∷◌}
use Rattle.lists.specs.Parts.{capped}

-- ---- many additions
module _ {A : Type 0} where
  -- a, and then f of each of a list, one after the other, cut to c each time
  unfoldable pub count : ℕ → (A → ℕ) → ℕ → List A → ℕ
  count c f a [] = a
  count c f a (x ∷ l) = count c f (capped c a (f x)) l

-- ---- many additions, counting upwards: the fold of a loop over the numbers below n

-- f of each number below n, one after the other, cut to c each time
unfoldable pub count_to : ℕ → (ℕ → ℕ) → ℕ → ℕ
count_to c f zero = 0
count_to c f (suc n) = capped c (count_to c f n) (f n)
