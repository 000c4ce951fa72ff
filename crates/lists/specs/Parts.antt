-- Lists, and what is made of them: the numbers below n, those that pass a test, sums, the parts of a text, what a write leaves.
-- The definitions of the other crates are written with these. Each computes, so that a closed example holds by `refl`
-- (`Laws.Examples`).
-- Assumes nothing.
use Rattle.std.specs.Prelude.{ℕ, zero, suc, ◌+◌, min, Bool, true, false, List, [], ◌∷◌, ◌++◌, eqb, length, drop}
use Rattle.lists.specs.Choice.{pick}

-- the numbers below n, ascending
unfoldable pub below : ℕ → List ℕ
below zero = []
below (suc n) = below n ++ (n ∷ [])

-- the sum of a and b, or c if that is more
unfoldable pub capped : ℕ → ℕ → ℕ → ℕ
capped c a b = min c (a + b)

module _ {A : Type 0} where
  -- what f gives of each, added up
  unfoldable pub sum : (A → ℕ) → List A → ℕ
  sum f [] = 0
  sum f (x ∷ xs) = f x + sum f xs

  -- those that pass the test, in order
  unfoldable pub those : (A → Bool) → List A → List A
  those p [] = []
  those p (x ∷ xs) = pick (p x) (x ∷ those p xs) (those p xs)

  -- the last, or d if there is none
  unfoldable pub last : A → List A → A
  last d [] = d
  last d (x ∷ xs) = last x xs

  -- one of them passes the test
  unfoldable pub any : (A → Bool) → List A → Bool
  any p [] = false
  any p (x ∷ xs) = pick (p x) true (any p xs)

  -- every one of them passes the test
  unfoldable pub every : (A → Bool) → List A → Bool
  every p [] = true
  every p (x ∷ xs) = pick (p x) (every p xs) false

  -- the new at the front; places beyond stay
  unfoldable pub written : List A → List A → List A
  written new old = new ++ drop (length new) old

module _ {A : Type 0} {B : Type 0} where
  -- what f gives of each, in order
  unfoldable pub each : (A → B) → List A → List B
  each f [] = []
  each f (x ∷ xs) = f x ∷ each f xs

  -- what f gives of each, one behind the other
  unfoldable pub gather : (A → List B) → List A → List B
  gather f [] = []
  gather f (x ∷ xs) = f x ++ gather f xs

-- x in front of the first part
unfoldable pub onto : ℕ → List (List ℕ) → List (List ℕ)
onto x [] = (x ∷ []) ∷ []
onto x (p ∷ ps) = (x ∷ p) ∷ ps

-- the parts between the bytes b, which stand in none of them; one part more than there are such bytes
unfoldable pub split : ℕ → List ℕ → List (List ℕ)
split b [] = [] ∷ []
split b (x ∷ xs) = pick (eqb x b) ([] ∷ split b xs) (onto x (split b xs))

-- the two have the same bytes
unfoldable pub same : List ℕ → List ℕ → Bool
same [] [] = true
same [] (y ∷ ys) = false
same (x ∷ xs) [] = false
same (x ∷ xs) (y ∷ ys) = pick (eqb x y) (same xs ys) false
