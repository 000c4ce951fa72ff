-- Lists made part by part: `gather`, `each` and `those` of two lists joined, and of one number more, which is a turn of a loop that
-- counts upwards. `each` and `those` are a `gather`, so both laws are proved once, for `gather`.
-- Assumes nothing.
use Rattle.std.specs.Prelude.{◌≡◌, Bool, ℕ, ◌+◌}
use Rattle.std.proofs.Math.Path.{refl, ap}
use Rattle.std.proofs.Common.{sym, ◌∙◌}
use mathlib.Core.List.{List, [], ◌∷◌, ◌++◌, append_assoc, append-nil}
use Rattle.std.proofs.Math.Numerals.{add-one}
use Rattle.lists.specs.Choice.{pick}
use Rattle.lists.specs.Parts.{below, those, last, each, gather}
use Rattle.lists.proofs.Laws.Cases.{by-test}

-- ---- all are a `gather`

module _ {A B : Type 0} where
  -- `each` gathers lists of one
  pub each-gather : (f : A → B) (l : List A) → each f l ≡ gather (λ x. f x ∷ []) l
  unfolding each gather
  each-gather f [] = refl
  each-gather f (x ∷ l) = ap (λ (m : List B). f x ∷ m) (each-gather f l)

  -- of those that pass a test what f gives, of the others nothing
  pub gather-those : (p : A → Bool) (f : A → List B) (l : List A) → gather f (those p l) ≡ gather (λ x. pick (p x) (f x) []) l
  unfolding gather those pick
  gather-those p f [] = refl
  gather-those p f (x ∷ l) =
      by-test (p x) (λ q. rw q (ap (λ (m : List B). f x ++ m) (gather-those p f l))) (λ q. rw q (gather-those p f l))

module _ {A : Type 0} where
  gather-self : (l : List A) → gather (λ x. x ∷ []) l ≡ l
  unfolding gather
  gather-self [] = refl
  gather-self (x ∷ l) = ap (λ (m : List A). x ∷ m) (gather-self l)

  -- `those` gathers lists of one and of none
  pub those-gather : (p : A → Bool) (l : List A) → those p l ≡ gather (λ x. pick (p x) (x ∷ []) []) l
  those-gather p l = sym (gather-self (those p l)) ∙ gather-those p (λ x. x ∷ []) l

-- ---- two lists joined

-- the last of a list and one more is the one more
pub last-join : {A : Type 0} (d : A) (xs : List A) (x : A) → last d (xs ++ (x ∷ [])) ≡ x
unfolding last
last-join d [] x = refl
last-join d (y ∷ xs) x = last-join y xs x

module _ {A B : Type 0} where
  -- what is gathered of two lists, one behind the other
  pub gather-join : (f : A → List B) (xs ys : List A) → gather f (xs ++ ys) ≡ gather f xs ++ gather f ys
  unfolding gather
  gather-join f [] ys = refl
  gather-join f (x ∷ xs) ys = rw (gather-join f xs ys, append_assoc)

  -- each of two lists, one behind the other
  pub each-join : (f : A → B) (xs ys : List A) → each f (xs ++ ys) ≡ each f xs ++ each f ys
  each-join f xs ys = simp each-gather (gather-join (λ x. f x ∷ []) xs ys)

-- those of two lists, one behind the other
pub those-join : {A : Type 0} (p : A → Bool) (xs ys : List A) → those p (xs ++ ys) ≡ those p xs ++ those p ys
those-join p xs ys = simp those-gather (gather-join (λ x. pick (p x) (x ∷ []) []) xs ys)

-- ---- one number more
module _ {B : Type 0} where
  -- what f gives of n comes last
  pub gather-more : (f : ℕ → List B) (n : ℕ) → gather f (below (n + 1)) ≡ gather f (below n) ++ f n
  unfolding gather below
  gather-more f n = rw add-one (gather-join f (below n) (n ∷ []) ∙ ap (λ (m : List B). gather f (below n) ++ m) (append-nil (f n)))

  -- what f gives of n comes last
  pub each_more : (f : ℕ → B) (n : ℕ) → each f (below (n + 1)) ≡ each f (below n) ++ (f n ∷ [])
  each_more f n = simp each-gather (gather-more (λ x. f x ∷ []) n)

-- n comes last where it passes
pub those-more : (p : ℕ → Bool) (n : ℕ) → those p (below (n + 1)) ≡ those p (below n) ++ pick (p n) (n ∷ []) []
those-more p n = simp those-gather (gather-more (λ x. pick (p x) (x ∷ []) []) n)
