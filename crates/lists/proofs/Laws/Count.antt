-- Counting with a cap: "the number, or c if it is more". A count that is cut to c after each addition, of parts that were cut to c
-- themselves, ends at the whole number cut to c, so a loop never holds a number above c + c.
-- Assumes nothing.
use Prim.Native.Nat.{ℕ, zero, suc, ◌+◌, ◌≤◌, ◌<◌, min}
use Rattle.std.specs.Prelude.{◌≡◌, Bool, true, length}
use Rattle.std.proofs.Math.Path.{refl}
use Rattle.std.proofs.Common.{◌∙◌, zero-add, length-append}
use mathlib.Core.List.{List, [], ◌∷◌}
use Rattle.std.proofs.Math.Numerals.{add-one}
use native.Mathlib.Omega.{arith}
use Rattle.lists.specs.Choice.{pick}
use Rattle.lists.specs.Parts.{below, capped, sum, those, gather}
use Rattle.lists.proofs.Laws.Cases.{by-test}
use Rattle.lists.proofs.Laws.Join.{gather-those, gather-more}
use Rattle.lists.proofs.Laws.Sum.{sum_more}
use Rattle.lists.specs.Laws.Count.{count, count_to}

-- ---- one addition

-- the sum where it is at most c
pub capped-sum : (c a b : ℕ) → a + b ≤ c → capped c a b ≡ a + b
unfolding capped
capped-sum c a b h = omega arith

-- c where it is more
pub capped-full : (c a b : ℕ) → c ≤ a + b → capped c a b ≡ c
unfolding capped
capped-full c a b h = omega arith

-- never above c
pub capped-most : (c a b : ℕ) → capped c a b ≤ c
unfolding capped
capped-most c a b = omega arith

-- A part that was cut first changes nothing: here the first part was,
pub capped_left : (c a b : ℕ) → capped c (min c a) b ≡ min c (a + b)
unfolding capped
capped_left c a b = omega arith

-- here the second,
pub capped-right : (c a b : ℕ) → capped c a (min c b) ≡ min c (a + b)
unfolding capped
capped-right c a b = omega arith

-- and here both.
pub capped-both : (c a b : ℕ) → capped c (min c a) (min c b) ≡ min c (a + b)
unfolding capped
capped-both c a b = omega arith

-- ---- many additions
module _ {A : Type 0} where
  -- it ends at the whole sum, cut to c once
  pub count-sum : (c : ℕ) (f : A → ℕ) (a : ℕ) (l : List A) → a ≤ c → count c f a l ≡ min c (a + sum f l)
  unfolding count sum capped
  count-sum c f a [] h = omega arith
  count-sum c f a (x ∷ l) h = count-sum c f (min c (a + f x)) l (omega arith) ∙ omega arith

  -- parts that were cut first change nothing of a sum
  pub sum-capped : (c : ℕ) (f : A → ℕ) (l : List A) → min c (sum (λ x. min c (f x)) l) ≡ min c (sum f l)
  unfolding sum
  sum-capped c f [] = refl
  sum-capped c f (x ∷ l) = omega (arith, sum-capped c f l)

module _ {A B : Type 0} where
  -- what is gathered is as long as its parts together
  pub length-gather : (f : A → List B) (l : List A) → length (gather f l) ≡ sum (λ x. length (f x)) l
  unfolding gather sum
  length-gather f [] = refl
  length-gather f (x ∷ l) = simp (length-append, length-gather f l)

  -- a loop that adds the number of each part, cut to c, has the number of the whole, cut to c
  pub count-gather : (c : ℕ) (f : A → List B) (l : List A) → count c (λ x. min c (length (f x))) 0 l ≡ min c (length (gather f l))
  count-gather c f l =
      rw (count-sum c (λ x. min c (length (f x))) 0 l (omega arith), zero-add, sum-capped c (λ x. length (f x)) l, length-gather)

-- before the first turn
pub count_to-none : (c : ℕ) (f : ℕ → ℕ) → count_to c f 0 ≡ 0
unfolding count_to
count_to-none c f = refl

-- a turn
pub count_to-more : (c : ℕ) (f : ℕ → ℕ) (n : ℕ) → count_to c f (n + 1) ≡ capped c (count_to c f n) (f n)
unfolding count_to
count_to-more c f n = rw add-one

-- never above c
pub count_to-most : (c : ℕ) (f : ℕ → ℕ) (n : ℕ) → count_to c f n ≤ c
unfolding count_to
count_to-most c f zero = omega arith
count_to-most c f (suc n) = capped-most c (count_to c f n) (f n)

-- a turn that adds nothing
pub count_to-skip : (c : ℕ) (f : ℕ → ℕ) (n : ℕ) → f n ≡ 0 → count_to c f (n + 1) ≡ count_to c f n
unfolding capped
count_to-skip c f n e = rw (count_to-more, e) (omega (arith, count_to-most c f n))

-- it ends at the whole sum, cut to c once
pub count_to-sum : (c : ℕ) (f : ℕ → ℕ) (n : ℕ) → count_to c f n ≡ min c (sum f (below n))
unfolding count_to sum below
count_to-sum c f zero = omega arith
count_to-sum c f (suc n) = rw (count_to-sum c f n, capped_left, rw add-one at (sum_more f n))

module _ {B : Type 0} (c : ℕ) where
  -- where it adds the number of each part, cut to c, it has the number of the whole, cut to c
  pub count_to-gather : (f : ℕ → ℕ) (g : ℕ → List B) (n : ℕ) → ((y : ℕ) → y < n → f y ≡ min c (length (g y)))
      → count_to c f n ≡ min c (length (gather g (below n)))
  unfolding count_to gather below
  count_to-gather f g zero h = omega arith
  count_to-gather f g (suc n) h =
      rw (count_to-gather f g n (λ y k. h y (omega arith)), h n (omega arith), capped-both, rw add-one at (gather-more g n), length-append)

  -- the same of the numbers that pass a test, where a turn adds nothing for the others
  pub count_to-those : (p : ℕ → Bool) (f : ℕ → ℕ) (g : ℕ → List B) (n : ℕ) → ((y : ℕ) → y < n → p y ≡ true → f y ≡ min c (length (g y)))
      → count_to c (λ y. pick (p y) (f y) 0) n ≡ min c (length (gather g (those p (below n))))
  unfolding pick
  count_to-those p f g n h =
      rw gather-those
      (count_to-gather (λ y. pick (p y) (f y) 0) (λ y. pick (p y) (g y) []) n
      (λ y k. by-test (p y) (λ q. rw q (h y k q)) (λ q. rw q (omega arith))))
