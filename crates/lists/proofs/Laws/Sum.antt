-- Sums: over lists joined, compared member by member, and over distinct numbers below n, which come to no more than the sum over
-- all numbers below n. The last bounds a sum along a way that passes no number twice, whatever the way.
-- Assumes nothing.
use Rattle.std.specs.Prelude.{◌≡◌, ◌≢◌, not, ℕ, zero, suc, ◌+◌, ◌-◌, ◌*◌, ◌≤◌, ◌<◌, length, eqb}
use Rattle.std.proofs.Math.Path.{refl}
use Rattle.std.proofs.Common.{sym, ap, inl, inr, not-suc-le-zero, add-one, eq-eqb, ne_eqb}
use mathlib.Core.List.{List, [], ◌∷◌, ◌++◌}
use native.Mathlib.Omega.{arith}
use Rattle.std.proofs.Math.Decide.{ℕ_discrete}
use Rattle.std.proofs.lemmas.Bool.{eqb-false, not-true}
use Rattle.lists.specs.Choice.{pick}
use Rattle.lists.specs.Parts.{below, sum, those}
use Rattle.lists.specs.Laws.Member.{In, All}
use Rattle.lists.proofs.Laws.Member.{in_one, in-those, pairs-those}
use Rattle.lists.specs.Laws.Sum.{Distinct}

module _ {A : Type 0} where
  -- two lists joined
  pub sum-append : (f : A → ℕ) (xs ys : List A) → sum f (xs ++ ys) ≡ sum f xs + sum f ys
  unfolding sum
  sum-append f [] ys = omega arith
  sum-append f (x ∷ xs) ys = omega (arith, sum-append f xs ys)

  -- functions that agree on the members have one sum
  pub sum-cong : (f g : A → ℕ) (l : List A) → ((x : A) → In x l → f x ≡ g x) → sum f l ≡ sum g l
  unfolding sum
  sum-cong f g [] h = refl
  sum-cong f g (x ∷ l) h = omega (arith, h x (inl refl), sum-cong f g l (λ y m. h y (inr m)))

  -- f at most g at each member
  pub sum-le : (f g : A → ℕ) (l : List A) → ((x : A) → In x l → f x ≤ g x) → sum f l ≤ sum g l
  unfolding sum
  sum-le f g [] h = omega arith
  sum-le f g (x ∷ l) h = omega (arith, h x (inl refl), sum-le f g l (λ y m. h y (inr m)))

  -- f is at most g and what it exceeds g by
  pub sum-excess : (f g : A → ℕ) (l : List A) → sum f l ≤ sum g l + sum (λ x. f x - g x) l
  unfolding sum
  sum-excess f g [] = omega arith
  sum-excess f g (x ∷ l) = omega (arith, sum-excess f g l)

  -- the sum of two
  pub sum-plus : (f g : A → ℕ) (l : List A) → sum (λ x. f x + g x) l ≡ sum f l + sum g l
  unfolding sum
  sum-plus f g [] = refl
  sum-plus f g (x ∷ l) = omega (arith, sum-plus f g l)

  -- f at most c at each member
  pub sum_bound : (f : A → ℕ) (c : ℕ) (l : List A) → ((x : A) → In x l → f x ≤ c) → sum f l ≤ length l * c
  unfolding sum
  sum_bound f c [] h = omega arith
  sum_bound f c (x ∷ l) h = omega (arith, h x (inl refl), sum_bound f c l (λ y m. h y (inr m)))

-- one number more
pub sum_more : (f : ℕ → ℕ) (n : ℕ) → sum f (below (n + 1)) ≡ sum f (below n) + f n
unfolding below sum
sum_more f n = rw (add-one, sum-append f (below n) (n ∷ [])) (omega arith)

-- n taken out
abbrev without : ℕ → List ℕ → List ℕ
without n l = those (λ (x : ℕ). not (eqb x n)) l

without-none : (n : ℕ) (l : List ℕ) → All (λ x. n ≢ x) l → without n l ≡ l
unfolding those pick
without-none n [] h = refl
without-none n (x ∷ l) h = rw (ne_eqb x n (λ e. h.0 (sym e))) (ap (λ (m : List ℕ). x ∷ m) (without-none n l h.1))

sum-without : (f : ℕ → ℕ) (n : ℕ) (l : List ℕ) → Distinct l → sum f l ≤ f n + sum f (without n l)
unfolding sum those pick
sum-without f n [] d = omega arith
sum-without f n (x ∷ l) d =
    let ih = sum-without f n l d.1 in
    elim (ℕ_discrete x n) [
      | yes e ↦ rw (eq-eqb x n e, without-none n l (rw e at d.0), e) (omega arith)
      | no e ↦ rw (ne_eqb x n e) (omega arith)
    ]

-- Distinct numbers below n come to at most the sum of all of them: take out the greatest, n - 1, which stands at most once, and what is
-- left are distinct numbers below n - 1.
pub sum-part : (f : ℕ → ℕ) (n : ℕ) (l : List ℕ) → Distinct l → ((x : ℕ) → In x l → x < n) → sum f l ≤ sum f (below n)
unfolding sum below
sum-part f zero [] d h = omega arith
sum-part f zero (x ∷ l) d h = absurd (not-suc-le-zero (h x (inl refl)))
sum-part f (suc n) l d h =
    let ih = sum-part f n (without n l) (pairs-those (λ (x y : ℕ). x ≢ y) (λ (x : ℕ). not (eqb x n)) l d) lower in
    rw (sum-append f (below n) (n ∷ [])) (omega (arith, sum-without f n l d))
  where
    lower : (x : ℕ) → In x (without n l) → x < n
    lower x m =
        let r = in-those (λ (x : ℕ). not (eqb x n)) x l m in
        let o : x ≢ n = eqb-false x n (not-true (eqb x n) r.1) in
        omega (arith, h x r.0)

-- one of them
pub sum_one : (f : ℕ → ℕ) (n x : ℕ) → x < n → f x ≤ sum f (below n)
unfolding sum
sum_one f n x h = omega (arith, sum-part f n (x ∷ []) (tt, tt) (λ y m. omega (arith, in_one y x m)))
