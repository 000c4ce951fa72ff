-- Lists without repeats: two with the same members are as long as one another, so "how many there are" does not depend on how they are listed.
-- Assumes nothing.
use Rattle.std.specs.Prelude.{◌≡◌, refl, ◌≢◌, List, [], ◌∷◌, ◌++◌, ◌≤◌, length}
use Rattle.std.proofs.Common.{sym, ap, inl, inr, ⊎_elim, arith, length-append}
use Rattle.lists.specs.Laws.Member.{In, Pairs}
use Rattle.lists.proofs.Laws.Member.{all_of, of-all, in_left, in_right, in_either}
use Rattle.lists.specs.Laws.Once.{Once}

module _ {A : Type 0} where
  -- a relation of every two that follows, for members, from another
  pub pairs-members : (R S : A → A → Type 0) (l : List A) → ((x y : A) → In x l → In y l → R x y → S x y) → Pairs R l → Pairs S l
  pairs-members R S [] f h = tt
  pairs-members R S (x ∷ l) f h = (
    of-all (S x) l (λ y i. f x y (inl refl) (inr i) (all_of (R x) l h.0 y i)),
    pairs-members R S l (λ y z i j. f y z (inr i) (inr j)) h.1,
  )

  -- a list at one of its members
  record Around (x : A) (m : List A) : Type 0 where
    pub front : List A
    pub rest : List A
    pub is : m ≡ front ++ x ∷ rest

  around : (x : A) (m : List A) → In x m → Around x m
  around x [] h = absurd h
  around x (y ∷ m) (inl e) = record { front = []; rest = m; is = ap (λ (z : A). z ∷ m) (sym e) }
  around x (y ∷ m) (inr h) =
      let a = around x m h in
      record { front = y ∷ a.front; rest = a.rest; is = ap (λ (l : List A). y ∷ l) a.is }

  -- another member stands before it or behind it
  beside : (x z : A) (f r : List A) → x ≢ z → In z (f ++ x ∷ r) → In z (f ++ r)
  beside x z f r n h = ⊎_elim (in_left z f r) (λ k. go k) (in_either z f (x ∷ r) h)
    where
      go : In z (x ∷ r) → In z (f ++ r)
      go (inl e) = absurd (n (sym e))
      go (inr k) = in_right z f r k

  -- without repeats a list is not longer than one that has its members
  pub once-short : (l m : List A) → Once l → ((z : A) → In z l → In z m) → length l ≤ length m
  once-short [] m o h = omega arith
  once-short (x ∷ l) m o h =
      let a = around x m (h x (inl refl)) in
      let f = a.front in
      let r = a.rest in
      let less : length l ≤ length (f ++ r) =
      once-short l (f ++ r) o.1 (λ z i. beside x z f r (all_of (λ y. x ≢ y) l o.0 z i) (rw a.is at (h z (inr i)))) in
      rw a.is (omega (arith, length-append f r, length-append f (x ∷ r)))

  -- two without repeats and with the same members are as long
  pub once-length : (l m : List A) → Once l → Once m → ((z : A) → In z l → In z m) → ((z : A) → In z m → In z l) → length l ≡ length m
  once-length l m o p f g = omega (arith, once-short l m o f, once-short m l p g)
