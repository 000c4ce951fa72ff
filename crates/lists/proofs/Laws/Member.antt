-- Members: what is in a list made by `below`, `those`, `each` or `gather`, and what `any` and `every` say of members; a property
-- of every member, and of every two. Proofs about lists go by members rather than by places: most are then a line or two.
-- Assumes nothing.
use Rattle.std.specs.Prelude.{◌≡◌, ◌⊎◌, Bool, length, take, drop}
use Rattle.std.proofs.Math.Path.{refl, ap, ap₂}
use Rattle.std.proofs.Common.{sym, ◌∙◌, not-suc-le-zero, arith}
use Rattle.std.proofs.Math.Logic.{inl, inr, ⊎_elim}
use Rattle.std.proofs.Math.Bool.{true, false}
use Rattle.std.proofs.lemmas.Bool.{false≢true}
use mathlib.Core.List.{List, [], ◌∷◌, ◌++◌}
use Prim.Native.Nat.{ℕ, zero, suc, ◌<◌}
use Rattle.std.proofs.Math.Decide.{dec_lt}
use Rattle.lists.specs.Choice.{pick}
use Rattle.lists.specs.Parts.{below, those, any, every, each, gather}
use Rattle.lists.proofs.Laws.Cases.{by-test}
use Rattle.lists.specs.Laws.Member.{In, All, Pairs}
pub use Rattle.lists.proofs.Laws.Cases.{clash}

module _ {A : Type 0} where
  -- the member of a list of one
  pub in_one : (x y : A) → In x (y ∷ []) → x ≡ y
  in_one x y (inl e) = e
  in_one x y (inr h) = absurd h

  -- ---- two lists joined
  -- a member of the first
  pub in_left : (x : A) (xs ys : List A) → In x xs → In x (xs ++ ys)
  in_left x [] ys h = absurd h
  in_left x (y ∷ xs) ys (inl e) = inl e
  in_left x (y ∷ xs) ys (inr h) = inr (in_left x xs ys h)

  -- a member of the second
  pub in_right : (x : A) (xs ys : List A) → In x ys → In x (xs ++ ys)
  in_right x [] ys h = h
  in_right x (y ∷ xs) ys h = inr (in_right x xs ys h)

  -- a member of both together is one of either
  pub in_either : (x : A) (xs ys : List A) → In x (xs ++ ys) → In x xs ⊎ In x ys
  in_either x [] ys h = inr h
  in_either x (y ∷ xs) ys (inl e) = inl (inl e)
  in_either x (y ∷ xs) ys (inr h) = ⊎_elim (λ k. inl (inr k)) (λ k. inr k) (in_either x xs ys h)

  -- ---- the first k, and the rest
  -- a member of the first k is one of the whole
  pub in_take : (x : A) (k : ℕ) (l : List A) → In x (take k l) → In x l
  in_take x zero l h = absurd h
  in_take x (suc k) [] h = h
  in_take x (suc k) (y ∷ l) (inl e) = inl e
  in_take x (suc k) (y ∷ l) (inr h) = inr (in_take x k l h)

  -- a member of the rest is one of the whole
  pub in-drop : (x : A) (k : ℕ) (l : List A) → In x (drop k l) → In x l
  in-drop x zero l h = h
  in-drop x (suc k) [] h = h
  in-drop x (suc k) (y ∷ l) h = inr (in-drop x k l h)

  -- ---- those that pass a test
  -- they are members that pass
  pub in-those : (p : A → Bool) (x : A) (l : List A) → In x (those p l) → In x l × (p x ≡ true)
  unfolding those pick
  in-those p x [] h = absurd h
  in-those p x (y ∷ l) h = go (p y) refl (in-those p x l) h
    where
      go : (b : Bool) → p y ≡ b → (In x (those p l) → In x l × (p x ≡ true)) → In x (pick b (y ∷ those p l) (those p l)) → In x (y ∷ l) × (p x ≡ true)
      go true e ih (inl q) = (inl q, ap p q ∙ e)
      go true e ih (inr k) = (inr (ih k).0, (ih k).1)
      go false e ih k = (inr (ih k).0, (ih k).1)

  -- every member that passes is one of them
  pub into-those : (p : A → Bool) (x : A) (l : List A) → In x l → p x ≡ true → In x (those p l)
  unfolding those pick
  into-those p x [] h e = absurd h
  into-those p x (y ∷ l) (inl q) e = rw (sym (ap p q) ∙ e) (inl q)
  into-those p x (y ∷ l) (inr h) e = by-test (p y) (λ q. rw q (inr (into-those p x l h e))) (λ q. rw q (into-those p x l h e))

  -- tests that agree on the members leave the same
  pub those-cong : (p q : A → Bool) (l : List A) → ((x : A) → In x l → p x ≡ q x) → those p l ≡ those q l
  unfolding those
  those-cong p q [] h = refl
  those-cong p q (x ∷ l) h =
      ap₂ (λ (b : Bool) (m : List A). pick b (x ∷ m) m) (h x (inl refl)) (those-cong p q l (λ y k. h y (inr k)))

  -- ---- one passes, every one passes
  -- where one passes there is one that does
  -- where all pass
  pub those-all : (p : A → Bool) (l : List A) → All (λ x. p x ≡ true) l → those p l ≡ l
  unfolding those pick
  those-all p [] a = refl
  those-all p (x ∷ l) a = rw a.0 (ap (λ (m : List A). x ∷ m) (those-all p l a.1))

  pub any-in : (p : A → Bool) (l : List A) → any p l ≡ true → (x : A) × In x l × (p x ≡ true)
  unfolding any pick
  any-in p [] e = absurd (false≢true e)
  any-in p (x ∷ l) e =
      by-test (p x) (λ q. (x, inl refl, q)) (λ q. let r = any-in p l (rw q at e) in (r.0, inr r.1, r.2))

  -- a member that passes: one passes
  pub in-any : (p : A → Bool) (x : A) (l : List A) → In x l → p x ≡ true → any p l ≡ true
  unfolding any pick
  in-any p x [] h e = absurd h
  in-any p x (y ∷ l) (inl q) e = rw (sym (ap p q) ∙ e)
  in-any p x (y ∷ l) (inr h) e = by-test (p y) (λ q. rw q) (λ q. rw q (in-any p x l h e))

  -- where none passes, each member fails
  pub any_none : (p : A → Bool) (l : List A) → any p l ≡ false → (x : A) → In x l → p x ≡ false
  any_none p l e x h = by-test (p x) (λ q. clash (any p l) (in-any p x l h q) e) (λ q. q)

  -- where each member fails, none passes
  pub none_any : (p : A → Bool) (l : List A) → ((x : A) → In x l → p x ≡ false) → any p l ≡ false
  none_any p l h = by-test (any p l) (λ q. let r = any-in p l q in clash (p r.0) r.2 (h r.0 r.1)) (λ q. q)

  -- where every one passes, each member does
  pub every_in : (p : A → Bool) (l : List A) → every p l ≡ true → (x : A) → In x l → p x ≡ true
  unfolding every pick
  every_in p [] e x h = absurd h
  every_in p (y ∷ l) e x (inl z) = by-test (p x) (λ q. q) (λ q. absurd (false≢true (rw (sym (ap p z) ∙ q) at e)))
  every_in p (y ∷ l) e x (inr h) = by-test (p y) (λ q. every_in p l (rw q at e) x h) (λ q. absurd (false≢true (rw q at e)))

  -- where each member passes, every one does
  pub in-every : (p : A → Bool) (l : List A) → ((x : A) → In x l → p x ≡ true) → every p l ≡ true
  unfolding every pick
  in-every p [] h = refl
  in-every p (x ∷ l) h = rw (h x (inl refl)) (in-every p l (λ y k. h y (inr k)))

  -- ---- every member, and every two
  -- what every member has, each has
  pub all_of : (P : A → Type 0) (l : List A) → All P l → (x : A) → In x l → P x
  all_of P [] a x h = absurd h
  all_of P (y ∷ l) a x (inl e) = rw e a.0
  all_of P (y ∷ l) a x (inr h) = all_of P l a.1 x h

  -- what each member has, every one has
  pub of-all : (P : A → Type 0) (l : List A) → ((x : A) → In x l → P x) → All P l
  of-all P [] h = tt
  of-all P (y ∷ l) h = (h y (inl refl), of-all P l (λ x k. h x (inr k)))

  -- of two lists joined
  pub all_app : (P : A → Type 0) (xs ys : List A) → All P xs → All P ys → All P (xs ++ ys)
  all_app P [] ys h k = k
  all_app P (x ∷ xs) ys h k = (h.0, all_app P xs ys h.1 k)

  -- a property that follows
  pub all_map : (P Q : A → Type 0) → ((x : A) → P x → Q x) → (xs : List A) → All P xs → All Q xs
  all_map P Q f [] h = tt
  all_map P Q f (x ∷ xs) h = (f x h.0, all_map P Q f xs h.1)

  -- of the first of two lists
  pub all-front : (P : A → Type 0) (xs ys : List A) → All P (xs ++ ys) → All P xs
  all-front P [] ys h = tt
  all-front P (x ∷ xs) ys h = (h.0, all-front P xs ys h.1)

  -- a relation that follows from another
  pub pairs-map : (R S : A → A → Type 0) → ((x y : A) → R x y → S x y) → (l : List A) → Pairs R l → Pairs S l
  pairs-map R S f [] h = tt
  pairs-map R S f (x ∷ l) h = (all_map (R x) (S x) (f x) l h.0, pairs-map R S f l h.1)

  -- every two of the first of two lists
  -- what holds of any two members
  pub pairs-all : (R : A → A → Type 0) (l : List A) → ((x y : A) → In x l → In y l → R x y) → Pairs R l
  pairs-all R [] h = tt
  pairs-all R (x ∷ l) h = (of-all (R x) l (λ y i. h x y (inl refl) (inr i)), pairs-all R l (λ y z i k. h y z (inr i) (inr k)))

  pub pairs-front : (R : A → A → Type 0) (xs ys : List A) → Pairs R (xs ++ ys) → Pairs R xs
  pairs-front R [] ys h = tt
  pairs-front R (x ∷ xs) ys h = (all-front (R x) xs ys h.0, pairs-front R xs ys h.1)

  -- every two of two lists joined: of each, and of one from each
  pub pairs-app : (R : A → A → Type 0) (xs ys : List A) → Pairs R xs → Pairs R ys → ((x y : A) → In x xs → In y ys → R x y) → Pairs R (xs ++ ys)
  pairs-app R [] ys h k c = k
  pairs-app R (x ∷ xs) ys h k c =
      (all_app (R x) xs ys h.0 (of-all (R x) ys (λ y l. c x y (inl refl) l)), pairs-app R xs ys h.1 k (λ z y l m. c z y (inr l) m))

  -- every two of those that pass a test
  pub pairs-those : (R : A → A → Type 0) (p : A → Bool) (l : List A) → Pairs R l → Pairs R (those p l)
  unfolding those pick
  pairs-those R p [] h = tt
  pairs-those R p (x ∷ l) h =
      by-test (p x)
      (λ q. rw q (of-all (R x) (those p l) (λ y m. all_of (R x) l h.0 y (in-those p y l m).0), pairs-those R p l h.1))
      (λ q. rw q (pairs-those R p l h.1))

-- ---- what a function gives of each member

module _ {A : Type 0} {B : Type 0} where
  -- a member of `each` comes from a member
  pub in-each : (f : A → B) (y : B) (l : List A) → In y (each f l) → (x : A) × In x l × (y ≡ f x)
  unfolding each
  in-each f y [] h = absurd h
  in-each f y (x ∷ l) (inl e) = (x, inl refl, e)
  in-each f y (x ∷ l) (inr h) = let r = in-each f y l h in (r.0, inr r.1, r.2)

  -- what f gives of a member is one
  pub into-each : (f : A → B) (x : A) (l : List A) → In x l → In (f x) (each f l)
  unfolding each
  into-each f x [] h = absurd h
  into-each f x (y ∷ l) (inl e) = inl (ap f e)
  into-each f x (y ∷ l) (inr h) = inr (into-each f x l h)

  -- a member of `gather` comes from a member
  pub in-gather : (f : A → List B) (y : B) (l : List A) → In y (gather f l) → (x : A) × In x l × In y (f x)
  unfolding gather
  in-gather f y [] h = absurd h
  in-gather f y (x ∷ l) h = ⊎_elim (λ k. (x, inl refl, k)) (λ k. let r = in-gather f y l k in (r.0, inr r.1, r.2)) (in_either y (f x) (gather f l) h)

  -- what is among what f gives of a member is one
  pub into-gather : (f : A → List B) (y : B) (x : A) (l : List A) → In x l → In y (f x) → In y (gather f l)
  unfolding gather
  into-gather f y x [] h k = absurd h
  into-gather f y x (z ∷ l) (inl e) k = in_left y (f z) (gather f l) (rw e at k)
  into-gather f y x (z ∷ l) (inr h) k = in_right y (f z) (gather f l) (into-gather f y x l h k)

  -- functions that agree on the members give the same
  pub each-cong : (f g : A → B) (l : List A) → ((x : A) → In x l → f x ≡ g x) → each f l ≡ each g l
  unfolding each
  each-cong f g [] h = refl
  each-cong f g (x ∷ l) h = ap₂ (λ (a : B) (b : List B). a ∷ b) (h x (inl refl)) (each-cong f g l (λ y k. h y (inr k)))

  -- and gather the same
  pub gather_cong : (f g : A → List B) (l : List A) → ((x : A) → In x l → f x ≡ g x) → gather f l ≡ gather g l
  unfolding gather
  gather_cong f g [] h = refl
  gather_cong f g (x ∷ l) h = ap₂ (λ (a b : List B). a ++ b) (h x (inl refl)) (gather_cong f g l (λ y k. h y (inr k)))

  -- one for each
  pub length-each : (f : A → B) (l : List A) → length (each f l) ≡ length l
  unfolding each
  length-each f [] = refl
  length-each f (x ∷ l) = ap suc (length-each f l)

  -- every two of `each`
  pub pairs-each : (R : B → B → Type 0) (f : A → B) (l : List A) → Pairs (λ x y. R (f x) (f y)) l → Pairs R (each f l)
  unfolding each
  pairs-each R f [] h = tt
  pairs-each R f (x ∷ l) h = (one l h.0, pairs-each R f l h.1)
    where
      one : (m : List A) → All (λ y. R (f x) (f y)) m → All (R (f x)) (each f m)
      one [] k = tt
      one (y ∷ m) k = (k.0, one m k.1)

  -- every two of `gather`: two of one member's, and one each of two members'
  pub pairs-gather : (R : B → B → Type 0) (f : A → List B) (l : List A) → ((x : A) → In x l → Pairs R (f x))
      → Pairs (λ x y. (a b : B) → In a (f x) → In b (f y) → R a b) l → Pairs R (gather f l)
  unfolding gather
  pairs-gather R f [] h k = tt
  pairs-gather R f (x ∷ l) h k =
      pairs-app R (f x) (gather f l) (h x (inl refl)) (pairs-gather R f l (λ y m. h y (inr m)) k.1)
      (λ a b m n. let r = in-gather f b l n in all_of (λ y. (a b : B) → In a (f x) → In b (f y) → R a b) l k.0 r.0 r.1 a b m r.2)

-- ---- the numbers below n

-- they are below n
pub in-below : (x n : ℕ) → In x (below n) → x < n
unfolding below
in-below x zero h = absurd h
in-below x (suc n) h = ⊎_elim (λ k. omega (arith, in-below x n k)) (λ k. omega (arith, in_one x n k)) (in_either x (below n) (n ∷ []) h)

-- every number below n is one of them
pub into-below : (x n : ℕ) → x < n → In x (below n)
unfolding below
into-below x zero h = absurd (not-suc-le-zero h)
into-below x (suc n) h = elim (dec_lt x n) [
  | yes l ↦ in_left x (below n) (n ∷ []) (into-below x n l)
  | no l ↦ in_right x (below n) (n ∷ []) (inl (omega arith))
]

-- they ascend
pub pairs_below : (n : ℕ) → Pairs ◌<◌ (below n)
unfolding below
pairs_below zero = tt
pairs_below (suc n) =
    pairs-app ◌<◌ (below n) (n ∷ []) (pairs_below n) (tt, tt) (λ x y h k. omega (arith, in-below x n h, in_one y n k))
