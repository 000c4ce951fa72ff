-- Lists piece by piece: what `each`, `gather` and `take` do to one another, relations of every two, members by place, parts rearranged; and two differences that are
-- moved alike. Nothing here knows of timing.
-- Assumes nothing.
use Rattle.std.specs.Prelude.{◌≡◌, length, take, drop, get_or, ℤ, pos}
use Rattle.std.proofs.Math.Path.{refl, ap}
use Rattle.std.proofs.Common.{sym, ◌∙◌, inl, inr, not-suc-le-zero, arith, take-append-drop, ext_get_or}
use mathlib.Core.List.{List, [], ◌∷◌, ◌++◌, append_assoc, append-nil}
use Prim.Native.Nat.{ℕ, zero, suc, ◌+◌, ◌<◌}
use Rattle.std.proofs.Math.IntN.{sub_ℕ}
use Rattle.std.specs.Int.Signed.{lt_z}
use Rattle.lists.specs.Parts.{below, each, gather}
use Rattle.lists.proofs.Laws.Cases.{by-test}
use Rattle.lists.specs.Laws.Member.{In, All, Pairs}
use Rattle.lists.proofs.Laws.Member.{all_of, all_app, pairs-front}
use Rattle.lists.proofs.Laws.Join.{each-join}
use Rattle.lists.proofs.Laws.Column.{column-length, column-at}
use Rattle.lists.specs.Laws.Integer.{Within}
use Rattle.lists.proofs.Laws.Integer.{less-within, not-less-within, sub_is}
use Rattle.lists.specs.Laws.Ranking.{Sorted, Perm, none_left, keep, swap, then}
use Rattle.lists.proofs.Laws.Ranking.{perm_same}

-- ---- a function of each item

module _ {A B : Type 0} (f : A → B) where
  -- the first n
  pub each_take : (n : ℕ) (l : List A) → take n (each f l) ≡ each f (take n l)
  unfolding each
  each_take zero l = refl
  each_take (suc n) [] = refl
  each_take (suc n) (x ∷ l) = ap (λ (m : List B). f x ∷ m) (each_take n l)

module _ {A B C : Type 0} where
  -- one function after another
  pub each-each : (f : B → C) (g : A → B) (l : List A) → each f (each g l) ≡ each (λ (x : A). f (g x)) l
  unfolding each
  each-each f g [] = refl
  each-each f g (x ∷ l) = ap (λ (m : List C). f (g x) ∷ m) (each-each f g l)

  -- of what is gathered
  pub each-gathered : (f : B → C) (g : A → List B) (l : List A) → each f (gather g l) ≡ gather (λ (x : A). each f (g x)) l
  unfolding gather each
  each-gathered f g [] = refl
  each-gathered f g (x ∷ l) = each-join f (g x) (gather g l) ∙ ap (λ (m : List C). each f (g x) ++ m) (each-gathered f g l)

  -- gathered of one function after another
  gather-each : (f : A → B) (g : B → List C) (l : List A) → gather g (each f l) ≡ gather (λ (x : A). g (f x)) l
  unfolding gather each
  gather-each f g [] = refl
  gather-each f g (x ∷ l) = ap (λ (m : List C). g (f x) ++ m) (gather-each f g l)

-- a list, place by place
pub each-place : {A : Type 0} (d : A) (l : List A) → each (λ (i : ℕ). get_or l i d) (below (length l)) ≡ l
each-place d l =
    ext_get_or d (each (λ (i : ℕ). get_or l i d) (below (length l))) l (column-length (λ (i : ℕ). get_or l i d) (length l))
    (λ i h. column-at (λ (i : ℕ). get_or l i d) d (length l) i (rw (column-length (λ (i : ℕ). get_or l i d) (length l)) at h))

-- of what is gathered, place by place
pub gather-place : {A B : Type 0} (f : A → List B) (d : A) (l : List A) → gather (λ (i : ℕ). f (get_or l i d)) (below (length l)) ≡ gather f l
gather-place f d l = sym (gather-each (λ (i : ℕ). get_or l i d) f (below (length l))) ∙ ap (gather f) (each-place d l)

-- every two of the first n
pub pairs-take : {A : Type 0} (R : A → A → Type 0) (n : ℕ) (l : List A) → Pairs R l → Pairs R (take n l)
pairs-take R n l h = pairs-front R (take n l) (drop n l) (rw (take-append-drop n l) h)

-- what every member of every part has, every one of what is gathered has
pub all-gather : {A B : Type 0} (P : B → Type 0) (f : A → List B) (l : List A) → All (λ x. All P (f x)) l → All P (gather f l)
unfolding gather
all-gather P f [] h = tt
all-gather P f (x ∷ l) h = all_app P (f x) (gather f l) h.0 (all-gather P f l h.1)

-- two relations together
pub pairs-two : {A : Type 0} (R S Q : A → A → Type 0) → ((x y : A) → R x y → S x y → Q x y) → (l : List A) → Pairs R l → Pairs S l → Pairs Q l
pairs-two R S Q f [] h k = tt
pairs-two {A} R S Q f (x ∷ l) h k = (both l h.0 k.0, pairs-two R S Q f l h.1 k.1)
  where
    both : (l : List A) → All (R x) l → All (S x) l → All (Q x) l
    both [] h k = tt
    both (y ∷ l) h k = (f x y h.0 k.0, both l h.1 k.1)

-- of every two of `each`, every two
pub pairs-under : {A B : Type 0} (R : B → B → Type 0) (f : A → B) (l : List A) → Pairs R (each f l) → Pairs (λ x y. R (f x) (f y)) l
unfolding each
pairs-under R f [] h = tt
pairs-under {A} R f (x ∷ l) h = (under l h.0, pairs-under R f l h.1)
  where
    under : (l : List A) → All (R (f x)) (each f l) → All (λ y. R (f x) (f y)) l
    under [] h = tt
    under (y ∷ l) h = (h.0, under l h.1)

-- what stands at a place is a member
pub in_place : {A : Type 0} (d : A) (l : List A) (i : ℕ) → i < length l → In (get_or l i d) l
in_place d [] i h = absurd (not-suc-le-zero h)
in_place d (x ∷ l) zero h = inl refl
in_place d (x ∷ l) (suc i) h = inr (in_place d l i (omega arith))

-- and a member stands at some place
pub place_of : {A : Type 0} (d x : A) (l : List A) → In x l → (i : ℕ) × (i < length l) × (get_or l i d ≡ x)
place_of d x [] h = absurd h
place_of d x (y ∷ l) (inl e) = (0, omega arith, sym e)
place_of d x (y ∷ l) (inr h) = let r = place_of d x l h in (suc r.0, omega (arith, r.1), r.2)

-- what stands at a place is a member of the first so many
pub in-front : {A : Type 0} (d : A) (l : List A) (i : ℕ) → i < length l → In (get_or l i d) (take (suc i) l)
in-front d [] i h = absurd (not-suc-le-zero h)
in-front d (x ∷ l) zero h = inl refl
in-front d (x ∷ l) (suc i) h = inr (in-front d l i (omega arith))

-- the first of a list is at most each member
pub first-least : {A : Type 0} (key : A → ℤ) (d x : A) (l : List A) → Sorted key l → In x l → Within 0 (key (get_or l 0 d)) (key x)
first-least key d x [] h i = absurd i
first-least key d x (y ∷ l) h (inl e) = rw e (omega arith)
first-least key d x (y ∷ l) h (inr i) = all_of (λ z. Within 0 (key y) (key z)) l h.0 x i

-- ---- parts in any order
module _ {A : Type 0} where
  perm-into : (x : A) (xs ys : List A) → Perm (x ∷ xs ++ ys) (xs ++ x ∷ ys)
  perm-into x [] ys = perm_same (x ∷ ys)
  perm-into x (y ∷ xs) ys = then swap (keep (perm-into x xs ys))

  perm-join : (xs ys : List A) → Perm (xs ++ ys) (ys ++ xs)
  perm-join [] ys = rw append-nil (perm_same ys)
  perm-join (x ∷ xs) ys = then (keep (perm-join xs ys)) (perm-into x ys xs)

  perm-front : (xs : List A) {l m : List A} → Perm l m → Perm (xs ++ l) (xs ++ m)
  perm-front [] p = p
  perm-front (x ∷ xs) p = keep (perm-front xs p)

  perm-behind : (zs : List A) {l m : List A} → Perm l m → Perm (l ++ zs) (m ++ zs)
  perm-behind zs none_left = perm_same zs
  perm-behind zs (keep p) = keep (perm-behind zs p)
  perm-behind zs swap = swap
  perm-behind zs (then p q) = then (perm-behind zs p) (perm-behind zs q)

-- parts rearranged: so is what is gathered of them
pub perm-gather : {A B : Type 0} (f : A → List B) {l m : List A} → Perm l m → Perm (gather f l) (gather f m)
unfolding gather
perm-gather f none_left = none_left
perm-gather f (keep {x = x} p) = perm-front (f x) (perm-gather f p)
perm-gather f (swap {x = x} {y = y} {l = l}) = rw (← append_assoc (f x) (f y) (gather f l), ← append_assoc (f y) (f x) (gather f l)) (perm-behind (gather f l) (perm-join (f x) (f y)))
perm-gather f (then p q) = then (perm-gather f p) (perm-gather f q)

-- ---- differences
-- two numbers moved alike compare as before
pub moved-less : (a b up down : ℕ) → lt_z (sub_ℕ (a + up) down) (sub_ℕ (b + up) down) ≡ lt_z (pos a) (pos b)
moved-less a b up down =
    let y = sub_ℕ (a + up) down in
    let z = sub_ℕ (b + up) down in
    let p = sub_is (a + up) down in
    let q = sub_is (b + up) down in
    by-test (lt_z y z)
    (λ e. e ∙ by-test (lt_z (pos a) (pos b)) (λ f. sym f) (λ f. absurd (omega (arith, less-within y z e, not-less-within (pos a) (pos b) f))))
    (λ e. e ∙ by-test (lt_z (pos a) (pos b)) (λ f. absurd (omega (arith, not-less-within y z e, less-within (pos a) (pos b) f))) (λ f. sym f))
