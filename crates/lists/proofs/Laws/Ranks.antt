-- Rankings of parts, and rankings by a comparison that decides every two items.
--
-- Of a whole made of parts, each part may first be ranked by itself and cut (`rank-gather`). A comparison that agrees with a key, and on equal keys with the order
-- in which the items stand, ranks them as the key does (`rank-ties`). Where a comparison decides every two different items, the order of entering does not matter
-- (`rank-any`): of two items the lesser comes to stand before the greater, whichever enters first. And an item that is not less than the last of a full list
-- falls out at once (`top-beyond`), since no other record of the list is greater either.
-- Assumes nothing.
use Rattle.std.specs.Prelude.{◌≡◌, Bool, true, ℕ, ◌≤◌, length, ℤ}
use Rattle.std.proofs.Math.Path.{refl, sym, ap}
use Rattle.std.proofs.Common.{◌∙◌, inl, inr, take-take}
use Rattle.std.proofs.Math.Bool.{false}
use mathlib.Core.List.{List, [], ◌∷◌, ◌++◌}
use Rattle.std.proofs.Math.ListN.{take}
use Rattle.std.proofs.Math.Seq.{take-append_seam}
use Rattle.lists.specs.Choice.{pick}
use Rattle.lists.specs.Parts.{gather, last}
use Rattle.lists.specs.Rank.{enter, rank, by}
use Rattle.lists.proofs.Laws.Cases.{by-test, clash}
use Rattle.lists.specs.Laws.Member.{In, All, Pairs}
use Rattle.lists.proofs.Laws.Member.{all_of, of-all, all_map}
use Rattle.lists.specs.Laws.Integer.{Within}
use Rattle.lists.proofs.Laws.Ranking.{enter-either, all-enter, sorted-rank}
use Rattle.lists.specs.Laws.Ranking.{Sorted, Perm, none_left, keep, swap, then}
use Rattle.lists.proofs.Laws.Pieces.{pairs-take}
use Rattle.lists.specs.Laws.Top.{rank_top}
use Rattle.lists.proofs.Laws.Top.{rank-append, rank-cut-left, rank-cut-right, rank-ranked}
use Rattle.lists.specs.Laws.Ranks.{Deciding, InOrder}

-- ---- the first k of a whole, from the first n of each part

module _ {A : Type 0} (key : A → ℤ) (k n : ℕ) (few : k ≤ n) where
  -- items to come may be ranked, and cut to n
  rank-part : (L xs : List A) → take k (rank (by key) L xs) ≡ take k (rank (by key) L (take n (rank (by key) [] xs)))
  unfolding rank
  rank-part L xs =
      let S = rank (by key) [] xs in
      let s : Sorted key S = sorted-rank key [] xs tt in
      ap (take k) (sym (rank-ranked key L [] xs tt))
      ∙ sym (rank-cut-right key k L S s)
      ∙ ap (λ (m : List A). take k (rank (by key) L m)) (sym (take-take k n S few))
      ∙ rank-cut-right key k L (take n S) (pairs-take (λ x y. Within 0 (key x) (key y)) n S s)

  pub rank-gather : {B : Type 0} (f : B → List A) (l : List B) (L : List A)
      → take k (rank (by key) L (gather f l)) ≡ take k (rank (by key) L (gather (λ (x : B). take n (rank (by key) [] (f x))) l))
  unfolding gather
  rank-gather f [] L = refl
  rank-gather {B} f (x ∷ l) L =
      let g : B → List A = λ x. take n (rank (by key) [] (f x)) in
      ap (take k) (rank-append (by key) L (f x) (gather f l))
      ∙ rank-cut-left (by key) k (rank (by key) L (f x)) (gather f l)
      ∙ ap (λ (m : List A). take k (rank (by key) m (gather f l))) (rank-part L (f x))
      ∙ sym (rank-cut-left (by key) k (rank (by key) L (g x)) (gather f l))
      ∙ rank-gather f l (rank (by key) L (g x))
      ∙ ap (take k) (sym (rank-append (by key) L (g x) (gather g l)))

-- ---- equal keys, in the order in which the items stand

module _ {A : Type 0} (gt lt : A → A → Bool) (B : A → A → Type 0) (agree : (x y : A) → B x y → gt x y ≡ lt x y) where
  enter-ties : (x : A) (l : List A) → All (λ y. B y x) l → enter gt x l ≡ enter lt x l
  unfolding enter
  enter-ties x [] h = refl
  enter-ties x (y ∷ l) h = rw (agree y x h.0, enter-ties x l h.1)

  rank-after : (l xs : List A) → Pairs B xs → ((x y : A) → In x l → In y xs → B x y) → rank gt l xs ≡ rank lt l xs
  unfolding rank
  rank-after l [] p c = refl
  rank-after l (x ∷ xs) p c =
      ap (λ (m : List A). rank gt m xs) (enter-ties x l (of-all (λ y. B y x) l (λ y i. c y x i (inl refl))))
      ∙ rank-after (enter lt x l) xs p.1
      (λ z y i j.
      all_of (λ z. B z y) (enter lt x l)
      (all-enter lt (λ z. B z y) x l (all_of (B x) xs p.0 y j) (of-all (λ z. B z y) l (λ z k. c z y k (inr j)))) z i)

  -- comparisons that agree where the first item stands before the second rank alike
  pub rank-ties : (xs : List A) → Pairs B xs → rank gt [] xs ≡ rank lt [] xs
  rank-ties xs p = rank-after [] xs p (λ x y i j. absurd i)

module _ {A : Type 0} (gt : A → A → Bool) (o : Deciding gt) where
  -- not greater, twice
  pub not-over : (x y z : A) → gt x y ≡ false → gt y z ≡ false → gt x z ≡ false
  not-over x y z h k =
      by-test (gt x z)
      (λ e. by-test (gt z y) (λ f. clash (gt x y) (o.over-both x z y e f) h) (λ f. clash (gt x z) e (rw (o.same y z k f) at h)))
      (λ e. e)

  -- entering, by one step
  enter-before : (x y : A) (l : List A) → gt y x ≡ true → enter gt x (y ∷ l) ≡ x ∷ y ∷ l
  unfolding enter pick
  enter-before x y l e = rw e

  enter_behind : (x y : A) (l : List A) → gt y x ≡ false → enter gt x (y ∷ l) ≡ y ∷ enter gt x l
  unfolding enter pick
  enter_behind x y l e = rw e

  enter-two : (x y : A) (l : List A) → gt y x ≡ true → enter gt y (enter gt x l) ≡ enter gt x (enter gt y l)
  unfolding enter
  enter-two x y [] h = enter_behind y x [] (o.not-both y x h) ∙ sym (enter-before x y [] h)
  enter-two x y (z ∷ l) h =
      by-test (gt z x)
      (λ e.
      ap (enter gt y) (enter-before x z l e)
      ∙ enter_behind y x (z ∷ l) (o.not-both y x h)
      ∙ enter-either gt (λ m. x ∷ m ≡ enter gt x m) y z l (λ f. sym (enter-before x y (z ∷ l) h)) (λ f. sym (enter-before x z (enter gt y l) e)))
      (λ e.
      let f : gt z y ≡ false = by-test (gt z y) (λ f. clash (gt z x) (o.over-both z y x f h) e) (λ f. f) in
      ap (enter gt y) (enter_behind x z l e)
      ∙ enter_behind y z (enter gt x l) f
      ∙ ap (λ (m : List A). z ∷ m) (enter-two x y l h)
      ∙ sym (ap (enter gt x) (enter_behind y z l f) ∙ enter_behind x z (enter gt y l) e))

  -- of two items either may enter first
  pub enter-comm : (x y : A) (l : List A) → enter gt y (enter gt x l) ≡ enter gt x (enter gt y l)
  enter-comm x y l =
      by-test (gt y x) (λ e. enter-two x y l e)
      (λ e. by-test (gt x y) (λ f. sym (enter-two y x l f)) (λ f. ap (λ (z : A). enter gt z (enter gt x l)) (o.same y x e f) ∙ ap (λ (z : A). enter gt x (enter gt z l)) (sym (o.same y x e f))))

  -- items may enter in any order
  pub rank-any : {xs ys : List A} → Perm xs ys → (l : List A) → rank gt l xs ≡ rank gt l ys
  unfolding rank
  rank-any none_left l = refl
  rank-any (keep {x = x} p) l = rank-any p (enter gt x l)
  rank-any (swap {x = x} {y = y} {l = m}) l = ap (λ (r : List A). rank gt r m) (enter-comm x y l)
  rank-any (then p q) l = rank-any p l ∙ rank-any q l

  order-enter : (x : A) (l : List A) → InOrder gt l → InOrder gt (enter gt x l)
  unfolding enter
  order-enter x [] h = (tt, tt)
  order-enter x (y ∷ l) h =
      enter-either gt (InOrder gt) x y l
      (λ e.
      let f : gt x y ≡ false = o.not-both y x e in
      ((f, all_map (λ z. gt y z ≡ false) (λ z. gt x z ≡ false) (λ z k. not-over x y z f k) l h.0), h))
      (λ e. (all-enter gt (λ z. gt y z ≡ false) x l e h.0, order-enter x l h.1))

  -- a ranking is in order
  pub order-rank : (l xs : List A) → InOrder gt l → InOrder gt (rank gt l xs)
  unfolding rank
  order-rank l [] h = h
  order-rank l (x ∷ xs) h = order-rank (enter gt x l) xs (order-enter x l h)

  -- ---- what falls out of a full list at once
  enter-last : (x : A) (l : List A) → All (λ y. gt y x ≡ false) l → enter gt x l ≡ l ++ (x ∷ [])
  unfolding enter
  enter-last x [] h = refl
  enter-last x (y ∷ l) h = enter_behind x y l h.0 ∙ ap (λ (m : List A). y ∷ m) (enter-last x l h.1)

  -- if the last is not greater, none is
  pub none-greater : (d x : A) (l : List A) → InOrder gt l → gt (last d l) x ≡ false → All (λ y. gt y x ≡ false) l
  unfolding last
  none-greater d x [] h e = tt
  none-greater d x (y ∷ []) h e = (e, tt)
  none-greater d x (y ∷ z ∷ l) h e = let r = none-greater y x (z ∷ l) h.1 e in (not-over y z x h.0.0 r.0, r)

  -- items that are not less than the last of a full list leave it as it is
  pub top-beyond : (d : A) (l xs : List A) → InOrder gt l → All (λ x. gt (last d l) x ≡ false) xs → rank_top gt (length l) l xs ≡ l
  unfolding rank_top
  top-beyond d l [] h a = refl
  top-beyond d l (x ∷ xs) h a =
      ap (λ (m : List A). rank_top gt (length l) m xs) (ap (take (length l)) (enter-last x l (none-greater d x l h a.0)) ∙ take-append_seam l (x ∷ []))
      ∙ top-beyond d l xs h a.1

-- entered in two goes
pub top-append : {A : Type 0} (gt : A → A → Bool) (k : ℕ) (l xs ys : List A) → rank_top gt k l (xs ++ ys) ≡ rank_top gt k (rank_top gt k l xs) ys
unfolding rank_top
top-append gt k l [] ys = refl
top-append gt k l (x ∷ xs) ys = top-append gt k (take k (enter gt x l)) xs ys
