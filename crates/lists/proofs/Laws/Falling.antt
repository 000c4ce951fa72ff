-- The first k of items that each have a bound of their own, where the bounds fall along the list and by no more than one: what is left out stands behind all that
-- is kept, so where k are kept and found they are the first k of all (`top-falling`). A bound that falls drops ties that come later once there are enough.
-- Assumes nothing.
use Rattle.std.specs.Prelude.{◌≡◌, Bool, ℕ, ◌≤◌, length, take, ℤ}
use Rattle.std.proofs.Math.Path.{refl, ap}
use Rattle.std.proofs.Common.{sym, ◌∙◌, arith, length-take}
use mathlib.Core.List.{List, [], ◌∷◌, ◌++◌}
use Rattle.std.proofs.Math.Seq.{take-nil}
use Rattle.std.proofs.lemmas.List.{take-append-le}
use Rattle.lists.specs.Choice.{pick}
use Rattle.lists.specs.Parts.{those}
use Rattle.lists.specs.Rank.{enter, rank, by}
use Rattle.lists.proofs.Laws.Cases.{by-test}
use Rattle.lists.specs.Laws.Member.{All, Pairs}
use Rattle.lists.proofs.Laws.Member.{all_map}
use Rattle.lists.specs.Laws.Integer.{Within, Less}
use Rattle.lists.proofs.Laws.Integer.{less-within, not-less-within}
use Rattle.lists.proofs.Laws.Ranking.{all-enter, enter-cases, enter-less, enter-more}
use Rattle.lists.specs.Laws.Top.{rank_top}
use Rattle.lists.proofs.Laws.Top.{rank-top}
use Rattle.lists.specs.Laws.Falling.{Near, Falls}
use Rattle.lists.specs.Laws.Falling as Of

module _ {A : Type 0} (key : A → ℤ) where
  -- before all that are greater
  enter-front : (x : A) (l c : List A) → All (λ y. Less (key x) (key y)) c → enter (by key) x (l ++ c) ≡ enter (by key) x l ++ c
  unfolding enter
  enter-front x [] [] a = refl
  enter-front x [] (y ∷ c) a = enter-less key x y c a.0
  enter-front x (z ∷ l) c a =
      enter-cases key (λ m. m ≡ enter (by key) x (z ∷ l) ++ c) x z (l ++ c)
      (λ h. ap (λ (m : List A). m ++ c) (sym (enter-less key x z l h)))
      (λ h. ap (λ (m : List A). z ∷ m) (enter-front x l c a) ∙ ap (λ (m : List A). m ++ c) (sym (enter-more key x z l h)))

  -- behind all that are not
  enter_behind : (x : A) (l c : List A) → All (λ y. Within 0 (key y) (key x)) l → enter (by key) x (l ++ c) ≡ l ++ enter (by key) x c
  enter_behind x [] c a = refl
  enter_behind x (z ∷ l) c a = enter-more key x z (l ++ c) a.0 ∙ ap (λ (m : List A). z ∷ m) (enter_behind x l c a.1)

  module _ (bound : A → ℤ) where
    abbrev kept : A → Bool
    kept = Of.kept key bound

    -- what is left out gathers behind what is kept
    behind : (m : ℤ) (l c xs : List A) → Pairs (Falls bound) xs → All (Near bound m) xs → All (λ y. Within 0 (key y) m) l → All (λ y. All (λ x. Within 0 (bound x) (key y)) xs) c
        → (d : List A) × (rank (by key) (l ++ c) xs ≡ rank (by key) l (those kept xs) ++ d)
    unfolding rank those pick
    behind m l c [] p q a b = (c, refl)
    behind m l c (x ∷ xs) p q a b =
        by-test (kept x)
        (λ e.
        let low = less-within (key x) (bound x) e in
        let r =
        behind m (enter (by key) x l) c xs p.1 q.1 (all-enter (by key) (λ y. Within 0 (key y) m) x l (omega (arith, q.0.1)) a)
        (all_map _ (λ y. All (λ z. Within 0 (bound z) (key y)) xs) (λ y h. h.1) c b) in
        (r.0, rw (e, enter-front x l c (all_map _ (λ y. Less (key x) (key y)) (λ y h. omega (arith, h.0)) c b)) r.1))
        (λ e.
        let high = not-less-within (key x) (bound x) e in
        let r =
        behind m l (enter (by key) x c) xs p.1 q.1 a
        (all-enter (by key) (λ y. All (λ z. Within 0 (bound z) (key y)) xs) x c (all_map _ (λ z. Within 0 (bound z) (key x)) (λ z h. omega arith) xs p.0)
        (all_map _ (λ y. All (λ z. Within 0 (bound z) (key y)) xs) (λ y h. h.1) c b)) in
        (r.0, rw (e, enter_behind x l c (all_map _ (λ y. Within 0 (key y) (key x)) (λ y h. omega (arith, q.0.0)) l a)) r.1))

    pub top-falling : (m : ℤ) (k : ℕ) (xs : List A) → Pairs (Falls bound) xs → All (Near bound m) xs → length (rank_top (by key) k [] (those kept xs)) ≡ k
        → rank_top (by key) k [] (those kept xs) ≡ take k (rank (by key) [] xs)
    top-falling m k xs p q n =
        let r = behind m [] [] xs p q tt tt in
        let ys = rank (by key) [] (those kept xs) in
        let top : rank_top (by key) k [] (those kept xs) ≡ take k ys =
        ap (λ (l : List A). rank_top (by key) k l (those kept xs)) (sym (take-nil k)) ∙ sym (rank-top (by key) k [] (those kept xs)) in
        let h : k ≤ length ys = omega (arith, ap length top, length-take k ys) in
        top ∙ sym (ap (take k) r.1 ∙ take-append-le k ys r.0 h)
