-- The first k of the items below a bound: items may be left out that are not below it, or not below the last of a full list (`top-cut`).
-- Assumes nothing.
use Rattle.std.specs.Prelude.{◌≡◌, Bool, ℕ, length, take, ℤ}
use Rattle.std.proofs.Math.Path.{refl, ap}
use Rattle.std.proofs.Common.{sym, ◌∙◌, inl, inr, arith}
use Rattle.std.proofs.Math.Bool.{true}
use mathlib.Core.List.{List, [], ◌∷◌, ◌++◌}
use Rattle.std.proofs.Math.Seq.{take-length, take-nil}
use Rattle.lists.specs.Choice.{pick}
use Rattle.lists.specs.Parts.{those, last}
use Rattle.lists.specs.Rank.{enter, rank, by}
use Rattle.lists.proofs.Laws.Cases.{by-test, clash}
use Rattle.lists.specs.Laws.Member.{All}
use Rattle.lists.specs.Laws.Integer.{Within}
use Rattle.lists.specs.Laws.Ranking.{Sorted}
use Rattle.lists.specs.Laws.Top.{rank_top}
use Rattle.lists.proofs.Laws.Top.{rank-top, rank-stays}
use Rattle.lists.specs.Laws.Under as Of

module _ {A : Type 0} (key : A → ℤ) where
  abbrev below : ℤ → A → Bool
  below = Of.below key

  abbrev Out : ℤ → ℕ → List A → A → Type 0
  Out = Of.Out key

  stays : (k : ℕ) (l : List A) (x : A) → length l ≡ k → All (λ y. Within 0 (key y) (key x)) l → take k (enter (by key) x l) ≡ l
  unfolding rank
  stays k l x e a =
      rw (← e)
      (rank-stays key (length l) l (x ∷ []) (omega arith) (rw (take-length l) a, tt) ∙ take-length l)

  pub top-cut : (h : ℤ) (k : ℕ) (l cut xs : List A) → All (Out h k l) cut
      → rank_top (by key) k l (those (below h) (cut ++ xs)) ≡ rank_top (by key) k l (those (below h) xs)
  unfolding those rank_top pick
  top-cut h k l [] xs a = refl
  top-cut h k l (x ∷ cut) xs a =
      by-test (below h x)
      (λ e. rw e (one e a.0 ∙ top-cut h k l cut xs a.1))
      (λ e. rw e (top-cut h k l cut xs a.1))
    where
      one : below h x ≡ true → Out h k l x → rank_top (by key) k (take k (enter (by key) x l)) (those (below h) (cut ++ xs)) ≡ rank_top (by key) k l (those (below h) (cut ++ xs))
      one e (inl f) = clash (below h x) e f
      one e (inr f) = ap (λ (m : List A). rank_top (by key) k m (those (below h) (cut ++ xs))) (stays k l x f.0 f.1)

  -- an item that enters
  pub top-enter : (h : ℤ) (k : ℕ) (l : List A) (x : A) (xs : List A) → below h x ≡ true
      → rank_top (by key) k l (those (below h) (x ∷ xs)) ≡ rank_top (by key) k (take k (enter (by key) x l)) (those (below h) xs)
  unfolding those rank_top pick
  top-enter h k l x xs e = rw e refl

  -- none of a sorted list is above what its last is not above
  pub last-above : (d x : A) (l : List A) → Sorted key l → Within 0 (key (last d l)) (key x) → All (λ y. Within 0 (key y) (key x)) l
  unfolding last
  last-above d x [] s h = tt
  last-above d x (y ∷ []) s h = (h, tt)
  last-above d x (y ∷ z ∷ l) s h = let r = last-above y x (z ∷ l) s.1 h in (omega (arith, s.0.0, r.0), r)

  -- from the empty list
  pub top-is : (k : ℕ) (ys : List A) → rank_top (by key) k [] ys ≡ take k (rank (by key) [] ys)
  top-is k ys = ap (λ (l : List A). rank_top (by key) k l ys) (sym (take-nil k)) ∙ sym (rank-top (by key) k [] ys)
