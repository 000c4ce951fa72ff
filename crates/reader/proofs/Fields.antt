-- The fields of a line: one more than its tabs. Assumes nothing.
use Rattle.std.proofs.Common.{◌≡◌, ℕ, ◌+◌, ◌==◌, cond, Bool, true, false, eqb, count_by, List, [], ◌∷◌, length, refl, arith}
use Rattle.std.proofs.lemmas.List.Sums.{sum_by-cons}
use Rattle.lists.specs.Choice.{pick}
use Rattle.lists.specs.Parts.{split, onto}
use Rattle.lists.proofs.Laws.Cut.{split-some}
use Rattle.reader.specs.Cut.{onto-long}

pub split_count : (b : ℕ) (l : List ℕ) → count_by (λ x. x == b) l + 1 ≡ length (split b l)
unfolding split pick
split_count b [] = refl
split_count b (x ∷ l) = rw (sum_by-cons (λ y. cond (y == b) 1 0) x l) (by_byte (eqb x b) (split_count b l))
  where
    by_byte : (c : Bool) → count_by (λ x. x == b) l + 1 ≡ length (split b l) → (cond c 1 0 + count_by (λ x. x == b) l) + 1 ≡ length (pick c ([] ∷ split b l) (onto x (split b l)))
    by_byte true e = omega (arith, e)
    by_byte false e = rw (onto-long x (split b l) (split-some b l)) (omega (arith, e))
