-- A column: what f gives of each number below n, as a list. What a table holds of each number stands so, and is read back by place.
-- Assumes nothing.
use Rattle.std.specs.Prelude.{◌≡◌, refl, [], ◌∷◌, ◌++◌, ℕ, zero, suc, ◌<◌, length, get_or}
use Rattle.std.proofs.Common.{ap, ◌∙◌, not-suc-le-zero, add-one, arith, length-append}
use Rattle.std.proofs.Math.Decide.{dec_lt}
use Rattle.std.proofs.Math.ListN.{get_or-append}
use Rattle.std.proofs.lemmas.List.{get_or_at}
use Rattle.lists.specs.Parts.{below, each}
use Rattle.lists.proofs.Laws.Member.{length-each}
use Rattle.lists.proofs.Laws.Join.{each_more}

-- there are n numbers below n
pub length-below : (n : ℕ) → length (below n) ≡ n
unfolding below
length-below zero = refl
length-below (suc n) = rw (length-append, length-below n, add-one)

module _ {B : Type 0} (f : ℕ → B) where
  -- it is n long
  pub column-length : (n : ℕ) → length (each f (below n)) ≡ n
  column-length n = length-each f (below n) ∙ length-below n

  -- one number more
  pub column-more : (n : ℕ) → each f (below (suc n)) ≡ each f (below n) ++ (f n ∷ [])
  column-more n = rw add-one at (each_more f n)

  -- what stands at i is f's at i
  pub column-at : (d : B) (n i : ℕ) → i < n → get_or (each f (below n)) i d ≡ f i
  column-at d zero i h = absurd (not-suc-le-zero h)
  column-at d (suc n) i h =
      rw (column-more n)
      (elim (dec_lt i n) [
        | yes l ↦ get_or-append (each f (below n)) (f n ∷ []) d i (rw (column-length n) l) ∙ column-at d n i l
        | no l ↦ let e : n ≡ i = omega arith in get_or_at (each f (below n)) (f n) [] d i (column-length n ∙ e) ∙ ap f e
      ])
