-- What a loop over bytes knows of the places that it looks for. Assumes nothing.
use Rattle.std.specs.Prelude.{ℕ, ◌≡◌, refl, List, [], ◌∷◌, eqb, ltb, cond, length, Option, Some, None}
use Rattle.std.specs.List.{position_or_len}
use Rattle.std.specs.Option.{unwrap_or}
use Rattle.std.proofs.Common.{arith, ltb-false}
use Rattle.lists.specs.Choice.{pick}
use Rattle.lists.specs.Laws.Cut.{reach}
use Rattle.lists.proofs.Laws.Cases.{by-test}
use Rattle.lists.proofs.Laws.Cut.{reach-most}
use Rattle.reader.specs.Cut.{part-is, start-zero, start_none, start-hit, start-miss, start-over}

-- where the bytes that are left to pass lead to
pub ruleset starts = (start_none, start-hit, start-miss, start-over)

-- a part between its two places
pub ruleset parts = (part-is)

-- the first byte b is where a search for it ends
reach-is : (b : ℕ) (l : List ℕ) → position_or_len (λ x. eqb x b) l ≡ reach b l
unfolding reach pick
reach-is b [] = refl
reach-is b (x ∷ l) = by-test (eqb x b) (λ e. rw e refl) (λ e. rw e (omega (arith, reach-is b l)))

-- the place that the search gives, or the length where it finds none
pub found : (b : ℕ) (l : List ℕ) (o : Option ℕ) → o ≡ cond (ltb (position_or_len (λ x. eqb x b) l) (length l)) (Some (position_or_len (λ x. eqb x b) l)) None → unwrap_or o (length l) ≡ reach b l
found b l o e =
    by-test (ltb (reach b l) (length l))
    (λ t. rw (e, reach-is b l, t) refl)
    (λ f. rw (e, reach-is b l, f) (omega (arith, reach-most b l, ltb-false (reach b l) (length l) f)))
