-- From the contract of the asking to demand 2: the ranked paths of `timing` are a list of all paths in the stated order, no other list is, and its rows are
-- the rows of the room.
-- Assumes nothing.
use Rattle.std.specs.Prelude.{◌≡◌, ◌≢◌, ◌↔◌, List, ℕ, min, length, take, ℤ}
use Rattle.std.proofs.Common.{ap, ◌∙◌, length-take}
use Rattle.lists.specs.Parts.{each}
use Rattle.lists.specs.Laws.Member.{In, Pairs}
use Rattle.lists.proofs.Laws.Member.{pairs-map, in_take, each-cong, length-each}
use Rattle.lists.proofs.Laws.Once.{pairs-members}
use Rattle.lists.proofs.Laws.Ranking.{perm_in, one-order}
use Rattle.timing.specs.Structure.{Structure, Times}
use Rattle.timing.specs.Paths.{Path}
use Rattle.timing.specs.Slack.{Mode, ranked}
use Rattle.timing.specs.Rows.{row, first_paths, rows}
use Rattle.timing.specs.Laws.Sound.{Sound}
use Rattle.timing.specs.Laws.Ranged.{Ranged}
use Rattle.timing.specs.Laws.Order.{Ahead as AheadBy}
use Rattle.timing.proofs.Laws.Order.{ranked-order, ranked-all, ranked-paths}
use Rattle.demands.specs.Definitions.{IsPath, Ahead, AllPaths, ByDefinition, row_of}
use Rattle.demands.proofs.Laws.Runs.{in_all}
use Rattle.demands.proofs.Laws.Slacks.{by-definition}
use Rattle.demands.proofs.Laws.Ordered.{strict-total, ahead-asym}

module _ (m : Mode) (s : Structure) (x : Times) (ok : Sound s) (r : Ranged s x) (credit_of slack_of : Path → ℤ) (d : ByDefinition m s x credit_of slack_of) where
  ranked-in : (p : Path) → In p (ranked m s x) ↔ IsPath s p
  ranked-in p = (λ i. (in_all s ok p).0 (ranked-paths m s x p i), λ h. perm_in p (ranked-all m s x) ((in_all s ok p).1 h))

  as-ahead : (p q : Path) → In p (ranked m s x) → In q (ranked m s x) → AheadBy m s x p q → Ahead slack_of p q
  as-ahead p q i j h =
      let sp = (by-definition s ok x r m credit_of slack_of d p ((ranked-in p).0 i)).1 in
      let sq = (by-definition s ok x r m credit_of slack_of d q ((ranked-in q).0 j)).1 in
      rw (sp, sq) h

  order : Pairs (Ahead slack_of) (ranked m s x)
  order = pairs-members (AheadBy m s x) (Ahead slack_of) (ranked m s x) as-ahead (ranked-order m s x)

  -- there is a list of all paths in the stated order
  pub ranked-listed : AllPaths s slack_of (ranked m s x)
  ranked-listed =
      record {
        exactly = ranked-in;
        once = pairs-map (Ahead slack_of) (λ (p q : Path). p ≢ q) apart (ranked m s x) order;
        in_order = order;
      }
    where
      apart : (p q : Path) → Ahead slack_of p q → p ≢ q
      apart p q h e = (strict-total s ok slack_of).not_itself q (rw e at h)

  -- and no other
  pub listed-only : (l : List Path) → AllPaths s slack_of l → l ≡ ranked m s x
  listed-only l h =
      one-order (Ahead slack_of) (ahead-asym s ok slack_of) l (ranked m s x) h.in_order order
      (λ p i. (ranked-in p).1 ((h.exactly p).0 i)) (λ p i. (h.exactly p).1 ((ranked-in p).0 i))

  module _ (k : ℕ) where
    row_is : (p : Path) → In p (first_paths m s x k) → row m s x p ≡ row_of s credit_of slack_of p
    unfolding row row_of first_paths
    row_is p i =
        let e = by-definition s ok x r m credit_of slack_of d p ((ranked-in p).0 (in_take p k (ranked m s x) i)) in
        rw (e.0, e.1)

    -- the rows are those of the first k of such a list
    pub rows_are : (l : List Path) → AllPaths s slack_of l → rows m s x k ≡ each (row_of s credit_of slack_of) (take k l)
    unfolding rows first_paths
    rows_are l h = rw (listed-only l h) (each-cong (row m s x) (row_of s credit_of slack_of) (take k (ranked m s x)) row_is)

    -- as many as there are, or k
    pub rows-many : (l : List Path) → AllPaths s slack_of l → length (rows m s x k) ≡ min k (length l)
    rows-many l h = ap length (rows_are l h) ∙ length-each (row_of s credit_of slack_of) (take k l) ∙ length-take k l
