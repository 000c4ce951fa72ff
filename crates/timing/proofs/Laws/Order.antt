-- The order of the rows: `ranked` holds every path once, in the stated order. That no other list does is in the crate `demands`.
-- Assumes nothing.
use Rattle.std.specs.Prelude.{◌≡◌, ℕ, min, length}
use Rattle.std.proofs.Common.{sym, ◌∙◌}
use Rattle.std.proofs.Math.Path.{ap}
use Rattle.std.proofs.Math.ListN.{length-take}
use Rattle.lists.specs.Laws.Member.{In, Pairs}
use Rattle.lists.specs.Laws.Ranking.{Perm}
use Rattle.lists.proofs.Laws.Ranking.{perm_in, perm-back, perm-length, perm-rank, lex-rank, lex-asym}
use Rattle.timing.specs.Structure.{Structure, Times}
use Rattle.timing.specs.Paths.{Path, paths}
use Rattle.timing.specs.Slack.{Mode, slack, ranked}
use Rattle.timing.specs.Rows.{first_paths}
use Rattle.timing.specs.Laws.Listed.{Tie}
use Rattle.timing.proofs.Laws.Listed.{tie-asym, paths-order}
use Rattle.timing.specs.Laws.Order.{Ahead}

module _ (m : Mode) (s : Structure) (x : Times) where
  pub ranked-order : Pairs (Ahead m s x) (ranked m s x)
  unfolding ranked
  ranked-order = lex-rank (slack m s x) Tie (paths s) (paths-order s)

  -- a rearrangement of the paths
  pub ranked-all : Perm (paths s) (ranked m s x)
  unfolding ranked
  ranked-all = perm-rank (slack m s x) (paths s)

  pub ahead-asym : (p q : Path) → Ahead m s x p q → Ahead m s x q p → ⊥
  ahead-asym = lex-asym (slack m s x) Tie tie-asym

  pub first_count : (k : ℕ) → length (first_paths m s x k) ≡ min k (length (paths s))
  unfolding first_paths
  first_count k = length-take k (ranked m s x) ∙ ap (min k) (sym (perm-length ranked-all))

  -- what is ranked is a path
  pub ranked-paths : (p : Path) → In p (ranked m s x) → In p (paths s)
  ranked-paths p i = perm_in p (perm-back ranked-all) i
