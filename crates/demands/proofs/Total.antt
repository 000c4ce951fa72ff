-- Total: "The number of paths over all tests, or 1,000,000,000 if there are more."
--
-- Of every answered asking, over what it returns: however the paths are listed, each once, the total is how many they are, up to 1,000,000,000.
-- Assumes nothing.
use Rattle.std.specs.Prelude.{◌≡◌, ◌↔◌, List, ℕ, min, length}
use Rattle.std.proofs.Common.{ap, ◌∙◌}
use Rattle.lists.specs.Laws.Member.{In}
use Rattle.lists.specs.Laws.Once.{Once}
use Rattle.lists.proofs.Laws.Once.{once-length}
use Rattle.timing.specs.Table.{Table}
use Rattle.timing.specs.Structure.{structure}
use Rattle.timing.specs.Paths.{Path, paths}
use Rattle.timing.specs.Rows.{total}
use Rattle.timing.proofs.Laws.Accepted.{accepted}
use Rattle.timing.proofs.Laws.Listed.{paths-once}
use Rattle.demands.specs.Definitions.{Answered, IsPath}
use Rattle.demands.proofs.Laws.Granted.{granted}
use Rattle.demands.proofs.Laws.Runs.{in_all}

pub total-paths : (t : Table) (mode k : ℕ) (a : Answered t mode k) (l : List Path) → ((p : Path) → In p l ↔ IsPath (structure t) p) → Once l
    → a.total ≡ min 1000000000 (length l)
unfolding total
total-paths t mode k a l h o =
    let g = granted t mode k a in
    let s = structure t in
    let all = in_all s (accepted t g.checked).sound in
    g.totalled ∙ ap (min 1000000000) (once-length (paths s) l (paths-once s) o (λ p i. (h p).1 ((all p).0 i)) (λ p i. (all p).1 ((h p).0 i)))
