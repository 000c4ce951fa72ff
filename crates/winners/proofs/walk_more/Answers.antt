-- `winners::walk_more` meets its contract.
-- Assumes nothing.
use Rattle.std.proofs.Common.{◌∙◌, w64, rules}
use Rattle.std.proofs.lemmas.Int.{to_z-of_z}
use Rattle.winners.proofs.Signs.{least}
use Rattle.winners.specs.Finding.{hint_at}
use Rattle.winners.specs.Laws.Walked.{tested-still}
use Rattle.winners.specs.Laws.Finding.{searching-more}
use Rattle.winners.proofs.walk_more.Goals as goal

pub slack_at-requires : goal.slack_at-requires
slack_at-requires c =
    tested-still _ _ _ _ c.lay.ensures.walks _ c.walk_test-walked.ensures.1

pub returns : goal.returns
returns c =
    let hint = to_z-of_z w64 c.of.result (record { sfits = c.of.type_inv }) ∙ c.of.ensures in
    let old = to_z-of_z w64 c.args.found.now.out (search rules) in
    let new = to_z-of_z w64 c.slack_at.result (record { sfits = c.slack_at.type_inv }) in
    let out = to_z-of_z w64 c.min-found.result (record { sfits = c.min-found.type_inv }) in
    let both = least _ _ _ (out ∙ (rw (old, new) at c.min-found.ensures.value)) in
    searching-more _ _ _ (hint_at c.args.hints) _ _ _ _ _ _ _ _ c.requires.0 c.lay.ensures (rw hint at c.walk_test-walked.ensures.0) c.walk_test-walked.ensures.1 c.slack_at.ensures _ both.0 both.1
