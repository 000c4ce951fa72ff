-- `winners::find_test` meets its contract: a test is left out where its bound is not below the limit.
-- Assumes nothing.
use Rattle.std.proofs.Common.{◌≡◌, false, ◌∙◌, w64, rules}
use Rattle.std.proofs.lemmas.Int.{to_z-of_z}
use Rattle.std.specs.Int.Signed.{lt_z}
use Rattle.lists.proofs.Laws.Integer.{not-less-within}
use Rattle.laying.specs.Bounds.{slack_of}
use Rattle.winners.proofs.Signs.{least}
use Rattle.winners.specs.Finding.{hint_at}
use Rattle.winners.specs.Laws.Finding.{searching-skip}
use Rattle.winners.proofs.find_test.Goals as goal

pub returns-else-first-limit : goal.returns-else-first-limit
returns-else-first-limit c =
    let hint = to_z-of_z w64 c.of.result (record { sfits = c.of.type_inv }) ∙ c.of.ensures in
    let limit = to_z-of_z w64 c.limit-limit.result (record { sfits = c.limit-limit.type_inv }) in
    let first = to_z-of_z w64 c.slack_of-first.result (record { sfits = c.slack_of-first.type_inv }) in
    let old = to_z-of_z w64 c.args.found.now.out (search rules) in
    let out = to_z-of_z w64 c.min-found.result (record { sfits = c.min-found.type_inv }) in
    let above : lt_z (slack_of c.args.table.now c.args.mode c.args.j c.args.bound) c.limit-limit.result ≡ false =
    rw (first, limit, c.slack_of-first.ensures) at c.if-first-limit.false in
    let both = least _ _ _ (out ∙ (rw (old, first, c.slack_of-first.ensures) at c.min-found.ensures.value)) in
    searching-skip _ _ _ (hint_at c.args.hints) _ _ _ _ _ c.requires (rw hint at c.limit-limit.ensures)
    (not-less-within (slack_of c.args.table.now c.args.mode c.args.j c.args.bound) c.limit-limit.result above) _ both.0 both.1
