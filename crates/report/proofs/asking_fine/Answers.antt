-- `report::asking_fine` meets its contract: each return is one stage of `Order`, on the earlier ones. Assumes nothing.
use Rattle.std.proofs.Common.{◌≡◌, sym, ◌∙◌, false}
use Rattle.std.proofs.lemmas.Result.{err_from_is_err_and}
use Rattle.timing.specs.Table.{pin_count}
use Rattle.timing.specs.Asked.{asking_bad, room_bad}
use Rattle.timing.proofs.Laws.Accepted.{accepted}
use Rattle.report.proofs.Order.{found_none, found_some, few-rows, refuse-table, refuse-14, refuse-15, past-15}
use Rattle.report.proofs.asking_fine.Goals as goal

pub returns-in_err-check : goal.returns-in_err-check
returns-in_err-check c =
    let p = err_from_is_err_and c.from_residual.result c.from_residual.ensures.1 in
    rw (p.1, p.2) (sym (refuse-table _ _ _ _ _ _ (found_some _ _ c.in_err-check.ensures)))

pub returns-then-asking_bad : goal.returns-then-asking_bad
returns-then-asking_bad c = sym (refuse-14 _ _ _ _ _ (found_none _ c.in_ok-check.ensures) (sym c.asking_bad.ensures ∙ c.if-asking_bad.true))

pub room_bad-requires : goal.room_bad-requires
room_bad-requires c =
    let fine = found_none _ c.in_ok-check.ensures in
    let past : asking_bad c.args.mode c.args.k ≡ false = sym c.asking_bad.ensures ∙ c.if-asking_bad.false in
    (rw c.pin_count.ensures (accepted _ fine).header.few-pins, few-rows c.args.mode c.args.k past)

pub returns-then-room_bad : goal.returns-then-room_bad
returns-then-room_bad c =
    let room : c.room_bad.result ≡ room_bad (pin_count c.args.table.now) c.args.k c.args.room c.args.work = rw c.pin_count.ensures at c.room_bad.ensures in
    let past : asking_bad c.args.mode c.args.k ≡ false = sym c.asking_bad.ensures ∙ c.if-asking_bad.false in
    sym (refuse-15 _ _ _ _ _ (found_none _ c.in_ok-check.ensures) past (sym room ∙ c.if-room_bad.true))

pub returns : goal.returns
returns c =
    let room : c.room_bad.result ≡ room_bad (pin_count c.args.table.now) c.args.k c.args.room c.args.work = rw c.pin_count.ensures at c.room_bad.ensures in
    let past : asking_bad c.args.mode c.args.k ≡ false = sym c.asking_bad.ensures ∙ c.if-asking_bad.false in
    sym (past-15 _ _ _ _ _ (found_none _ c.in_ok-check.ensures) past (sym room ∙ c.if-room_bad.false))
