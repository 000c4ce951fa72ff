-- `report::row_of` meets its contract: start and credit come from the walk that stands in the slot. Assumes nothing.
use Rattle.std.proofs.Common.{◌≡◌, ◌+◌, ◌-◌, ◌∙◌, arith, rules, length, take, drop, get_or}
use mir.Syntax.{w64}
use mir.Val.{SFits}
use Rattle.area.specs.Area.{slot_at}
use Rattle.report.specs.Row.{walk-length}
use Rattle.report.proofs.Numbers.{fits, head_told, lent_room, lent-small, may_ask, may_put, row_is}
use Rattle.report.proofs.row_of.Goals as goal

pub credit_from-credit-requires : goal.credit_from-credit-requires
credit_from-credit-requires c = may_ask _ _ c.args.c c.args.slot c.requires.clocked c.requires.tells _ _ c.test_clock-clock.ensures c.arc_from-start.ensures

pub overflow_cast-head : goal.overflow_cast-head
overflow_cast-head c =
    fits _ (may_put _ _ c.args.c c.args.slot c.requires.clocked c.requires.tells _ _ c.test_clock-clock.ensures c.arc_from-start.ensures _ _ c.credit_from-credit.ensures c.requires.room).fits.credit-fits

pub overflow_cast-head-2 : goal.overflow_cast-head-2
overflow_cast-head-2 c =
    fits _ (may_put _ _ c.args.c c.args.slot c.requires.clocked c.requires.tells _ _ c.test_clock-clock.ensures c.arc_from-start.ensures _ _ c.credit_from-credit.ensures c.requires.room).fits.test_fits

pub put_row-requires-clause-room : goal.put_row-requires-clause-room
put_row-requires-clause-room c =
    let w = c.args.work.now in
    let at = slot_at c.args.slot in
    let p = may_put _ _ c.args.c c.args.slot c.requires.clocked c.requires.tells _ _ c.test_clock-clock.ensures c.arc_from-start.ensures _ _ c.credit_from-credit.ensures c.requires.room in
    lent_room w (at + 1) _ (get_or w at 0) (omega arith) p.walk.inside _ p.room

pub put_row-requires-clause-small : goal.put_row-requires-clause-small
put_row-requires-clause-small c =
    let w = c.args.work.now in
    let at = slot_at c.args.slot in
    let p = may_put _ _ c.args.c c.args.slot c.requires.clocked c.requires.tells _ _ c.test_clock-clock.ensures c.arc_from-start.ensures _ _ c.credit_from-credit.ensures c.requires.room in
    lent-small w (at + 1) _ (get_or w at 0) (omega arith) p.walk.inside p.walk.small

pub returns : goal.returns
returns c =
    let w = c.args.work.now in
    let at = slot_at c.args.slot in
    let n = get_or w at 0 in
    let m = at + 1 + n - (at + 1) in
    let p = may_put _ _ c.args.c c.args.slot c.requires.clocked c.requires.tells _ _ c.test_clock-clock.ensures c.arc_from-start.ensures _ _ c.credit_from-credit.ensures c.requires.room in
    let cut : m ≡ n = omega arith in
    let own : SFits w64 c.args.c.slack = search rules in
    let long : length (take m (drop (at + 1) w)) ≡ n = rw cut (walk-length w (at + 1) n p.walk.inside) in
    head_told c.args.c.slack _ _ _ _ _ _ _ own p.fits long c.put_row.ensures
    ∙ row_is _ _ c.args.c c.args.slot c.requires.clocked c.requires.tells _ _ c.test_clock-clock.ensures c.arc_from-start.ensures _ _ c.credit_from-credit.ensures c.requires.room m cut
