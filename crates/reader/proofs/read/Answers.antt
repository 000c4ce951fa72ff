-- `reader::read` meets its contract. The first pass, the room, the second pass. Assumes nothing.
use Rattle.std.proofs.Common.{length, refl, ◌∙◌, arith}
use Rattle.std.proofs.lemmas.Result.{err_from_is_err_and}
use Rattle.timing.specs.Text.{reading_of, reading, filled_of, room_filled, mode_asked, k_asked}
use Rattle.reader.proofs.Grounds.{small, survey-clean, survey-refused, fault-early, fault-short, fault-none, length-is, table-stands}
use Rattle.reader.proofs.read.Goals as goal

pub returns-in_err-design : goal.returns-in_err-design
unfolding reading reading_of room_filled filled_of
returns-in_err-design c =
    let p = err_from_is_err_and c.from_residual.result c.from_residual.ensures.1 in
    let e = fault-early _ (length c.args.table.now) _ (survey-refused _ _ c.in_err-design.ensures) in
    (rw (p.1, p.2, e) refl, rw e refl)

pub table_length-length-requires : goal.table_length-length-requires
table_length-length-requires c =
    let s = small _ _ (survey-clean _ _ c.in_ok-design.ensures).0.sizes in
    record { few = (omega (arith, s.0), (omega (arith, s.1.0), omega (arith, s.1.1))) }

pub returns-then-table-length : goal.returns-then-table-length
unfolding reading reading_of room_filled filled_of
returns-then-table-length c =
    let w = survey-clean _ _ c.in_ok-design.ensures in
    let e = fault-short _ _ w.0 (length c.args.table.now) (rw c.table_length-length.ensures at c.if-table-length.true) in
    (rw e refl, rw e refl)

pub fill-requires-clause-clean : goal.fill-requires-clause-clean
fill-requires-clause-clean c = (survey-clean _ _ c.in_ok-design.ensures).0

pub returns : goal.returns
unfolding reading reading_of room_filled filled_of mode_asked k_asked
returns c =
    let w = survey-clean _ _ c.in_ok-design.ensures in
    let e = fault-none _ _ w.0 (length c.args.table.now) (rw c.table_length-length.ensures at c.if-table-length.false) in
    (rw (e, c.table_length-length.ensures, length-is _ _ w.0, w.1) refl, rw e (c.fill.ensures.1 ∙ table-stands _ _ w.0 _ (omega arith)))
