-- `Out::answer` meets its contract. The lines of the rows and the last line, or a refusal's line.
-- Assumes nothing.
use Rattle.std.proofs.Common.{[], ◌∷◌, pos, arith}
use Rattle.timing.specs.Field.{bytes}
use Rattle.timing.specs.Rows.{row_length}
use Rattle.timing.specs.Printed.{printed_line, row_lines, refused_line, printed_answer}
use Rattle.printing.specs.Room.{room_rows, printed_room}
use Rattle.printing.proofs.Putting.{puts-join}
use Rattle.printing.proofs.Out.answer.Goals as goal

pub returns-in-Ok : goal.returns-in-Ok
unfolding printed_room printed_answer
returns-in-Ok c =
    let a = c.in-Ok.field-0 in
    rw c.in-Ok.is
    (puts-join (row_lines 1 (room_rows a.rows (row_length c.args.pins) c.args.room.now)) (printed_line (bytes "end") (pos a.rows ∷ pos a.total ∷ [])) _ _ _ (omega arith)
    c.rows.ensures
    c.pair.ensures)

pub returns-in-Err : goal.returns-in-Err
unfolding printed_room printed_answer refused_line
returns-in-Err c = rw c.in-Err.is (rw (c.from.ensures, c.number.ensures, c.place.ensures) at c.pair-in-Err.ensures)
