-- `Out::rows` meets its contract. The loop's invariant: the lines of so many rows have been put, and the rest of the room is behind those rows.
use Rattle.std.proofs.Common.{◌≡◌, ◌*◌, drop}
use Rattle.timing.specs.Rows.{row_length}
use Rattle.timing.specs.Printed.{row_lines}
use Rattle.printing.specs.Room.{room_rows}
use Rattle.printing.specs.Out.{Puts}
use Rattle.printing.proofs.Out.rows.Given as goal

abbrev pub invariant-loop-rank : goal.invariant-loop-rank
invariant-loop-rank l = record {
  so_far : Puts (row_lines 1 (room_rows l.rank (row_length l.pins) l.room)) l.initial.self l.self;
  begins : l.rest ≡ drop (l.rank * row_length l.pins) l.room;
}
