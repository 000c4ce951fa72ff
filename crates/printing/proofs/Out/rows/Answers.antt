-- `Out::rows` meets its contract. The next row is cut off the front of what is left of the room.
-- Assumes nothing.
use Rattle.std.proofs.Common.{◌≡◌, ◌*◌, ◌+◌, ◌≤◌, ap, ◌∙◌, length, take, drop, arith, zero-mul}
use Rattle.lists.specs.Parts.{below, each}
use Rattle.timing.specs.Field.{bytes}
use Rattle.timing.specs.Rows.{row_length}
use Rattle.timing.specs.Printed.{printed_line, row_numbers, row_lines}
use Rattle.printing.specs.Room.{room_rows}
use Rattle.printing.specs.Put.{most}
use Rattle.printing.proofs.Rows.{cut_front, cut_behind, next_row, lines_more}
use Rattle.printing.proofs.Putting.{puts-none, puts-join}
use Rattle.printing.proofs.Out.rows.Goals as goal

pub loop-rank-init : goal.loop-rank-init
unfolding row_lines room_rows below each
loop-rank-init c = record { so_far = puts-none _ (omega arith); begins = rw zero-mul }

pub loop-rank-preserved : goal.loop-rank-preserved
loop-rank-preserved c =
    let room = c.args.room.now in
    let w = row_length c.args.pins in
    let k = c.loop-rank.rank in
    let left = c.loop-rank.rest.now in
    let begins = c.loop-rank.invariant.begins in
    let short : length left ≤ most = omega arith in
    let front : c.split_at.result.0.now ≡ take w (drop (k * w) room) =
    c.split_at.ensures.front ∙ cut_front left w _ _ short c.saturating_add-size.ensures c.min.ensures ∙ ap (take w) begins in
    record {
      so_far =
          rw (lines_more k w room)
          (puts-join (row_lines 1 (room_rows k w room)) (printed_line (bytes "path") (row_numbers (k + 1) (take w (drop (k * w) room)))) _ _ _ (omega arith)
          c.loop-rank.invariant.so_far
          (rw front at c.row.ensures));
      begins =
          c.split_at.ensures.back ∙ cut_behind left w _ _ short c.saturating_add-size.ensures c.min.ensures ∙ ap (drop w) begins ∙ next_row room k w;
    }
