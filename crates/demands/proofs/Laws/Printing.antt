-- What the program prints, from the contracts of reading and asking: the table that was read is lent on, and the rows printed are those of the room.
-- Assumes nothing.
use Rattle.std.specs.Prelude.{◌≡◌, List, ℕ, length, take, ℤ, Result, Ok, Err}
use Rattle.std.proofs.Common.{sym, ap, ◌∙◌}
use Rattle.std.proofs.Math.Option.{none}
use Rattle.lists.proofs.Laws.Write.{written-front}
use Rattle.timing.specs.declared.Refusal.{Refusal}
use Rattle.timing.specs.declared.Reading.{Reading}
use Rattle.timing.specs.declared.Answer.{Answer}
use Rattle.timing.specs.Limits.{work_length}
use Rattle.timing.specs.Table.{pin_count}
use Rattle.timing.specs.Field.{Bytes}
use Rattle.timing.specs.Text.{table_length, table_of, text_fault, reading_of, reading, filled_of, room_filled}
use Rattle.timing.specs.Printed.{refused_line, table_room, row_room, printed_table, printed_reading, printed}
use Rattle.timing.specs.Allows.{ReadAllows, AskAllows}
use Rattle.timing.proofs.Laws.Lines.{table-length}
use Rattle.printing.specs.Room.{printed_room}
use Rattle.printing.proofs.Asking.{printed-room}
use Rattle.demands.proofs.Laws.Refused.{reading-outcome}

module _ (x : Bytes) (table : List ℕ) (l : length table ≡ table_room) (r : Result Reading Refusal) (table' : List ℕ) (a : ReadAllows x table r table') where
  told : r ≡ reading x table_room
  told = a.0 ∙ ap (reading x) l

  -- a text that is refused
  pub refused-printed : (q : Refusal) → r ≡ Err q → printed x ≡ refused_line q
  unfolding printed printed_reading
  refused-printed q e = rw (sym told ∙ e)

  module _ (c : Reading) (e : r ≡ Ok c) where
    fine : text_fault x (length table) ≡ none
    fine = (reading-outcome x table r table' a).accepts.1 (c, e)

    read_length : c.length ≡ table_length x
    unfolding reading reading_of
    read_length = let b = rw fine at a.0 in cc

    -- the table that was read stands at the front of the room
    pub read_table : take c.length table' ≡ table_of x
    unfolding room_filled filled_of
    read_table = rw (a.1, fine, read_length, ← (table-length x)) (written-front (table_of x) table)

    pub read-printed : printed x ≡ printed_table (table_of x) c.mode c.k
    unfolding printed printed_reading
    read-printed = rw (sym told ∙ e)

    -- what is printed of the answer and the room
    pub asked-printed : (room : List ℤ) (work : List ℕ) → length room ≡ row_room → length work ≡ work_length → (b : Result Answer Refusal) (room' : List ℤ) (work' : List ℕ)
        → AskAllows (take c.length table') c.mode c.k room work b room' work' → printed x ≡ printed_room b (pin_count (take c.length table')) room'
    asked-printed room work lr lw b room' work' h =
        read-printed ∙ rw (h.0, h.1, read_table, lr, lw) (sym (printed-room (table_of x) c.mode c.k room lr))
