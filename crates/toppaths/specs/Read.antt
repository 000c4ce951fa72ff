-- A text that is read or refused, as the program meets it: what it may lend to the asking, and what it prints.
-- Assumes nothing.
use Rattle.std.specs.Prelude.{ℕ, ◌≤◌, ◌≡◌, refl, List, [], length, take, ltb, ℤ, Result, Ok, Err}
use Rattle.std.proofs.Math.Option.{Option, none, some}
use Rattle.std.proofs.Common.{arith, ltb-false}
use Rattle.lists.specs.Parts.{gather, below}
use Rattle.lists.proofs.Laws.Unmet.{unmet-none, unmet-first, unmet-rest, unmet-right}
use Rattle.lists.proofs.Laws.Write.{written-front}
use Rattle.timing.specs.declared.Refusal.{Refusal}
use Rattle.timing.specs.declared.Refusal.TheVariants.{TableRoom}
use Rattle.timing.specs.declared.Reading.{Reading}
use Rattle.timing.specs.declared.Answer.{Answer}
use Rattle.timing.specs.Limits.{work_length}
use Rattle.timing.specs.Table.{Table, pin_count}
use Rattle.timing.specs.Asked.{answer, room_after}
use Rattle.timing.specs.Field.{Bytes}
use Rattle.timing.specs.Line.{design_line}
use Rattle.timing.specs.Text.{table_length, table_of, mode_asked, k_asked, text_fault, text_grounds, line_grounds, due_grounds, ask_grounds, ask_number, lines_due, reading_of, reading, filled_of, room_filled}
use Rattle.timing.specs.Printed.{table_room, row_room, printed_answer, printed_table, printed_reading, printed}
use Rattle.timing.proofs.Laws.Lines.{table-length}
use Rattle.printing.specs.Room.{printed_room}
use Rattle.printing.proofs.Asking.{printed-room}

-- a text that is not refused leaves room for its table
pub fits : (x : Bytes) (room : ℕ) → text_fault x room ≡ none → table_length x ≤ room
unfolding text_fault text_grounds
fits x room h =
    let u = unmet-rest ((unmet-none (text_grounds x room)).0 h) in
    let v = unmet-right (line_grounds x 1 design_line) _ u in
    let w = unmet-right (gather (due_grounds x) (below (lines_due x))) _ v in
    ltb-false room (table_length x) (unmet-first (ltb room (table_length x)) TableRoom [] (unmet-right (ask_grounds x (ask_number x)) _ w))

-- what a reading that is no refusal tells
pub record ReadAs (x : Bytes) (room : ℕ) (r : Reading) : Type 0 where
  fine : text_fault x room ≡ none
  is : r ≡ record { length = table_length x; mode = mode_asked x; k = k_asked x }

read-as-of : (x : Bytes) (room : ℕ) (r : Reading) (f : Option Refusal) → text_fault x room ≡ f → Ok r ≡ reading_of f x → ReadAs x room r
unfolding reading_of
read-as-of x room r none e h = record { fine = e; is = cc }
read-as-of x room r (some q) e h = cc

pub read_as : (x : Bytes) (room : ℕ) (r : Reading) → Ok r ≡ reading x room → ReadAs x room r
unfolding reading
read_as x room r h = read-as-of x room r (text_fault x room) refl h

-- the length that is lent to the asking
pub read_fits : (x : Bytes) (room : ℕ) (r : Reading) → Ok r ≡ reading x room → r.length ≤ room
read_fits x room r h = let a = read_as x room r h in rw a.is (fits x room a.fine)

-- the table stands in it
pub read_table : (x : Bytes) (room : List ℕ) (r : Reading) → Ok r ≡ reading x (length room) → take r.length (room_filled x room) ≡ table_of x
unfolding room_filled filled_of
read_table x room r h =
    let a = read_as x (length room) r h in
    rw (a.fine, a.is, ← (table-length x)) (written-front (table_of x) room)

-- what the program prints of a text that is read
pub read-printed : (x : Bytes) (r : Reading) → Ok r ≡ reading x table_room → printed_table (table_of x) r.mode r.k ≡ printed x
unfolding printed printed_reading
read-printed x r h = rw (← h) refl

-- and of one that is refused
pub refused-printed : (x : Bytes) (r : Refusal) (pins : ℕ) (room : List ℤ) → Err r ≡ reading x table_room → printed_room (Err r) pins room ≡ printed x
unfolding printed printed_reading printed_room printed_answer
refused-printed x r pins room h = rw (← h) refl

-- what the program prints of a table: the answer and the rows in the room that it lends
pub asked-printed : (t : Table) (mode k : ℕ) (room : List ℤ) (work : List ℕ) (a : Result Answer Refusal) (after : List ℤ) (pins : ℕ)
    → length room ≡ row_room → length work ≡ work_length → a ≡ answer t mode k (length room) (length work)
    → after ≡ room_after t mode k room (length work) → pins ≡ pin_count t → printed_room a pins after ≡ printed_table t mode k
asked-printed t mode k room work a after pins l w ea er ep = rw (ea, er, ep, l, w) (printed-room t mode k room l)
