-- Reading and asking together: what `toppaths` prints is a function of the text alone, `Printed.printed`.
--
-- The contract of `toppaths::answer` is that its bytes are `printed` of the text. Here it is said what these are, over whatever the contracts of reading and
-- asking allow and whatever the memory held that was lent to them: "It prints for each row `path`, rank, slack, credit, test, start and the arcs from the
-- start; then `end`, rows and total; tabs between. On a refusal it prints one line only: `refused`, number, place, with tabs between."
-- Assumes nothing.
use Rattle.std.specs.Prelude.{◌≡◌, List, [], ◌∷◌, ◌++◌, ℕ, take, ℤ, pos, Result, Ok, Err}
use Rattle.timing.specs.declared.Refusal.{Refusal}
use Rattle.timing.specs.declared.Reading.{Reading}
use Rattle.timing.specs.declared.Answer.{Answer}
use Rattle.timing.specs.Table.{Table, pin_count}
use Rattle.timing.specs.Rows.{row_length}
use Rattle.timing.specs.Refusals.{number_of, place_of}
use Rattle.timing.specs.Field.{Bytes, bytes}
use Rattle.timing.specs.Printed.{printed_line, row_lines, printed}
use Rattle.timing.specs.Allows.{AskAllows}
use Rattle.printing.specs.Room.{room_rows}

-- one line: `refused`, number, place
abbrev pub RefusalPrinted : Bytes → Refusal → Type 0
RefusalPrinted out q = out ≡ printed_line (bytes "refused") (pos (number_of q) ∷ pos (place_of q) ∷ [])

-- what is printed for the answer r to an asking over table t that left the room room'
pub record AnswerPrinted (out : Bytes) (t : Table) (r : Result Answer Refusal) (room' : List ℤ) : Type 0 where
  pub refused : (q : Refusal) → r ≡ Err q → RefusalPrinted out q
  pub given : (a : Answer) → r ≡ Ok a
      → out ≡ row_lines 1 (room_rows a.rows (row_length (pin_count t)) room') ++ printed_line (bytes "end") (pos a.rows ∷ pos a.total ∷ [])

-- what is printed for a text that was read as r into the room table', with room and work area for the asking
pub record TextPrinted (x : Bytes) (r : Result Reading Refusal) (table' : List ℕ) (room : List ℤ) (work : List ℕ) : Type 0 where
  pub refused : (q : Refusal) → r ≡ Err q → RefusalPrinted (printed x) q
  pub asked : (c : Reading) → r ≡ Ok c → (b : Result Answer Refusal) (room' : List ℤ) (work' : List ℕ)
      → AskAllows (take c.length table') c.mode c.k room work b room' work' → AnswerPrinted (printed x) (take c.length table') b room'
