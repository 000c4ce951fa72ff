-- The rows of an answer as they stand in its room, and what is printed of them.
-- Assumes nothing.
use Rattle.std.specs.Prelude.{ℕ, ◌*◌, List, take, drop, ℤ, Result, Ok, Err}
use Rattle.lists.specs.Parts.{below, each}
use Rattle.timing.specs.declared.Answer.{Answer}
use Rattle.timing.specs.declared.Refusal.{Refusal}
use Rattle.timing.specs.Rows.{row_length}
use Rattle.timing.specs.Field.{Bytes}
use Rattle.timing.specs.Printed.{printed_answer}

-- the first n rows of w numbers; where the room ends before they do, what is there of them
unfoldable pub room_rows : ℕ → ℕ → List ℤ → List (List ℤ)
room_rows n w room = each (λ (i : ℕ). take w (drop (i * w) room)) (below n)

-- how many rows an answer gives
abbrev pub rows_given : Result Answer Refusal → ℕ
rows_given (Ok a) = a.rows
rows_given (Err r) = 0

-- what is printed of an answer whose rows stand in the room
unfoldable pub printed_room : Result Answer Refusal → ℕ → List ℤ → Bytes
printed_room a pins room = printed_answer a (room_rows (rows_given a) (row_length pins) room)
