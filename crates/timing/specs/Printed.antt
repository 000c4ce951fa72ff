-- What `toppaths` prints: a function of the text alone.
-- "It prints for each row `path`, rank, slack, credit, test, start and the arcs from the start; then `end`, rows and total; tabs between. On a refusal
-- it prints one line only: `refused`, number, place, with tabs between."
-- Assumes nothing.
use Rattle.std.specs.Prelude.{ℕ, zero, suc, ◌+◌, ◌*◌, ◌/◌, ◌%◌, List, [], ◌∷◌, ◌++◌, get_or, take, drop, ltb, ℤ, pos, negsuc, Result, Ok, Err}
use Rattle.lists.specs.Choice.{pick}
use Rattle.lists.specs.Parts.{gather}
use Rattle.lists.specs.Laws.Integer.{up}
use Rattle.timing.specs.declared.Refusal.{Refusal}
use Rattle.timing.specs.declared.Reading.{Reading}
use Rattle.timing.specs.declared.Answer.{Answer}
use Rattle.timing.specs.Limits.{most_pins, most_arcs, most_tests, most_k, work_length}
use Rattle.timing.specs.Refusals.{number_of, place_of}
use Rattle.timing.specs.Table.{Table, length_for}
use Rattle.timing.specs.Rows.{row_length}
use Rattle.timing.specs.Asked.{table_rows, answer}
use Rattle.timing.specs.Field.{Bytes, bytes}
use Rattle.timing.specs.Text.{table_of, reading}

-- ---- numbers

-- the digits of a number; n bounds them
unfoldable pub digits_by : ℕ → ℕ → Bytes
digits_by zero x = []
digits_by (suc n) x = pick (ltb x 10) ((48 + x) ∷ []) (digits_by n (x / 10) ++ ((48 + x % 10) ∷ []))

-- 20 are enough for 64 bits
unfoldable pub digits : ℤ → Bytes
digits (pos x) = digits_by 20 x
digits (negsuc x) = 45 ∷ digits_by 20 (x + 1)

-- a tab and a number
unfoldable pub tab : ℤ → Bytes
tab x = 9 ∷ digits x

-- ---- lines

-- a line: its word, its numbers, byte 10
unfoldable pub printed_line : Bytes → List ℤ → Bytes
printed_line word numbers = word ++ (gather tab numbers ++ (10 ∷ []))

-- the arcs of a row: of the places behind the arc count, as many as it says
unfoldable pub row_arcs : List ℤ → List ℤ
row_arcs row = take (up (get_or row 4 (pos 0))) (drop 5 row)

-- the row of rank n: rank, slack, credit, test, start and the arcs
unfoldable pub row_numbers : ℕ → List ℤ → List ℤ
row_numbers n row = pos n ∷ (take 4 row ++ row_arcs row)

-- the rows from rank n on
unfoldable pub row_lines : ℕ → List (List ℤ) → Bytes
row_lines n [] = []
row_lines n (r ∷ rs) = printed_line (bytes "path") (row_numbers n r) ++ row_lines (n + 1) rs

unfoldable pub refused_line : Refusal → Bytes
refused_line r = printed_line (bytes "refused") (pos (number_of r) ∷ pos (place_of r) ∷ [])

-- ---- the answer

-- an answer with its rows
unfoldable pub printed_answer : Result Answer Refusal → List (List ℤ) → Bytes
printed_answer (Err r) rows = refused_line r
printed_answer (Ok a) rows = row_lines 1 rows ++ printed_line (bytes "end") (pos a.rows ∷ pos a.total ∷ [])

-- the room that the program lends for the rows holds the largest answer, 4,176 numbers
abbrev pub row_room : ℕ
row_room = most_k * row_length most_pins

-- and its room for the table the largest table, 5,124 numbers
abbrev pub table_room : ℕ
table_room = length_for most_pins most_arcs most_tests

unfoldable pub printed_table : Table → ℕ → ℕ → Bytes
printed_table t mode k = let rows = table_rows t mode k in printed_answer (answer t mode k row_room work_length) rows

unfoldable pub printed_reading : Result Reading Refusal → Bytes → Bytes
printed_reading (Err r) x = refused_line r
printed_reading (Ok r) x = printed_table (table_of x) r.mode r.k

unfoldable pub printed : Bytes → Bytes
printed x = printed_reading (reading x table_room) x
