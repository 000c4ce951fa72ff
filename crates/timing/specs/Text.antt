-- The text: "One record a line, fields parted by tabs, each line ended by byte 10." Reading it, and its line n.
--
-- The lines due behind `design` are one sequence: P lines `pin`, A lines `arc`, T lines `test`. Line n of a text is counted from 1.
-- Assumes nothing.
use Rattle.std.specs.Prelude.{ℕ, zero, suc, ◌+◌, ◌-◌, Bool, not, ◌||◌, List, [], ◌∷◌, ◌++◌, length, get_or, eqb, leb, ltb, Result, Ok, Err}
use Rattle.std.proofs.Math.Option.{Option, none, some}
use Rattle.lists.specs.Choice.{pick, Ground, ground, first_met}
use Rattle.lists.specs.Parts.{below, gather, split, written}
use Rattle.timing.specs.declared.Refusal.{Refusal}
use Rattle.timing.specs.declared.Refusal.TheVariants.{TextLong, LineNotDue, TableRoom}
use Rattle.timing.specs.declared.Reading.{Reading}
use Rattle.timing.specs.Limits.{most_text}
use Rattle.timing.specs.Table.{Table, length_for}
use Rattle.timing.specs.Field.{Bytes, arc_word, test_word, mode_in}
use Rattle.timing.specs.Line.{field_of, number_in, design_line, pin_line, four_line, ask_line, four_of, pin_of}

-- ---- lines

-- the parts between the bytes 10: the lines, and behind the last byte 10 what is no whole line
unfoldable pub parts : Bytes → List Bytes
parts x = split 10 x

-- how many lines have their byte 10
unfoldable pub whole : Bytes → ℕ
whole x = length (parts x) - 1

-- "line n, counted from 1, .. without byte 10. Bytes after the last byte 10 count as a line there if there are any. Outside the lines it gives the
-- empty part"
unfoldable pub line_of : Bytes → ℕ → Bytes
line_of x n = get_or ([] ∷ parts x) n []

-- where the bytes behind the first n bytes 10 begin; the end, where there are fewer
unfoldable pub behind : Bytes → ℕ → ℕ
behind [] n = 0
behind (b ∷ x) zero = 0
behind (b ∷ x) (suc n) = suc (behind x (pick (eqb b 10) n (suc n)))

-- where line n begins: "Outside the lines .. at the text's end."
unfoldable pub line_start : Bytes → ℕ → ℕ
line_start x zero = length x
line_start x (suc n) = behind x n

-- bytes stand behind line n - 1
unfoldable pub more : Bytes → ℕ → Bool
more x n = leb n (whole x) || not (eqb (length (line_of x n)) 0)

-- ---- the sizes that the first line tells

unfoldable pub pins_of : Bytes → ℕ
pins_of x = number_in (line_of x 1) 1

unfoldable pub arcs_of : Bytes → ℕ
arcs_of x = number_in (line_of x 1) 2

unfoldable pub tests_of : Bytes → ℕ
tests_of x = number_in (line_of x 1) 3

-- how many lines are due between `design` and `ask`
unfoldable pub lines_due : Bytes → ℕ
lines_due x = pins_of x + arcs_of x + tests_of x

-- the number of the line behind them
unfoldable pub ask_number : Bytes → ℕ
ask_number x = 2 + lines_due x

-- the length of the table
unfoldable pub table_length : Bytes → ℕ
table_length x = length_for (pins_of x) (arcs_of x) (tests_of x)

-- ---- the refusal: "1; then line by line 2, 3, 4; then 5"

-- "P lines `pin` ..; A lines `arc` ..; T lines `test`": the line due at i, counted from 0, in a design of p pins and a arcs
unfoldable pub due_line : ℕ → ℕ → ℕ → Bytes → ℕ → List (Ground Refusal)
due_line p a i l n = pick (ltb i p) (pin_line l n) (pick (ltb i (p + a)) (four_line arc_word l n) (four_line test_word l n))

-- "the line due is absent, has no byte 10", then what is wrong with it
unfoldable pub line_grounds : Bytes → ℕ → (Bytes → ℕ → List (Ground Refusal)) → List (Ground Refusal)
line_grounds x n wrong = ground (ltb (whole x) n) (LineNotDue n) ∷ wrong (line_of x n) n

unfoldable pub due_grounds : Bytes → ℕ → List (Ground Refusal)
due_grounds x i = line_grounds x (2 + i) (due_line (pins_of x) (arcs_of x) i)

-- "then at most one line `ask`"; "or a line follows the last"
unfoldable pub ask_grounds : Bytes → ℕ → List (Ground Refusal)
ask_grounds x n = pick (more x n) (line_grounds x n ask_line ++ (ground (more x (n + 1)) (LineNotDue (n + 1)) ∷ [])) []

unfoldable pub text_grounds : Bytes → ℕ → List (Ground Refusal)
text_grounds x room =
    ground (ltb most_text (length x)) TextLong
    ∷ (line_grounds x 1 design_line
    ++ (gather (due_grounds x) (below (lines_due x))
    ++ (ask_grounds x (ask_number x)
    ++ (ground (ltb room (table_length x)) TableRoom ∷ []))))

-- the refusal of a text, if there is one; room is the length lent for the table
unfoldable pub text_fault : Bytes → ℕ → Option Refusal
text_fault x room = first_met (text_grounds x room)

-- ---- the table, the mode and k

-- the numbers of the line due at i
unfoldable pub due_of : ℕ → ℕ → Bytes → List ℕ
due_of p i l = pick (ltb i p) (pin_of l) (four_of l)

unfoldable pub table_of : Bytes → Table
table_of x = four_of (line_of x 1) ++ gather (λ (i : ℕ). due_of (pins_of x) i (line_of x (2 + i))) (below (lines_due x))

-- "With no `ask` line it is setup and 1.": of the line `ask`, if there is one, at n
unfoldable pub mode_at : Bytes → ℕ → ℕ
mode_at x n = pick (more x n) (mode_in (field_of (line_of x n) 1)) 0

unfoldable pub k_at : Bytes → ℕ → ℕ
k_at x n = pick (more x n) (number_in (line_of x n) 2) 1

unfoldable pub mode_asked : Bytes → ℕ
mode_asked x = mode_at x (ask_number x)

unfoldable pub k_asked : Bytes → ℕ
k_asked x = k_at x (ask_number x)

-- ---- the reading and its memory

-- "An accepted reading returns the table's length, the mode and k."
unfoldable pub reading_of : Option Refusal → Bytes → Result Reading Refusal
reading_of (some r) x = Err r
reading_of none x = Ok (record { length = table_length x; mode = mode_asked x; k = k_asked x })

unfoldable pub reading : Bytes → ℕ → Result Reading Refusal
reading x room = reading_of (text_fault x room) x

-- "every lent buffer stays unwritten", or the table at the front: "Table places beyond the design stay."
unfoldable pub filled_of : Option Refusal → Bytes → List ℕ → List ℕ
filled_of (some r) x room = room
filled_of none x room = written (table_of x) room

unfoldable pub room_filled : Bytes → List ℕ → List ℕ
room_filled x room = filled_of (text_fault x (length room)) x room
