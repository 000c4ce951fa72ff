-- A line: its fields, and the refusals 2, 3 and 4 of each kind of line in the order in which they are looked for.
-- Each list of grounds takes the line's bytes, and its number n, which is the place.
-- Assumes nothing.
use Rattle.std.specs.Prelude.{ℕ, Bool, not, ◌&&◌, ◌||◌, List, [], ◌∷◌, length, get_or, eqb, ltb}
use Rattle.lists.specs.Choice.{pick, Ground, ground}
use Rattle.lists.specs.Parts.{split, same}
use Rattle.timing.specs.declared.Refusal.{Refusal}
use Rattle.timing.specs.declared.Refusal.TheVariants.{LineNotDue, FieldCount, FieldForm}
use Rattle.timing.specs.Limits.{most_pins, most_arcs, most_tests}
use Rattle.timing.specs.Kinds.{has_times}
use Rattle.timing.specs.Field.{Bytes, design_word, pin_word, ask_word, is_mode, well_formed, number_or_0, no_kind, letter}

-- ---- "fields parted by tabs"

-- field i, the word being field 0; empty where there is none
unfoldable pub field_of : Bytes → ℕ → Bytes
field_of l i = get_or (split 9 l) i []

unfoldable pub field_count : Bytes → ℕ
field_count l = length (split 9 l)

unfoldable pub is_number : Bytes → ℕ → Bool
is_number l i = well_formed (field_of l i)

unfoldable pub number_in : Bytes → ℕ → ℕ
number_in l i = number_or_0 (field_of l i)

-- "has another word first"
unfoldable pub other_word : Bytes → Bytes → Bool
other_word l word = not (same (field_of l 0) word)

-- fields 1 to 4 are numbers
unfoldable pub four_numbers : Bytes → Bool
four_numbers l = is_number l 1 && is_number l 2 && is_number l 3 && is_number l 4

-- ---- `design` P A T period

-- "on `design`, P, A or T over its limit or P = 0"
abbrev pub sizes_bad : ℕ → ℕ → ℕ → Bool
sizes_bad p a t = eqb p 0 || ltb most_pins p || ltb most_arcs a || ltb most_tests t

unfoldable pub design_line : Bytes → ℕ → List (Ground Refusal)
design_line l n =
    ground (other_word l design_word) (LineNotDue n)
    ∷ ground (not (eqb (field_count l) 5)) (FieldCount n)
    ∷ ground (not (four_numbers l)) (FieldForm n)
    ∷ ground (sizes_bad (number_in l 1) (number_in l 2) (number_in l 3)) (FieldForm n)
    ∷ []

-- ---- `pin` kind, "with early and late for R and I only"

-- how many fields the line has, by its kind
abbrev pub pin_fields : ℕ → ℕ
pin_fields k = pick (has_times k) 4 2

-- the kind that the line's letter names
unfoldable pub line_kind : Bytes → ℕ
line_kind l = letter (field_of l 1)

-- "On a pin line the word alone is 3, then the letter is looked at before the count of fields."
unfoldable pub pin_line : Bytes → ℕ → List (Ground Refusal)
pin_line l n =
    ground (other_word l pin_word) (LineNotDue n)
    ∷ ground (eqb (field_count l) 1) (FieldCount n)
    ∷ ground (eqb (line_kind l) no_kind) (FieldForm n)
    ∷ ground (not (eqb (field_count l) (pin_fields (line_kind l)))) (FieldCount n)
    ∷ ground (has_times (line_kind l) && not (is_number l 2 && is_number l 3)) (FieldForm n)
    ∷ []

-- ---- `arc` from to early late, `test` clock data setup hold

unfoldable pub four_line : Bytes → Bytes → ℕ → List (Ground Refusal)
four_line word l n =
    ground (other_word l word) (LineNotDue n)
    ∷ ground (not (eqb (field_count l) 5)) (FieldCount n)
    ∷ ground (not (four_numbers l)) (FieldForm n)
    ∷ []

-- ---- `ask` with `setup` or `hold` and k

unfoldable pub ask_line : Bytes → ℕ → List (Ground Refusal)
ask_line l n =
    ground (other_word l ask_word) (LineNotDue n)
    ∷ ground (not (eqb (field_count l) 3)) (FieldCount n)
    ∷ ground (not (is_mode (field_of l 1) && is_number l 2)) (FieldForm n)
    ∷ []

-- ---- the numbers of a line, as they stand in the table

unfoldable pub four_of : Bytes → List ℕ
four_of l = number_in l 1 ∷ number_in l 2 ∷ number_in l 3 ∷ number_in l 4 ∷ []

-- "the other kinds hold 0 in both places"
unfoldable pub pin_of : Bytes → List ℕ
pin_of l =
    line_kind l
    ∷ pick (has_times (line_kind l)) (number_in l 2) 0
    ∷ pick (has_times (line_kind l)) (number_in l 3) 0
    ∷ []
