-- What the reader's own functions answer, and the numbers that they write.
-- Assumes nothing.
use Rattle.std.specs.Prelude.{◌≡◌, ℕ, ◌+◌, List, ◌∷◌, ◌++◌, length, slice_index, nat_lt, Result, Ok, Err}
use Rattle.std.proofs.Common.{sym, ◌∙◌}
use Rattle.std.proofs.Math.Option.{Option, none, some}
use Rattle.lists.specs.Choice.{Ground, ground, first_met}
use Rattle.lists.specs.Parts.{below, gather}
use Rattle.timing.specs.declared.Design.{Design}
use Rattle.timing.specs.declared.Refusal.{Refusal}
use Rattle.timing.specs.declared.Refusal.TheVariants.{TextLong}
use Rattle.timing.specs.declared.Reading.{Reading}
use Rattle.timing.specs.Limits.{most_text}
use Rattle.timing.specs.Field.{Bytes, mode_in}
use Rattle.timing.specs.Line.{field_of, number_in, design_line, four_of}
use Rattle.timing.specs.Text.{line_of, pins_of, arcs_of, tests_of, lines_due, ask_number, due_line, line_grounds, due_grounds, ask_grounds, due_of, mode_at, k_at, reading, room_filled}
use Rattle.reader.specs.declared.Asked.{Asked}
use Rattle.reader.specs.declared.Taken.{Taken}
use Rattle.reader.specs.declared.Survey.{Survey}
use Rattle.reader.specs.Cut.{start_of}
use Rattle.reader.specs.Scan.{due_in}

-- the refusal, if there is one, else v
abbrev pub told : {A : Type 0} → Option Refusal → A → Result A Refusal
told none v = Ok v
told (some r) v = Err r

-- the sizes that the numbers of the first line are
abbrev pub sizes_of : List ℕ → Design
sizes_of vs = record { pins = slice_index vs 0; arcs = slice_index vs 1; tests = slice_index vs 2 }

-- what an `ask` line says
abbrev pub asked_in : Bytes → Asked
asked_in l = record { mode = mode_in (field_of l 1); k = number_in l 2 }

-- what is asked, if the line `ask`, if there is one, is line n
abbrev pub asked_at : Bytes → ℕ → Asked
asked_at x n = record { mode = mode_at x n; k = k_at x n }

-- the grounds of the line due at i, in a design of p pins and a arcs
unfoldable pub due_at : Bytes → ℕ → ℕ → ℕ → List (Ground Refusal)
due_at x p a i = line_grounds x (2 + i) (due_line p a i)

-- the line due at i has no fault; its numbers, and the place of the next line
pub record DueTo (x : Bytes) (p a i : ℕ) (d : Taken (List ℕ)) : Type 0 where
  pub clean : first_met (due_at x p a i) ≡ none
  pub behind : d.next ≡ start_of 10 x (i + 2)
  pub says : due_in p i d.value ≡ due_of p i (line_of x (2 + i))

-- the refusals of a text but the room's
unfoldable pub survey_grounds : Bytes → List (Ground Refusal)
survey_grounds x =
    ground (nat_lt most_text (length x)) TextLong
    ∷ (line_grounds x 1 design_line
    ++ (gather (due_grounds x) (below (lines_due x))
    ++ ask_grounds x (ask_number x)))

-- what the first pass finds in a text without those
abbrev pub found_in : Bytes → Survey
found_in x =
    record {
      design = record { pins = pins_of x; arcs = arcs_of x; tests = tests_of x };
      asked = asked_at x (ask_number x);
    }

unfoldable pub survey_of : Bytes → Result Survey Refusal
survey_of x = told (first_met (survey_grounds x)) (found_in x)

-- the sizes are those that the first line tells
pub record Sizes (x : Bytes) (d : Design) : Type 0 where
  pub pins-are : d.pins ≡ pins_of x
  pub arcs-are : d.arcs ≡ arcs_of x
  pub tests-are : d.tests ≡ tests_of x

-- a text of these sizes without a fault, but perhaps the room's
pub record Clean (x : Bytes) (d : Design) : Type 0 where
  pub fine : first_met (survey_grounds x) ≡ none
  pub sizes : Sizes x d

-- the numbers of the line due at i, of which the first p are pins
abbrev pub due_numbers : Bytes → ℕ → ℕ → List ℕ
due_numbers x p i = due_of p i (line_of x (2 + i))

-- the numbers of the first line and of the first n lines due
unfoldable pub table_to : Bytes → ℕ → ℕ → List ℕ
table_to x p n = four_of (line_of x 1) ++ gather (due_numbers x p) (below n)

-- the contract of `read` decides the reading and the room
pub read-decides : (x : Bytes) (room : List ℕ) (r s : Result Reading Refusal) (u v : List ℕ) → (r ≡ reading x (length room)) × (u ≡ room_filled x room)
    → (s ≡ reading x (length room)) × (v ≡ room_filled x room) → (r ≡ s) × (u ≡ v)
read-decides x room r s u v e f = (e.0 ∙ sym f.0, e.1 ∙ sym f.1)
