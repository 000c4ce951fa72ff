-- Closed examples, by computation: the ends of the number types, and rooms that no asking leaves.
-- Assumes nothing.
use Rattle.std.specs.Prelude.{◌≡◌, refl, ℕ, [], ◌∷◌, pos, negsuc, Result, Ok, Err}
use Rattle.lists.specs.Choice.{pick}
use Rattle.lists.specs.Parts.{below, each, gather}
use Rattle.timing.specs.declared.Answer.{Answer}
use Rattle.timing.specs.declared.Refusal.{Refusal}
use Rattle.timing.specs.declared.Refusal.TheVariants.{ArcsInto}
use Rattle.timing.specs.Field.{bytes}
use Rattle.timing.specs.Printed.{digits_by, digits, tab, printed_line, row_arcs, row_numbers, row_lines, refused_line, printed_answer}
use Rattle.printing.specs.Room.{room_rows, printed_room}

-- an answer of so many rows and so many paths
abbrev given : ℕ → ℕ → Result Answer Refusal
given rows total = Ok (record { rows = rows; total = total })

pub record Cases : Type 0 where
  pub none : digits (pos 0) ≡ bytes "0"
  pub greatest : digits (pos 18446744073709551615) ≡ bytes "18446744073709551615"
  pub least : digits (negsuc 9223372036854775807) ≡ bytes "-9223372036854775808"
  -- a row of a design of two pins, with one arc
  pub row : printed_room (given 1 5) 2 (negsuc 4 ∷ pos 30 ∷ pos 0 ∷ pos 2 ∷ pos 1 ∷ pos 6 ∷ pos 0 ∷ []) ≡ bytes "path\t1\t-5\t30\t0\t2\t6\nend\t1\t5\n"
  -- two rows of a design of one pin, one behind the other
  pub two : printed_room (given 2 2) 1 (pos 1 ∷ pos 2 ∷ pos 3 ∷ pos 4 ∷ pos 1 ∷ pos 6 ∷ pos 7 ∷ pos 8 ∷ pos 9 ∷ pos 10 ∷ pos 0 ∷ pos 0 ∷ [])
      ≡ bytes "path\t1\t1\t2\t3\t4\t6\npath\t2\t7\t8\t9\t10\nend\t2\t2\n"
  -- an arc count below zero says none, one too large says all that are there
  pub below-zero : printed_room (given 1 1) 1 (pos 1 ∷ pos 2 ∷ pos 3 ∷ pos 4 ∷ negsuc 0 ∷ pos 6 ∷ []) ≡ bytes "path\t1\t1\t2\t3\t4\nend\t1\t1\n"
  pub too_large : printed_room (given 1 1) 1 (pos 1 ∷ pos 2 ∷ pos 3 ∷ pos 4 ∷ pos 9 ∷ pos 6 ∷ []) ≡ bytes "path\t1\t1\t2\t3\t4\t6\nend\t1\t1\n"
  -- a room that ends before its rows
  pub short : printed_room (given 2 2) 1 (pos 7 ∷ []) ≡ bytes "path\t1\t7\npath\t2\nend\t2\t2\n"
  -- a refusal looks at no room
  pub refusal : printed_room (Err (ArcsInto 3)) 1 (pos 7 ∷ []) ≡ bytes "refused\t12\t3\n"

pub examples-hold : Cases
unfolding pick below each gather digits_by digits tab printed_line row_arcs row_numbers row_lines refused_line printed_answer room_rows printed_room
examples-hold = record { none = refl; greatest = refl; least = refl; row = refl; two = refl; below-zero = refl; too_large = refl; short = refl; refusal = refl }
