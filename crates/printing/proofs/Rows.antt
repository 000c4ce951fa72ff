-- The rows of a room, one after the other: what is cut off the front of what is left, in a room that may end before its rows.
-- Assumes nothing.
use Rattle.std.specs.Prelude.{ℕ, ◌+◌, ◌*◌, ◌≤◌, min, ◌≡◌, List, ◌++◌, length, take, drop, ℤ}
use Rattle.std.proofs.Common.{sym, ap, ◌∙◌, arith, add-one, suc-mul, drop-drop, drop_of_length-le}
use Rattle.std.proofs.lemmas.List.{take_min}
use Rattle.std.proofs.Math.Decide.{dec_le}
use Rattle.lists.specs.Parts.{below, each}
use Rattle.lists.proofs.Laws.Member.{length-each}
use Rattle.lists.proofs.Laws.Join.{each_more}
use Rattle.lists.proofs.Laws.Column.{length-below}
use Rattle.timing.specs.Field.{bytes}
use Rattle.timing.specs.Printed.{printed_line, row_numbers, row_lines}
use Rattle.printing.specs.Put.{most}
use Rattle.printing.specs.Room.{room_rows}
use Rattle.printing.proofs.Lines.{lines-last}

-- a cut of w numbers, or of as many as there are, where w is counted as far as 64 bits go
module _ {A : Type 0} (left : List A) (w size cut : ℕ) (short : length left ≤ most) (s : size ≡ min w most) (c : cut ≡ min size (length left)) where
  cut-is : cut ≡ min w (length left)
  cut-is = omega arith

  -- what is cut off
  pub cut_front : take cut left ≡ take w left
  cut_front = rw cut-is (take_min w left)

  -- and what is left
  pub cut_behind : drop cut left ≡ drop w left
  cut_behind = elim (dec_le w (length left)) [
    | yes h ↦ let e : cut ≡ w = omega (arith, cut-is) in rw e
    | no h ↦ drop_of_length-le left {i = cut} (omega (arith, cut-is)) ∙ sym (drop_of_length-le left {i = w} (omega arith))
  ]

-- the next row begins w further on
pub next_row : {A : Type 0} (room : List A) (n w : ℕ) → drop w (drop (n * w) room) ≡ drop ((n + 1) * w) room
next_row room n w = drop-drop w (n * w) room ∙ ap (λ (k : ℕ). drop k room) (omega (arith, suc-mul n w, add-one n))

-- so many rows
rows-many : (n w : ℕ) (room : List ℤ) → length (room_rows n w room) ≡ n
unfolding room_rows
rows-many n w room = simp (length-each, length-below)

-- the lines of one row more
pub lines_more : (n w : ℕ) (room : List ℤ)
    → row_lines 1 (room_rows (n + 1) w room) ≡ row_lines 1 (room_rows n w room) ++ printed_line (bytes "path") (row_numbers (n + 1) (take w (drop (n * w) room)))
unfolding room_rows
lines_more n w room =
    let f : ℕ → List ℤ = λ (i : ℕ). take w (drop (i * w) room) in
    let k : 1 + length (each f (below n)) ≡ n + 1 = omega (arith, rows-many n w room) in
    rw (each_more f n, lines-last 1 (each f (below n)) (f n), k)
