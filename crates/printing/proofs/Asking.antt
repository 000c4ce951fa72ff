-- The room as an asking leaves it: its rows are the rows of the definition. So what is printed of the answer and the room is what document 01's program prints of the table.
-- The rows stand in the room one behind the other, each P + 5 long (`row-length`), so that row i begins at i × (P + 5).
-- Assumes nothing.
use Rattle.std.specs.Prelude.{ℕ, zero, suc, ◌*◌, ◌≤◌, ◌<◌, ◌≡◌, get_or, take, drop, ℤ}
use Rattle.std.proofs.Math.Path.{refl, ap}
use Rattle.std.proofs.Common.{sym, ◌∙◌, zero-mul, suc-mul, add_comm, arith, take_at, drop_at, take-suc, drop-drop}
use mathlib.Core.List.{List, [], ◌∷◌, ◌++◌, append_assoc}
use Rattle.std.proofs.Math.Option.{Option, none, some}
use Rattle.std.proofs.Math.ListN.{length}
use Rattle.std.proofs.Math.Seq.{take-length}
use Rattle.lists.specs.Parts.{below, each, gather, written}
use Rattle.lists.specs.Laws.Member.{All}
use Rattle.lists.proofs.Laws.Member.{of-all, in-each, in_take}
use Rattle.lists.proofs.Laws.Join.{each-join}
use Rattle.lists.proofs.Laws.Unmet.{unmet-none, unmet-left}
use Rattle.lists.specs.Laws.Write.{sets}
use Rattle.timing.specs.declared.Refusal.{Refusal}
use Rattle.timing.specs.declared.Answer.{Answer}
use Rattle.std.specs.Prelude.{Result}
use Rattle.timing.specs.Field.{Bytes}
use Rattle.timing.specs.Limits.{work_length}
use Rattle.timing.specs.Table.{Table, pin_count}
use Rattle.timing.specs.Structure.{structure, times}
use Rattle.timing.specs.Slack.{ranked}
use Rattle.timing.specs.Rows.{mode_of, row_length, row, first_paths, rows}
use Rattle.timing.specs.Check.{table_grounds, table_fault}
use Rattle.timing.specs.Asked.{asking_grounds, asking_fault, table_rows, answer_of, answer, room_of, room_after}
use Rattle.timing.specs.Printed.{printed_answer, row_room, printed_table}
use Rattle.timing.proofs.Laws.Columns.{pins-is}
use Rattle.timing.proofs.Laws.Order.{ranked-paths}
use Rattle.timing.proofs.Laws.Accepted.{accepted}
use Rattle.timing.proofs.Laws.Written.{row-length}
use Rattle.printing.specs.Put.{counted}
use Rattle.printing.specs.Room.{room_rows, printed_room}

-- ---- rows one behind the other

-- all the numbers of some rows
abbrev joined : List (List ℤ) → List ℤ
joined rs = gather (λ (r : List ℤ). r) rs

-- they are w numbers long
abbrev Long : ℕ → List (List ℤ) → Type 0
Long w rs = All (λ (r : List ℤ). length r ≡ w) rs

-- row n begins at n × w
row_at : (w : ℕ) (rs : List (List ℤ)) (rest : List ℤ) (n : ℕ) → Long w rs → n < length rs → take w (drop (n * w) (joined rs ++ rest)) ≡ get_or rs n []
unfolding gather
row_at w [] rest n long h = absurd (omega arith)
row_at w (r ∷ rs) rest zero long h = rw (zero-mul, append_assoc) (take_at r (joined rs ++ rest) w long.0)
row_at w (r ∷ rs) rest (suc n) long h =
    rw (suc-mul, add_comm (n * w) w, ← drop-drop (n * w) w, append_assoc, drop_at r (joined rs ++ rest) w long.0) (row_at w rs rest n long.1 (omega arith))

-- the first n of them
rows_at : (w : ℕ) (rs : List (List ℤ)) (rest : List ℤ) (n : ℕ) → Long w rs → n ≤ length rs → room_rows n w (joined rs ++ rest) ≡ take n rs
unfolding room_rows below each
rows_at w rs rest zero long h = refl
rows_at w rs rest (suc n) long h =
    let f : ℕ → List ℤ = λ (i : ℕ). take w (drop (i * w) (joined rs ++ rest)) in
    each-join f (below n) (n ∷ [])
    ∙ ap (λ (l : List (List ℤ)). l ++ (f n ∷ [])) (rows_at w rs rest n long (omega arith))
    ∙ ap (λ (r : List ℤ). take n rs ++ (r ∷ [])) (row_at w rs rest n long (omega arith))
    ∙ sym (take-suc rs n [] (omega arith))

-- ---- an asking that is not refused

module _ (t : Table) (mode k : ℕ) where
  -- "Rows are P + 5 numbers"
  rows_long : table_fault t ≡ none → Long (row_length (pin_count t)) (table_rows t mode k)
  unfolding table_rows rows first_paths
  rows_long h =
      let m = mode_of mode in
      let s = structure t in
      of-all (λ (r : List ℤ). length r ≡ row_length (pin_count t)) (table_rows t mode k)
      (λ r i.
      let e = in-each (row m s (times t)) r (first_paths m s (times t) k) i in
      ap length e.2
      ∙ row-length m s (times t) (accepted t h).sound e.0 (ranked-paths m s (times t) e.0 (in_take e.0 k (ranked m s (times t)) e.1))
      ∙ ap row_length (pins-is t))

  -- its table is accepted
  table-fine : (room work : ℕ) → asking_fault t mode k room work ≡ none → table_fault t ≡ none
  unfolding asking_fault asking_grounds table_fault
  table-fine room work h = (unmet-none (table_grounds t)).1 (unmet-left (table_grounds t) _ ((unmet-none (asking_grounds t mode k room work)).0 h))

  -- the rows of the room are the rows of the definition
  pub room-rows : (room : List ℤ) (work : ℕ) → asking_fault t mode k (length room) work ≡ none
      → room_rows (length (table_rows t mode k)) (row_length (pin_count t)) (room_after t mode k room work) ≡ table_rows t mode k
  unfolding room_after room_of written
  room-rows room work h =
      let rs = table_rows t mode k in
      rw h
      (rows_at (row_length (pin_count t)) rs (drop (length (joined rs)) room) (length rs) (rows_long (table-fine (length room) work h)) (omega arith) ∙ take-length rs)

  -- what is printed of the answer and the room, whether the asking is refused or not
  pub room-printed : (room : List ℤ) (work : ℕ)
      → printed_room (answer t mode k (length room) work) (pin_count t) (room_after t mode k room work) ≡ printed_answer (answer t mode k (length room) work) (table_rows t mode k)
  unfolding printed_room answer answer_of printed_answer
  room-printed room work = by-fault (asking_fault t mode k (length room) work) refl
    where
      by-fault : (f : Option Refusal) → asking_fault t mode k (length room) work ≡ f
          → printed_room (answer t mode k (length room) work) (pin_count t) (room_after t mode k room work) ≡ printed_answer (answer t mode k (length room) work) (table_rows t mode k)
      by-fault none e = rw (e, room-rows room work e)
      by-fault (some r) e = rw e

  -- in the room that the program lends: what the program prints
  pub printed-room : (room : List ℤ) → length room ≡ row_room
      → printed_room (answer t mode k row_room work_length) (pin_count t) (room_after t mode k room work_length) ≡ printed_table t mode k
  unfolding printed_table
  printed-room room h = rw h at (room-printed room work_length)

-- the contract of `print` decides the number and the bytes
pub print-decides : (a : Result Answer Refusal) (pins : ℕ) (room : List ℤ) (out : Bytes) (r s : ℕ) (x y : Bytes)
    → (r ≡ counted (length (printed_room a pins room))) × (x ≡ sets out 0 (printed_room a pins room))
    → (s ≡ counted (length (printed_room a pins room))) × (y ≡ sets out 0 (printed_room a pins room)) → (r ≡ s) × (x ≡ y)
print-decides a pins room out r s x y e f = (e.0 ∙ sym f.0, e.1 ∙ sym f.1)
