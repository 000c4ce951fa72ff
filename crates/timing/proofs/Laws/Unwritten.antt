-- "A refusal returns its number and its place; every lent buffer stays unwritten."
-- Assumes nothing.
use Rattle.std.specs.Prelude.{◌≡◌, List, ℕ, length, ℤ, Err}
use Rattle.std.proofs.Math.Option.{some}
use Rattle.timing.specs.declared.Refusal.{Refusal}
use Rattle.timing.specs.declared.Candidate.{Candidate}
use Rattle.timing.specs.Table.{Table}
use Rattle.timing.specs.Field.{Bytes}
use Rattle.timing.specs.Asked.{asking_fault, answer_of, answer, room_of, room_after, work_of, work_after}
use Rattle.timing.specs.Ranked.{enter_fault, entered_of, enter_answer, list_of, list_after}
use Rattle.timing.specs.Text.{text_fault, reading_of, reading, filled_of, room_filled}
use Rattle.timing.specs.Allows.{ReadAllows, AskAllows, EnterAllows}

pub reading-refused : (x : Bytes) (table : List ℕ) (q : Refusal) → text_fault x (length table) ≡ some q → ReadAllows x table (Err q) table
unfolding reading reading_of room_filled filled_of
reading-refused x table q e = (rw e, rw e)

pub answer-refused : (t : Table) (mode k : ℕ) (room : List ℤ) (work : List ℕ) (q : Refusal) → asking_fault t mode k (length room) (length work) ≡ some q
    → AskAllows t mode k room work (Err q) room work
unfolding answer answer_of room_after room_of work_after work_of
answer-refused t mode k room work q e = (rw e, rw e, rw e)

pub enter-refused : (list : List Candidate) (count : ℕ) (c : Candidate) (q : Refusal) → enter_fault count (length list) ≡ some q
    → EnterAllows list count c (Err q) list
unfolding enter_answer entered_of list_after list_of
enter-refused list count c q e = (rw e, rw e)
