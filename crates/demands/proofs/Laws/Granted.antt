-- An asking that was answered: no refusal, and where its rows stand.
-- Assumes nothing.
use Rattle.std.specs.Prelude.{◌≡◌, refl, List, ◌++◌, ℕ, ◌*◌, length, drop, replicate, ℤ, Result, Ok, Err}
use Rattle.std.proofs.Common.{ap, ◌∙◌, arith}
use Rattle.std.proofs.Math.Option.{Option, none, some}
use Rattle.std.proofs.lemmas.List.{length-replicate}
use Rattle.lists.specs.Parts.{gather, written}
use Rattle.lists.proofs.Laws.Unmet.{unmet-none, unmet-left}
use Rattle.lists.proofs.Laws.Write.{written-beyond}
use Rattle.timing.specs.declared.Refusal.{Refusal}
use Rattle.timing.specs.declared.Answer.{Answer}
use Rattle.timing.specs.Limits.{work_length}
use Rattle.timing.specs.Table.{Table, pin_count}
use Rattle.timing.specs.Structure.{structure, times}
use Rattle.timing.specs.Rows.{mode_of, row_length, total}
use Rattle.timing.specs.Check.{table_grounds, table_fault}
use Rattle.timing.specs.Asked.{asking_grounds, asking_fault, table_rows, answer_of, answer, room_of, room_after, work_of, work_after}
use Rattle.timing.proofs.Laws.Columns.{pins-is}
use Rattle.timing.proofs.Laws.Accepted.{accepted}
use Rattle.timing.proofs.Laws.Written.{rows-length}
use Rattle.printing.proofs.Asking.{room-rows}
use Rattle.demands.specs.Definitions.{Answered}
use Rattle.demands.specs.Laws.Granted.{Granted}

-- an asking without a refusal has a table without one
pub table-fine : (t : Table) (mode k room work : ℕ) → asking_fault t mode k room work ≡ none → table_fault t ≡ none
unfolding asking_fault asking_grounds table_fault
table-fine t mode k room work h = (unmet-none (table_grounds t)).1 (unmet-left (table_grounds t) _ ((unmet-none (asking_grounds t mode k room work)).0 h))

-- how many numbers the rows have
rows-numbers : (t : Table) (mode k : ℕ) → table_fault t ≡ none
    → length (gather (λ (l : List ℤ). l) (table_rows t mode k)) ≡ length (table_rows t mode k) * row_length (pin_count t)
unfolding table_rows
rows-numbers t mode k h = rw (← pins-is t) (rows-length (mode_of mode) (structure t) (times t) k (accepted t h).sound)

-- zeros over the front of the work area
front-zero : (n : ℕ) (work : List ℕ) → written (replicate n 0) work ≡ replicate n 0 ++ drop n work
unfolding written
front-zero n work = ap (λ (m : ℕ). replicate n 0 ++ drop m work) (length-replicate n 0)

-- what an operation answered, and zeros where it refused
abbrev answer_in : Result Answer Refusal → Answer
answer_in (Ok b) = b
answer_in (Err q) = record { rows = 0; total = 0 }

pub granted : (t : Table) (mode k : ℕ) (a : Answered t mode k) → Granted t mode k a
unfolding answer answer_of room_after room_of work_after work_of
granted t mode k a = by-fault (asking_fault t mode k (length a.room) (length a.work)) refl
  where
    by-fault : (f : Option Refusal) → asking_fault t mode k (length a.room) (length a.work) ≡ f → Granted t mode k a
    by-fault (some q) h =
        let z : ◌≡◌ {A = Result Answer Refusal} (Ok (record { rows = a.rows; total = a.total })) (Err q) = rw h at a.allowed.0 in
        absurd (let y : ◌≡◌ {A = ℕ} 0 1 = cc in omega arith)
    by-fault none h =
        let z : ◌≡◌ {A = Result Answer Refusal} (Ok (record { rows = a.rows; total = a.total })) (Ok (record { rows = length (table_rows t mode k); total = total (structure t) })) = rw h at a.allowed.0 in
        let c : a.rows ≡ length (table_rows t mode k) = ap (λ b. (answer_in b).rows) z in
        let fine = table-fine t mode k (length a.room) (length a.work) h in
        record {
          checked = fine;
          counted = c;
          totalled = ap (λ b. (answer_in b).total) z;
          stand = rw (c, a.allowed.1) (room-rows t mode k a.room (length a.work) h);
          stays = rw (a.allowed.1, h, c, ← rows-numbers t mode k fine) (written-beyond (gather (λ (l : List ℤ). l) (table_rows t mode k)) a.room);
          cleared = (rw h at a.allowed.2) ∙ front-zero work_length a.work;
        }
