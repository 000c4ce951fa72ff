-- What the contract of each operation allows, as a relation between what it was given and lent, what it returned and what stands in lent memory afterwards.
-- Each is the `ensures` of the operation, word for word. The demands are theorems over these relations (crate `demands`).
-- Assumes nothing.
use Rattle.std.specs.Prelude.{◌≡◌, List, ℕ, length, ℤ, Result}
use Rattle.timing.specs.declared.Reading.{Reading}
use Rattle.timing.specs.declared.Answer.{Answer}
use Rattle.timing.specs.declared.Candidate.{Candidate}
use Rattle.timing.specs.declared.Refusal.{Refusal}
use Rattle.timing.specs.Refusals.{checked_of}
use Rattle.timing.specs.Table.{Table}
use Rattle.timing.specs.Field.{Bytes}
use Rattle.timing.specs.Check.{table_fault}
use Rattle.timing.specs.Asked.{answer, room_after, work_after}
use Rattle.timing.specs.Ranked.{enter_answer, list_after}
use Rattle.timing.specs.Text.{reading, room_filled}

-- `reader::read(text, table)`: the reading r, and the lent table room afterwards
abbrev pub ReadAllows : Bytes → List ℕ → Result Reading Refusal → List ℕ → Type 0
ReadAllows text table r table' = (r ≡ reading text (length table)) × (table' ≡ room_filled text table)

-- `tables::check(table)`
abbrev pub CheckAllows : Table → Result Unit Refusal → Type 0
CheckAllows t r = r ≡ checked_of (table_fault t)

-- `report::ask(table, mode, k, room, work)`: the answer r, the room and the work area afterwards
abbrev pub AskAllows : Table → ℕ → ℕ → List ℤ → List ℕ → Result Answer Refusal → List ℤ → List ℕ → Type 0
AskAllows t mode k room work r room' work' =
    (r ≡ answer t mode k (length room) (length work))
    × (room' ≡ room_after t mode k room (length work))
    × (work' ≡ work_after t mode k (length room) work)

-- `ranked::enter(list, count, record)`: the answer r, and the list afterwards
abbrev pub EnterAllows : List Candidate → ℕ → Candidate → Result ℕ Refusal → List Candidate → Type 0
EnterAllows list count c r list' = (r ≡ enter_answer count (length list)) × (list' ≡ list_after list count c)
