-- An asking: its answer, and the lent room and work area afterwards, as functions of what was given.
-- Assumes nothing.
use Rattle.std.specs.Prelude.{ℕ, ◌*◌, Bool, ◌||◌, List, [], ◌∷◌, ◌++◌, length, replicate, eqb, ltb, ℤ, Result, Ok, Err}
use Rattle.std.proofs.Math.Option.{Option, none, some}
use Rattle.lists.specs.Choice.{Ground, ground, first_met}
use Rattle.lists.specs.Parts.{gather, written}
use Rattle.timing.specs.declared.Refusal.{Refusal}
use Rattle.timing.specs.declared.Refusal.TheVariants.{ModeOrK, RowRoom}
use Rattle.timing.specs.declared.Answer.{Answer}
use Rattle.timing.specs.Limits.{most_k, work_length}
use Rattle.timing.specs.Table.{Table, pin_count}
use Rattle.timing.specs.Structure.{structure, times}
use Rattle.timing.specs.Rows.{mode_of, row_length, rows, total}
use Rattle.timing.specs.Check.{table_grounds}

-- ---- the refusal

-- 14: "mode over 1, k outside 1 to 16"
abbrev pub asking_bad : ℕ → ℕ → Bool
asking_bad mode k = ltb 1 mode || eqb k 0 || ltb most_k k

-- 15: "room below k × (P + 5), or work area short"
abbrev pub room_bad : ℕ → ℕ → ℕ → ℕ → Bool
room_bad p k room work = ltb room (k * row_length p) || ltb work work_length

-- 6 to 13, then "14, 15"
unfoldable pub asking_grounds : Table → ℕ → ℕ → ℕ → ℕ → List (Ground Refusal)
asking_grounds t mode k room work =
    table_grounds t ++ (ground (asking_bad mode k) ModeOrK ∷ ground (room_bad (pin_count t) k room work) RowRoom ∷ [])

-- the refusal, if there is one; room and work are lengths
unfoldable pub asking_fault : Table → ℕ → ℕ → ℕ → ℕ → Option Refusal
asking_fault t mode k room work = first_met (asking_grounds t mode k room work)

-- ---- the answer

-- the rows of a table
unfoldable pub table_rows : Table → ℕ → ℕ → List (List ℤ)
table_rows t mode k = rows (mode_of mode) (structure t) (times t) k

-- "It returns rows given and total."
unfoldable pub answer_of : Option Refusal → Table → ℕ → ℕ → Result Answer Refusal
answer_of (some r) t mode k = Err r
answer_of none t mode k = Ok (record { rows = length (table_rows t mode k); total = total (structure t) })

unfoldable pub answer : Table → ℕ → ℕ → ℕ → ℕ → Result Answer Refusal
answer t mode k room work = answer_of (asking_fault t mode k room work) t mode k

-- ---- the memory: "every lent buffer stays unwritten" on a refusal

-- "Places after the last row stay."
unfoldable pub room_of : Option Refusal → Table → ℕ → ℕ → List ℤ → List ℤ
room_of (some r) t mode k room = room
room_of none t mode k room = written (gather (λ (r : List ℤ). r) (table_rows t mode k)) room

unfoldable pub room_after : Table → ℕ → ℕ → List ℤ → ℕ → List ℤ
room_after t mode k room work = room_of (asking_fault t mode k (length room) work) t mode k room

-- "after an answer that length is all zero and places beyond it stay"
unfoldable pub work_of : Option Refusal → List ℕ → List ℕ
work_of (some r) work = work
work_of none work = written (replicate work_length 0) work

unfoldable pub work_after : Table → ℕ → ℕ → ℕ → List ℕ → List ℕ
work_after t mode k room work = work_of (asking_fault t mode k room (length work)) work
