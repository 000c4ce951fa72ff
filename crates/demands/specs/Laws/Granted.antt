-- An asking that was answered: no refusal, and where its rows stand.
-- Assumes nothing.
use Rattle.std.specs.Prelude.{◌≡◌, ◌++◌, ℕ, ◌*◌, length, drop, replicate}
use Rattle.std.proofs.Math.Option.{none}
use Rattle.timing.specs.Limits.{work_length}
use Rattle.timing.specs.Table.{Table, pin_count}
use Rattle.timing.specs.Structure.{structure}
use Rattle.timing.specs.Rows.{row_length, total}
use Rattle.timing.specs.Check.{table_fault}
use Rattle.timing.specs.Asked.{table_rows}
use Rattle.printing.specs.Room.{room_rows}
use Rattle.demands.specs.Definitions.{Answered}

pub record Granted (t : Table) (mode k : ℕ) (a : Answered t mode k) : Type 0 where
  pub checked : table_fault t ≡ none
  pub counted : a.rows ≡ length (table_rows t mode k)
  pub totalled : a.total ≡ total (structure t)
  pub stand : room_rows a.rows (row_length (pin_count t)) a.room' ≡ table_rows t mode k
  pub stays : drop (a.rows * row_length (pin_count t)) a.room' ≡ drop (a.rows * row_length (pin_count t)) a.room
  pub cleared : a.work' ≡ replicate work_length 0 ++ drop work_length a.work
