-- `report::write_rows` meets its contract. The invariant: the rows of the first i records are written. Assumes nothing.
use Rattle.std.proofs.Common.{ℕ, List, ℤ, ◌≡◌, ◌*◌, length}
use Rattle.lists.specs.Parts.{gather}
use Rattle.lists.specs.Laws.Write.{Wrote}
use Rattle.timing.specs.Table.{Table}
use Rattle.timing.specs.declared.Candidate.{Candidate}
use Rattle.report.specs.Writing.{rows_in}
use Rattle.report.proofs.write_rows.Given as goal

-- the rows of the first i are written
pub record So (t : Table) (w : List ℕ) (list : List Candidate) (slots : List ℕ) (size : ℕ) (room₀ room : List ℤ) (i : ℕ) : Type 0 where
  pub so_far : Wrote (gather (λ (r : List ℤ). r) (rows_in t w list slots i)) room room₀ (i * size)
  pub len : length room ≡ length room₀

abbrev pub invariant-loop-i : goal.invariant-loop-i
invariant-loop-i l = So l.table l.work l.won.list l.won.slots l.size l.initial.room l.room l.i
