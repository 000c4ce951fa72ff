-- What the answer of `check` tells.
-- Assumes nothing.
use Rattle.std.specs.Prelude.{◌≡◌, refl, ℕ, Result, Ok, Err}
use Rattle.std.proofs.Common.{sym, ◌∙◌, arith}
use Rattle.std.proofs.Math.Option.{Option, none, some}
use Rattle.timing.specs.declared.Refusal.{Refusal}
use Rattle.timing.specs.Refusals.{checked_of}
use Rattle.timing.specs.Table.{Table}
use Rattle.timing.specs.Check.{table_fault}
use Rattle.timing.specs.Laws.Accepted.{Accepted}
use Rattle.timing.proofs.Laws.Accepted.{accepted}

-- the contract decides the answer
pub check-decides : (t : Table) (r s : Result Unit Refusal) → r ≡ checked_of (table_fault t) → s ≡ checked_of (table_fault t) → r ≡ s
check-decides t r s e f = e ∙ sym f

-- a table that is fine has no fault
pub fine-none : (o : Option Refusal) → Ok tt ≡ checked_of o → o ≡ none
fine-none none e = refl
fine-none (some r) e = absurd (let z : ◌≡◌ {A = ℕ} 0 1 = cc in omega arith)

-- and is accepted
pub fine-accepted : (t : Table) → Ok tt ≡ checked_of (table_fault t) → Accepted t
fine-accepted t e = accepted t (fine-none (table_fault t) e)

-- a refusal that is answered is the table's
pub refused-fault : (o : Option Refusal) (r : Refusal) → Err r ≡ checked_of o → o ≡ some r
refused-fault none r e = absurd (let z : ◌≡◌ {A = ℕ} 0 1 = cc in omega arith)
refused-fault (some s) r e = cc
