-- Demand 1: "Every text, every table and every asking gets an answer or one refusal from the list, with its place. Nothing is assumed about a table because our
-- reader made it. A refused asking writes nothing into memory we lend."
--
-- Of whatever the contract of each operation allows, for every input. When each refusal is due, the order, and what `Refuses` says are in `Conditions` and
-- `TextConditions`; the enum `Refusal` is 01's list, and `Refusals.number_of` and `place_of` are its number and place.
-- Assumes nothing.
use Rattle.std.specs.Prelude.{◌≡◌, List, ℕ, length, ℤ, Result, Ok, Err}
use Rattle.timing.specs.declared.Refusal.{Refusal}
use Rattle.timing.specs.declared.Reading.{Reading}
use Rattle.timing.specs.declared.Answer.{Answer}
use Rattle.timing.specs.declared.Candidate.{Candidate}
use Rattle.timing.specs.Refusals.{number_of, place_of}
use Rattle.timing.specs.Table.{Table}
use Rattle.timing.specs.Field.{Bytes}
use Rattle.timing.specs.Check.{table_fault}
use Rattle.timing.specs.Asked.{asking_fault}
use Rattle.timing.specs.Ranked.{enter_fault}
use Rattle.timing.specs.Text.{text_fault}
use Rattle.timing.specs.Allows.{ReadAllows, CheckAllows, AskAllows, EnterAllows}
use Rattle.demands.specs.Conditions.{TableHolds, AskHolds, ListHolds, Refuses}
use Rattle.demands.specs.TextConditions.{TextHolds}
use Rattle.demands.proofs.Laws.Turns.{same-refusal}
use Rattle.demands.proofs.Laws.TableOrder.{table-decides, ask-decides}
use Rattle.demands.proofs.Laws.TextOrder.{text-decides}
use Rattle.demands.proofs.Laws.Refused.{refuses, reading-outcome, check-outcome, ask-outcome, enter-outcome, enter-decides}

-- number and place tell a refusal
pub demand-1-places : (q r : Refusal) → number_of q ≡ number_of r → place_of q ≡ place_of r → q ≡ r
demand-1-places = same-refusal

-- a text, and room lent for its table: 1 to 5
pub demand-1-text : (x : Bytes) (table : List ℕ) (r : Result Reading Refusal) (table' : List ℕ) → ReadAllows x table r table'
    → Refuses (TextHolds x (length table)) (λ q. r ≡ Err q) ((c : Reading) × (r ≡ Ok c)) (table' ≡ table)
demand-1-text x table r table' a = refuses (text_fault x (length table)) (text-decides x (length table)) (reading-outcome x table r table' a)

-- a table: 6 to 13; no memory is lent to be written
pub demand-1-table : (t : Table) (r : Result Unit Refusal) → CheckAllows t r → Refuses (TableHolds t) (λ q. r ≡ Err q) (r ≡ Ok tt) Unit
demand-1-table t r a = refuses (table_fault t) (table-decides t) (check-outcome t r a)

-- an asking, with its table, room and work area: 6 to 15
pub demand-1-asking : (t : Table) (mode k : ℕ) (room : List ℤ) (work : List ℕ) (r : Result Answer Refusal) (room' : List ℤ) (work' : List ℕ)
    → AskAllows t mode k room work r room' work'
    → Refuses (AskHolds t mode k (length room) (length work)) (λ q. r ≡ Err q) ((b : Answer) × (r ≡ Ok b))
    ((room' ≡ room) × (work' ≡ work))
demand-1-asking t mode k room work r room' work' a =
    refuses (asking_fault t mode k (length room) (length work)) (ask-decides t mode k (length room) (length work))
    (ask-outcome t mode k room work r room' work' a)

-- a record entered into a ranked list: 16
pub demand-1-list : (list : List Candidate) (count : ℕ) (c : Candidate) (r : Result ℕ Refusal) (list' : List Candidate) → EnterAllows list count c r list'
    → Refuses (ListHolds (length list) count) (λ q. r ≡ Err q) ((n : ℕ) × (r ≡ Ok n)) (list' ≡ list)
demand-1-list list count c r list' a = refuses (enter_fault count (length list)) (enter-decides count (length list)) (enter-outcome list count c r list' a)
