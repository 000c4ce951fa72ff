-- Reading and asking together: what `toppaths` prints is a function of the text alone, `Printed.printed`.
--
-- The contract of `toppaths::answer` is that its bytes are `printed` of the text. Here it is said what these are, over whatever the contracts of reading and
-- asking allow and whatever the memory held that was lent to them: "It prints for each row `path`, rank, slack, credit, test, start and the arcs from the
-- start; then `end`, rows and total; tabs between. On a refusal it prints one line only: `refused`, number, place, with tabs between."
-- Assumes nothing.
use Rattle.std.specs.Prelude.{◌≡◌, List, ℕ, length, ℤ, Result}
use Rattle.std.proofs.Common.{◌∙◌}
use Rattle.timing.specs.declared.Refusal.{Refusal}
use Rattle.timing.specs.declared.Reading.{Reading}
use Rattle.timing.specs.Limits.{work_length}
use Rattle.timing.specs.Field.{Bytes}
use Rattle.timing.specs.Printed.{refused_line, printed_answer, table_room, row_room}
use Rattle.timing.specs.Allows.{ReadAllows}
use Rattle.printing.specs.Room.{printed_room}
use Rattle.demands.proofs.Laws.Printing.{refused-printed, asked-printed}
use Rattle.demands.specs.Program.{TextPrinted}

pub program : (x : Bytes) (table : List ℕ) (room : List ℤ) (work : List ℕ) → length table ≡ table_room → length room ≡ row_room → length work ≡ work_length
    → (r : Result Reading Refusal) (table' : List ℕ) → ReadAllows x table r table' → TextPrinted x r table' room work
unfolding refused_line printed_room printed_answer
program x table room work lt lr lw r table' a =
    record {
      refused = refused-printed x table lt r table' a;
      asked = λ c e b room' work' h.
          let p = asked-printed x table lt r table' a c e room work lr lw b room' work' h in
          record { refused = λ q f. p ∙ rw f; given = λ d f. p ∙ rw f };
    }
