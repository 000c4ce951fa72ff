-- What the parts of the check compute, where no definition of document 01 says it.
-- Assumes nothing.
use Rattle.std.specs.Prelude.{ℕ, ◌<◌, ◌≡◌, Bool, [], ◌∷◌, List, get_or, eqb, Result, Ok, Err}
use Rattle.lists.specs.Choice.{ground, first_met}
use Rattle.lists.specs.Laws.Scan.{tally}
use Rattle.timing.specs.declared.Refusal.{Refusal}
use Rattle.timing.specs.Refusals.{checked_of}
use Rattle.timing.specs.Limits.{most_pins}
use Rattle.timing.specs.Table.{Table, arc_to}

-- what a check answers that has one ground
abbrev pub refused : Bool → Refusal → Result Unit Refusal
refused due r = checked_of (first_met (ground due r ∷ []))

-- what two checks in a row answer
unfoldable pub then_check : Result Unit Refusal → Result Unit Refusal → Result Unit Refusal
then_check (Ok u) s = s
then_check (Err r) s = Err r

-- arc a goes into pin p
abbrev pub goes_into : Table → ℕ → ℕ → Bool
goes_into t p a = eqb (arc_to t a) p

-- at each pin's place, how many of the first n arcs go into it
pub record Counted (t : Table) (n : ℕ) (counts : List ℕ) : Type 0 where
  pub counted : (p : ℕ) → p < most_pins → get_or counts p 0 ≡ tally (goes_into t p) n
