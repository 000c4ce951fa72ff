-- From what an order decides to what is demanded: an operation that says what was decided refuses as demanded.
-- Assumes nothing.
use Rattle.std.proofs.Math.Path.{◌≡◌}
use Rattle.std.specs.Prelude.{◌↔◌}
use Rattle.std.proofs.Math.Option.{Option, none, some}
use Rattle.timing.specs.declared.Refusal.{Refusal}

-- the operation says what o is: the refusal that was given, or none
pub record Outcome (o : Option Refusal) (Says : Refusal → Type 0) (Accepts Unwritten : Type 0) : Type 0 where
  pub says : (q : Refusal) → (o ≡ some q) ↔ Says q
  pub accepts : (o ≡ none) ↔ Accepts
  pub kept : (q : Refusal) → o ≡ some q → Unwritten
