-- The law of the order of refusals, with sentences in place of tests: "Each is given exactly when its condition holds and none earlier in the order does."
--
-- `Decides C o`: o is the first, in the order `Earlier`, of those of which the condition C holds, or none. A list of grounds decides part by part: one ground,
-- one list behind another, one list for each number. Where the order leaves no two unordered, what is decided is exactly what the sentence says
-- (`decides-exactly`).
-- Assumes nothing.
use Rattle.std.specs.Prelude.{◌≡◌, ◌⊎◌}
use Rattle.std.proofs.Math.Option.{Option, none, some}

module _ {X : Type 0} (Earlier : X → X → Type 0) where
  -- the condition of r holds, and that of none earlier
  abbrev pub First : (X → Type 0) → X → Type 0
  First C r = C r × ((q : X) → Earlier q r → C q → ⊥)

  pub record Decides (C : X → Type 0) (o : Option X) : Type 0 where
    pub first : (r : X) → o ≡ some r → First C r
    pub clean : o ≡ none → (q : X) → C q → ⊥

  module _ (not_itself : (q : X) → Earlier q q → ⊥) where
    module _ (not_back : (q r : X) → Earlier q r → Earlier r q → ⊥) where
      -- q is not later than r
      abbrev pub NotLater : X → X → Type 0
      NotLater q r = Earlier q r ⊎ (q ≡ r)
