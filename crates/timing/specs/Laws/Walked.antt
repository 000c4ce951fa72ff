-- Walks by the document's own sentence, and that `walks` lists exactly these, each once, in the order of the tie rule.
-- Assumes nothing.
use Rattle.std.specs.Prelude.{◌≡◌, ◌⊎◌}
use Rattle.std.proofs.Math.Bool.{true, false}
use mathlib.Core.List.{List, [], ◌∷◌}
use Prim.Native.Nat.{ℕ, ◌<◌}
use Rattle.timing.specs.Structure.{Structure, arcs, leaves, enters}
use Rattle.timing.specs.Paths.{is_start}

-- "A path runs over arcs from a K or an I to the test's data pin": read backwards, the first arc enters v, each other enters the pin that the one
-- before it leaves, the last leaves a start and the others do not
abbrev pub Walk : Structure → ℕ → List ℕ → Type 0
Walk s v [] = ⊥
Walk s v (a ∷ []) = (a < arcs s) × (enters s a ≡ v) × (is_start s (leaves s a) ≡ true)
Walk s v (a ∷ b ∷ w) = (a < arcs s) × (enters s a ≡ v) × (is_start s (leaves s a) ≡ false) × Walk s (leaves s a) (b ∷ w)

-- ---- the tie order
-- at the first difference the first has the smaller number
abbrev pub Before : List ℕ → List ℕ → Type 0
Before [] m = ⊥
Before (a ∷ l) [] = ⊥
Before (a ∷ l) (b ∷ m) = (a < b) ⊎ ((a ≡ b) × Before l m)
