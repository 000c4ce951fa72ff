-- Choosing: by one test, and by the first of several grounds that is met.
-- A refusal is one ground of a list, with what it says; the list's order is the order of refusals. That is said here of any
-- list of grounds, so that one law (`Laws.Chosen`) serves every list.
-- Assumes nothing.
use Rattle.std.specs.Prelude.{Bool, true, false, List, [], ◌∷◌}
use Rattle.std.proofs.Math.Option.{Option, none, some}

-- the first where the test passes, the second where it fails
unfoldable pub pick {ℓ} : {X : Type ℓ} → Bool → X → X → X
pick true x y = x
pick false x y = y

-- every one of several tests passes
unfoldable pub holds : List Bool → Bool
holds [] = true
holds (true ∷ bs) = holds bs
holds (false ∷ bs) = false

-- a ground: whether it is met, and what it gives then
pub record Ground (X : Type 0) : Type 0 where
  pub met : Bool
  pub gives : X

-- x on the ground b
abbrev pub ground : {X : Type 0} → Bool → X → Ground X
ground b x = record { met = b; gives = x }

-- what the first ground that is met gives; none if none is. What stands behind it is not computed.
unfoldable pub first_met : {X : Type 0} → List (Ground X) → Option X
first_met [] = none
first_met (g ∷ gs) = elim g.met [ true ↦ some g.gives | false ↦ first_met gs ]
