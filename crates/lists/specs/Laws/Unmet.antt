-- Lists of grounds of which none is met, part by part: how an order of refusals that gives none is taken apart and put together.
-- Assumes nothing.
use Rattle.std.specs.Prelude.{◌≡◌, false, List}
use Rattle.lists.specs.Choice.{Ground}
use Rattle.lists.specs.Laws.Member.{In}

-- none of the grounds is met
pub record Unmet {X : Type 0} (gs : List (Ground X)) : Type 0 where
  pub each-fails : (g : Ground X) → In g gs → g.met ≡ false
