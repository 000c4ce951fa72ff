-- The common pin is the lowest common ancestor; it can be found from parents and depths alone; the shared arcs are exactly those on both climbs.
-- Assumes nothing.
use Rattle.std.specs.Prelude.{ℕ, length}
use Rattle.timing.specs.Structure.{Structure}
use Rattle.timing.specs.Clock.{climb}
use Rattle.timing.specs.Laws.Sound.{Sound}

module _ (s : Structure) (ok : Sound s) where
  -- ---- from parents and depths alone: raise the deeper of the two, or either if they are equally deep
  unfoldable pub depth : ℕ → ℕ
  depth p = length (climb s p)
