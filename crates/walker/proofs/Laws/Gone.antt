-- Before the first walk all walks are to come.
-- Assumes nothing.
use Rattle.std.specs.Prelude.{◌≡◌, List, ℕ, ◌<◌}
use Rattle.timing.specs.Structure.{Structure, pins}
use Rattle.timing.specs.Paths.{walks}
use Rattle.area.specs.Area.{plan}
use Rattle.walker.specs.Rest.{turns}
use Rattle.walker.specs.Cursors.{Planned, begin_at, coming}
use Rattle.walker.specs.Laws.Gone.{first-is}
use Rattle.walker.proofs.Laws.Rest.{rest_all}

module _ (s : Structure) (weight seed : ℕ → ℕ) (w : List ℕ) (v : ℕ) (P : Planned s weight seed (plan w)) (h : v < pins s) where
  -- all walks from the pin are to come
  pub begin-all : coming s w (begin_at w v) ≡ walks s v
  unfolding coming turns
  begin-all = rw (first-is s weight seed w v P h) (rest_all s weight seed (plan w) P v h)
