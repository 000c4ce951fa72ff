-- The first k of items that each have a bound of their own, where the bounds fall along the list and by no more than one: what is left out stands behind all that
-- is kept, so where k are kept and found they are the first k of all (`top-falling`). A bound that falls drops ties that come later once there are enough.
-- Assumes nothing.
use Rattle.std.specs.Prelude.{Bool, ℤ}
use Rattle.std.specs.Int.Signed.{lt_z}
use Rattle.lists.specs.Laws.Integer.{Within}

module _ {A : Type 0} (bound : A → ℤ) where
  -- the bound of x is m or one more
  abbrev pub Near : ℤ → A → Type 0
  Near m x = Within 0 m (bound x) × Within 1 (bound x) m

  -- the bound of y, which comes later, is no higher
  abbrev pub Falls : A → A → Type 0
  Falls x y = Within 0 (bound y) (bound x)

module _ {A : Type 0} (key : A → ℤ) where
  module _ (bound : A → ℤ) where
    -- x is below its bound
    abbrev pub kept : A → Bool
    kept x = lt_z (key x) (bound x)
