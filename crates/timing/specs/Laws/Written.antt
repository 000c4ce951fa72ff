-- The rows as numbers: each has P + 5 of them.
-- Assumes nothing.
use Rattle.std.specs.Prelude.{ℕ, get_or, ℤ, pos}
use mathlib.Core.List.{List, []}

-- ---- the slack of a rank

-- the slack of the row at rank r, counted from 0
unfoldable pub slack_at : List (List ℤ) → ℕ → ℤ
slack_at rs r = get_or (get_or rs r []) 0 (pos 0)
