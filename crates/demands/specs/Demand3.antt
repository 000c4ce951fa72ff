-- Demand 3: "Take two accepted designs with the same pin kinds, arc ends, test pins, mode and k. In the second, each arrival and delay range contains the
-- first's, no setup or hold time is smaller, and the period is no longer. Then both report the same number of rows, and at each rank the second's slack is no
-- greater than the first's. Nor is it lower by more than everything that was widened, lengthened or shortened, added up."
--
-- Of every two answered askings, over what they return and the rooms that they leave. What is supposed of the designs, and the sum, are in `Wider`.
-- Assumes nothing.
use Rattle.std.specs.Prelude.{◌≡◌, ℕ, ◌+◌, ◌*◌, ◌<◌, get_or, ℤ, pos, ◌+ℤ◌, ◌≤ℤ◌}
use Rattle.timing.specs.Table.{Table, pin_count}
use Rattle.demands.specs.Definitions.{Answered}
use Rattle.demands.specs.Wider.{moved}

-- the slack of rank r, counted from 0: the first number of its row in the room that an asking leaves
abbrev pub slack_at : {t : Table} {mode k : ℕ} → Answered t mode k → ℕ → ℤ
slack_at {t} a r = get_or a.room' (r * (pin_count t + 5)) (pos 0)

pub record NoBetter (t u : Table) (mode k : ℕ) (a : Answered t mode k) (b : Answered u mode k) : Type 0 where
  -- "both report the same number of rows"
  pub same_rows : a.rows ≡ b.rows
  -- "at each rank the second's slack is no greater than the first's"
  pub no-greater : (r : ℕ) → r < a.rows → slack_at b r ≤ℤ slack_at a r
  -- "Nor is it lower by more than everything that was widened, lengthened or shortened, added up."
  pub not_lower : (r : ℕ) → r < a.rows → slack_at a r ≤ℤ (slack_at b r +ℤ pos (moved t u))
