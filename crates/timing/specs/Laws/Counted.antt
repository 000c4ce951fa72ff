-- How many walks and paths there are, without listing them: at a pin one for each arc from a start and, for each other arc, as many as the pin that it leaves
-- has; over all tests those of the data pins. A count may be cut at a cap after every addition: the total, which is cut, comes out the same.
-- Assumes nothing.
use Prim.Native.Nat.{ℕ}
use Rattle.lists.specs.Choice.{pick}
use Rattle.timing.specs.Structure.{Structure, leaves}
use Rattle.timing.specs.Paths.{is_start}

-- how many walks begin with arc a, where f says how many a pin has
abbrev pub count_over : Structure → (ℕ → ℕ) → ℕ → ℕ
count_over s f a = pick (is_start s (leaves s a)) 1 (f (leaves s a))
