-- Demand 2: "The rows reported are exactly the first k, or all if fewer, of all launch-to-test paths, each once, ordered by slack after credit and then by the
-- stated tie rule. Credit and slack are those of Definitions 1 and 2" of 004.
--
-- Of every answered asking, over the room that it leaves. Paths, credit, slack and order are those of `Definitions`.
-- Assumes nothing.
use Rattle.std.specs.Prelude.{◌≡◌, List, ◌++◌, ℕ, ◌*◌, min, length, take, drop, replicate, ℤ}
use Rattle.lists.specs.Parts.{each}
use Rattle.timing.specs.Table.{Table, pin_count}
use Rattle.timing.specs.Structure.{structure}
use Rattle.timing.specs.Paths.{Path}
use Rattle.timing.specs.Rows.{row_length}
use Rattle.printing.specs.Room.{room_rows}
use Rattle.demands.specs.Definitions.{Answered, StrictTotal, AllPaths, row_of}

pub record Reported (t : Table) (mode k : ℕ) (a : Answered t mode k) (credit_of slack_of : Path → ℤ) : Type 0 where
  -- the order is a strict total order on the paths
  pub order : StrictTotal (structure t) slack_of
  -- there is a list of all paths, each once, in that order, and only one
  pub all : List Path
  pub listed : AllPaths (structure t) slack_of all
  pub only : (l : List Path) → AllPaths (structure t) slack_of l → l ≡ all
  -- "exactly the first k, or all if fewer": of any such list, so no other rows are
  pub given : (l : List Path) → AllPaths (structure t) slack_of l → a.rows ≡ min k (length l)
  pub rows : (l : List Path) → AllPaths (structure t) slack_of l
      → room_rows a.rows (row_length (pin_count t)) a.room' ≡ each (row_of (structure t) credit_of slack_of) (take k l)
  -- "Places after the last row stay."
  pub stay : drop (a.rows * row_length (pin_count t)) a.room' ≡ drop (a.rows * row_length (pin_count t)) a.room
  -- of the work area: "after an answer that length is all zero and places beyond it stay"
  pub cleared : a.work' ≡ replicate 8192 0 ++ drop 8192 a.work
