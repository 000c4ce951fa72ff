-- Slack before and after credit (004, Definitions 1 and 2), and the order of the paths.
-- A slack is a difference of two sums: what counts for the path, and what counts against it.
-- Assumes nothing.
use Rattle.std.specs.Prelude.{ℕ, ◌+◌, List, [], eqb, ℤ}
use Rattle.std.proofs.Math.IntN.{sub_ℕ}
use Rattle.lists.specs.Choice.{pick}
use Rattle.lists.specs.Parts.{sum}
use Rattle.lists.specs.Rank.{rank, by}
use Rattle.timing.specs.Kinds.{K}
use Rattle.timing.specs.Table.{Edge, early, late}
use Rattle.timing.specs.Structure.{Structure, kind, clock_pin, Times}
use Rattle.timing.specs.Clock.{clock_arrival, common, pin_credit}
use Rattle.timing.specs.Paths.{Path, start, paths}

pub data Mode : Type 0 where
  for_setup for_hold : Mode

-- the arrival of a start: a K's clock arrival, an I's own
unfoldable pub start_arrival : Edge → Structure → Times → ℕ → ℕ
start_arrival e s x p = pick (eqb (kind s p) K) (clock_arrival e s x p) (x.arrival e p)

-- "A path from a K gets the credit of the lowest common ancestor of that K and the test's clock. .. A path from an I gets 0." In both modes alike.
unfoldable pub path_credit : Mode → Structure → Times → Path → ℕ
path_credit m s x p = pick (eqb (kind s (start s p)) K) (pin_credit s x (common s (start s p) (clock_pin s p.test))) 0

-- "Setup before credit: early arrival of the test's clock + period - setup - late arrival of the start - late delays of the path."
-- "Hold before credit: early arrival of the start + early delays - late arrival of the test's clock - hold."
unfoldable pub gain : Mode → Structure → Times → Path → ℕ
gain for_setup s x p = clock_arrival early s x (clock_pin s p.test) + x.period
gain for_hold s x p = start_arrival early s x (start s p) + sum (x.delay early) p.walk

unfoldable pub loss : Mode → Structure → Times → Path → ℕ
loss for_setup s x p = x.setup p.test + start_arrival late s x (start s p) + sum (x.delay late) p.walk
loss for_hold s x p = clock_arrival late s x (clock_pin s p.test) + x.hold p.test

unfoldable pub slack_before : Mode → Structure → Times → Path → ℤ
slack_before m s x p = sub_ℕ (gain m s x p) (loss m s x p)

-- "The slack of a row: before credit, plus credit."
unfoldable pub slack : Mode → Structure → Times → Path → ℤ
slack m s x p = sub_ℕ (gain m s x p + path_credit m s x p) (loss m s x p)

-- "Smaller slack first; then smaller test number; then the two arc lists are read backwards from the data pin, and at the first difference the
-- smaller arc number comes first." The paths stand by test and arcs already, and ranking keeps equal slacks in that order.
unfoldable pub ranked : Mode → Structure → Times → List Path
ranked m s x = rank (by (slack m s x)) [] (paths s)
