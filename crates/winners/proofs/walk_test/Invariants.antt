-- `winners::walk_test` meets its contract. The invariant: what is still to come makes of the list what all walks of the test make of the list at the start. Each turn
-- of the loop has a walk less to come.
-- Assumes nothing.
use mathlib.Core.List.{◌++◌}
use lib.ListN.{length}
use Rattle.timing.specs.Structure.{structure}
use Rattle.walker.specs.Cursors.{found, coming}
use Rattle.walker.specs.Slots.{Still}
use Rattle.winners.specs.Walking.{Going}
use Rattle.winners.proofs.walk_test.Given as goal

-- the work area at the loop's head is that at the start, but for turns; so the list at the start is told of there
abbrev pub invariant-loop-c : goal.invariant-loop-c
invariant-loop-c l =
    Going l.table l.mode l.j l.k l.hint l.initial.work l.initial.best l.work l.best l.c
    × Still l.initial.work l.work

abbrev pub decreases-loop-c : goal.decreases-loop-c
decreases-loop-c l = length (found l.work l.c ++ coming (structure l.table) l.work l.c)
