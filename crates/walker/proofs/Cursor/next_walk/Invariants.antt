-- `Cursor::next_walk` meets its contract.
use Rattle.walker.specs.Cursors.{Gone, reach}
use Rattle.walker.proofs.Cursor.next_walk.Given as goal

abbrev pub invariant-loop-c : goal.invariant-loop-c
invariant-loop-c l = Gone l.under l.initial.work l.initial.c l.work l.c

abbrev pub decreases-loop-c : goal.decreases-loop-c
decreases-loop-c l = reach l.work l.c
