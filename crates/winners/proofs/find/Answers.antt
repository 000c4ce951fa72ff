-- `winners::find` meets its contract.
-- Assumes nothing.
use Rattle.std.proofs.Common.{arith}
use Rattle.timing.proofs.Laws.Accepted.{accepted}
use Rattle.winners.specs.Laws.Finding.{searching-none}
use Rattle.winners.proofs.find.Goals as goal

pub loop-j-init : goal.loop-j-init
loop-j-init c = (searching-none _ _ _ _ _ _ c.requires.1 c.requires.2 c.requires.0 c.none.ensures, c.test_count-n.ensures)

pub bounds-bounds-j : goal.bounds-bounds-j
bounds-bounds-j c = omega (arith, c.loop-j.invariant.1, (accepted _ c.loop-j.invariant.0.finding.prepared.clocked.ready.checked).header.few-tests)
