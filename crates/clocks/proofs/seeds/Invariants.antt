-- `clocks::seeds` meets its contract: once the route is marked, the credits and seeds of the pins below p are laid, and the clock side's part is as it was.
use Rattle.clocks.proofs.Handing.{Handing}
use Rattle.clocks.proofs.seeds.Given as goal

abbrev pub invariant-loop-p : goal.invariant-loop-p
invariant-loop-p l = Handing l.table l.c l.p l.initial.work l.work
