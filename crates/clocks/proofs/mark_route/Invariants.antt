-- `clocks::mark_route` meets its contract: what is left of c's route is the route of the pin at hand, which its driver shortens. Assumes nothing.
use Rattle.clocks.proofs.Routing.{Marking, above}
use Rattle.clocks.proofs.mark_route.Given as goal

abbrev pub invariant-loop-pin : goal.invariant-loop-pin
invariant-loop-pin l = Marking l.table l.c l.pin l.initial.work l.work

abbrev pub decreases-loop-pin : goal.decreases-loop-pin
decreases-loop-pin l = above l.pin
