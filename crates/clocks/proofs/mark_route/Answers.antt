-- `clocks::mark_route` meets its contract: what is left of c's route is the route of the pin at hand, which its driver shortens. Assumes nothing.
use native.Mathlib.Omega.{arith}
use lib.ListN.{length-set}
use Rattle.clocks.specs.Known.{spans}
use Rattle.area.specs.Laws.Kept.{kept-join}
use Rattle.clocks.proofs.Routing.{Marking, marking-pin, marking-few, marking-room, marking-clocked, marking-turn, marking-end}
use Rattle.clocks.proofs.mark_route.Goals as goal

pub credit_at-requires : goal.credit_at-requires
credit_at-requires c =
    let s : Marking _ _ _ _ _ = rw c.in-Some.is at c.loop-pin.invariant in
    spans _ _ (marking-clocked _ _ _ _ _ s) c.in-Some.v (marking-pin _ _ _ _ _ s)

pub bounds-work-v : goal.bounds-work-v
bounds-work-v c =
    let s = rw c.in-Some.is at c.loop-pin.invariant in omega (arith, marking-few _ _ _ _ _ s, marking-room _ _ _ _ _ s)

pub driver_of-pin-requires : goal.driver_of-pin-requires
driver_of-pin-requires c =
    let s = rw c.in-Some.is at c.loop-pin.invariant in simp length-set (omega (arith, marking-few _ _ _ _ _ s, marking-room _ _ _ _ _ s))

pub loop-pin-smaller : goal.loop-pin-smaller
loop-pin-smaller c =
    let s = rw c.in-Some.is at c.loop-pin.invariant in
    rw (c.in-Some.is, c.driver_of-pin.ensures) (marking-turn _ _ _ _ _ s _ c.credit_at.ensures).1

pub loop-pin-preserved : goal.loop-pin-preserved
loop-pin-preserved c =
    let s = rw c.in-Some.is at c.loop-pin.invariant in
    rw c.driver_of-pin.ensures (marking-turn _ _ _ _ _ s _ c.credit_at.ensures).0

pub returns : goal.returns
returns c =
    let s = rw c.in_default.is at c.loop-pin.invariant in
    (marking-end _ _ _ _ s, kept-join _ _ _ _ _ _ _ c.no_credits.ensures.1 s.kept (omega arith) (omega arith))
