-- `clocks::common_pin` meets its contract: the two pins keep the common pin of p and q while the deeper is raised, and their depths fall. Assumes nothing.
use Prim.Native.Nat.{◌+◌}
use lib.ListN.{get_or}
use Rattle.area.specs.Area.{depths_at}
use Rattle.clocks.proofs.Meeting.{Climbing}
use Rattle.clocks.proofs.common_pin.Given as goal

abbrev pub invariant-loop-p : goal.invariant-loop-p
invariant-loop-p l = Climbing l.table l.work l.initial.p l.initial.q l.p l.q

abbrev pub decreases-loop-p : goal.decreases-loop-p
decreases-loop-p l = get_or l.work (depths_at + l.p) 0 + get_or l.work (depths_at + l.q) 0
