-- `walker::least_into` meets its contract.
-- Assumes nothing.
use Rattle.std.proofs.Common.{◌+◌, arith}
use Rattle.area.specs.Area.{arcs_at}
use Rattle.walker.specs.Laws.Leasts.{so-none, so-small, so-more, so-all}
use Rattle.walker.proofs.least_into.Goals as goal

pub loop-i-init : goal.loop-i-init
loop-i-init c = so-none _ _ c.requires.pin

pub overflow_add-work : goal.overflow_add-work
overflow_add-work c =
    omega (arith, so-small _ _ _ _ _ _ _ c.loop-i.invariant c.loop-i-test.true c.requires c.from_in-from.ensures c.weight_in.ensures, c.type_inv.work (arcs_at + c.loop-i.i))

pub loop-i-preserved : goal.loop-i-preserved
loop-i-preserved c =
    so-more _ _ _ _ _ _ _ c.loop-i.invariant c.loop-i-test.true c.requires c.from_in-from.ensures c.weight_in.ensures _ (omega arith) (omega arith)

pub returns : goal.returns
returns c = so-all _ _ _ _ _ c.loop-i.invariant c.loop-i-test.false
