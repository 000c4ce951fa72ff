-- `laying::shared_clock` meets its contract. The invariant: the pin is on the clock routes of the tests passed.
-- Assumes nothing.
use Prim.Native.Nat.{◌<◌}
use native.Mathlib.Omega.{arith}
use Rattle.timing.specs.Table.{test_count}
use Rattle.clocks.specs.Known.{test-clock}
use Rattle.laying.specs.Laws.Bounded.{above-first, above_more}
use Rattle.laying.proofs.shared_clock.Goals as goal

pub loop-test-init : goal.loop-test-init
loop-test-init c = above-first _ c.requires.0.ready.checked c.requires.1 _ c.test_clock-clock.ensures

pub common_pin-clock-requires : goal.common_pin-clock-requires
common_pin-clock-requires c =
    let p = c.requires.0 in
    let inside : c.loop-test.test < test_count c.args.table.now = omega arith in
    record { clocked = p; one = c.loop-test.invariant.pin; other = rw c.test_clock-other.ensures (test-clock _ p.ready.checked _ inside) }

pub loop-test-preserved : goal.loop-test-preserved
loop-test-preserved c =
    above_more _ c.requires.0.ready.checked _ _ _ _ (omega arith) c.test_clock-other.ensures c.loop-test.invariant c.common_pin-clock.ensures
