-- `tables::arcs_into` meets its contract: what is counted is the tally of the arcs so far. Assumes nothing.
use mathlib.Core.Path.{◌≡◌, refl}
use Rattle.std.proofs.Common.{rules}
use native.Mathlib.Omega.{arith}
use lib.ListN.{replicate, get_or-replicate}
use Rattle.timing.specs.Table.{arc_count}
use Rattle.tables.proofs.Facts.{so-none, so-most, so-hit, so-miss}
use Rattle.tables.proofs.arcs_into.Goals as goal
use Rattle.tables.proofs.arcs_into.Goals.{then-to-lt-PINS, else-to-lt-PINS}

pub loop-a-init : goal.loop-a-init
loop-a-init c = so-none _ (replicate 256 0) refl (λ p g. get_or-replicate 256 p 0 0 g)

pub overflow_add-counts : goal.overflow_add-counts
overflow_add-counts c = record { fits = omega (arith, so-most _ _ _ c.loop-a.invariant _ c.if-to-lt-PINS.true) }

pub loop-a-preserved : goal.loop-a-preserved
loop-a-preserved c =
    elim c.if-to-lt-PINS.branch [
      | then-to-lt-PINS w ↦
          rw w.counts-is (so-hit _ _ _ c.loop-a.invariant (omega arith) _ (search rules) _ w.if-to-lt-PINS.true refl)
      | else-to-lt-PINS w ↦
          rw w.counts-is (so-miss _ _ _ c.loop-a.invariant (omega arith) _ (search rules) w.if-to-lt-PINS.false)
    ]

pub returns : goal.returns
returns c = let e : c.loop-a.a ≡ arc_count c.args.table.now = omega arith in rw (← e) c.loop-a.invariant.so_far
