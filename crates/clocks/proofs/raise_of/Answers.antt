-- `clocks::raise_of` meets its contract: the clock of a test is a K, whose arrivals stand in the area. Assumes nothing.
use mathlib.Core.Path.{refl}
use native.Mathlib.Omega.{arith}
use Rattle.timing.specs.Table.{early}
use Rattle.timing.proofs.Laws.Accepted.{accepted}
use Rattle.clocks.proofs.Seeding.{clock-most, clock-few, mode-setup, mode-hold, raise-setup, raise-hold}
use Rattle.clocks.proofs.raise_of.Goals as goal

pub bounds-work-test_clock : goal.bounds-work-test_clock
bounds-work-test_clock c =
    let k = c.requires.clocked in
    omega (arith, clock-few c.args.table.now c.args.work.now k c.args.j c.requires.inside _ c.test_clock.ensures, k.ready.room)

pub overflow_add-result-then-mode-eq0 : goal.overflow_add-result-then-mode-eq0
overflow_add-result-then-mode-eq0 c =
    let k = c.requires.clocked in
    omega (
      arith,
      c.period_of.ensures,
      (accepted c.args.table.now k.ready.checked).header.short-period,
      clock-most c.args.table.now c.args.work.now k c.args.j c.requires.inside early _ c.test_clock.ensures,
    )

pub returns-then-mode-eq0 : goal.returns-then-mode-eq0
returns-then-mode-eq0 c =
    rw (mode-setup c.args.mode c.if-mode-eq0.true)
    (raise-setup c.args.table.now c.args.work.now c.requires.clocked c.args.j c.requires.inside _ _ _ c.test_clock.ensures refl c.period_of.ensures)

pub returns-else-mode-eq0 : goal.returns-else-mode-eq0
returns-else-mode-eq0 c =
    rw (mode-hold c.args.mode c.if-mode-eq0.false) (raise-hold c.args.table.now c.args.work.now c.requires.clocked c.args.j c.requires.inside)
