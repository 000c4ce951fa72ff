-- `clocks::lower_of` meets its contract: the clock of a test is a K, whose arrivals stand in the area; its data pin is one of at most 256. Assumes nothing.
use mathlib.Core.Path.{refl, ap}
use Prim.Native.Nat.{ℕ, ◌*◌}
use native.Mathlib.Omega.{arith}
use Rattle.timing.specs.Table.{late}
use Rattle.clocks.proofs.Seeding.{clock-most, clock-few, mode-setup, mode-hold, lower-setup, lower-hold, hold-most}
use Rattle.clocks.proofs.lower_of.Goals as goal

pub bounds-work-test_clock : goal.bounds-work-test_clock
bounds-work-test_clock c =
    let k = c.requires.clocked in
    omega (arith, clock-few c.args.table.now c.args.work.now k c.args.j c.requires.inside _ c.test_clock.ensures, k.ready.room)

pub overflow_add-result-else-mode-eq0-2 : goal.overflow_add-result-else-mode-eq0-2
overflow_add-result-else-mode-eq0-2 c =
    let k = c.requires.clocked in
    omega (
      arith,
      c.test_hold.ensures,
      hold-most c.args.table.now c.args.work.now k c.args.j c.requires.inside,
      clock-most c.args.table.now c.args.work.now k c.args.j c.requires.inside late _ c.test_clock.ensures,
    )

pub returns-then-mode-eq0 : goal.returns-then-mode-eq0
returns-then-mode-eq0 c =
    rw (mode-setup c.args.mode c.if-mode-eq0.true)
    (lower-setup c.args.table.now c.args.work.now c.requires.clocked c.args.j c.requires.inside _ _ c.test_setup.ensures
    (ap (λ (q : ℕ). q * 1000000) c.test_data-height.ensures))

pub returns-else-mode-eq0 : goal.returns-else-mode-eq0
returns-else-mode-eq0 c =
    rw (mode-hold c.args.mode c.if-mode-eq0.false)
    (lower-hold c.args.table.now c.args.work.now c.requires.clocked c.args.j c.requires.inside _ _ _ c.test_clock.ensures refl c.test_hold.ensures)
