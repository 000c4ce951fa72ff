-- `laying::seed` meets its contract: the seeds are those of the test's clock pin.
-- Assumes nothing.
use mathlib.Core.Path.{◌≡◌}
use Rattle.timing.specs.Table.{test_clock}
use Rattle.clocks.specs.Known.{test-clock}
use Rattle.laying.specs.Laws.Prepared.{sown}
use Rattle.laying.proofs.seed.Goals as goal

pub seeds-requires : goal.seeds-requires
seeds-requires c =
    let p = c.requires.0.clocked in
    (p, rw c.test_clock.ensures (test-clock _ p.ready.checked _ c.requires.1))

pub returns : goal.returns
returns c =
    let e : c.test_clock.result ≡ test_clock c.args.table.now c.args.j = c.test_clock.ensures in
    (sown _ _ _ c.requires.1 _ _ c.requires.0 c.seeds.ensures.1 (rw e at (c.seeds.ensures.0 _ c.requires.0.based)), c.seeds.ensures.1)
