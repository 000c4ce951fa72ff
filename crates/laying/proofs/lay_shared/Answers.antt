-- `laying::lay_shared` meets its contract: the least values are made from the seeds of the shared clock pin.
-- Assumes nothing.
use mathlib.Core.Path.{◌≡◌}
use Rattle.timing.specs.Table.{pin_count}
use Rattle.laying.specs.Laws.Bounded.{shared-ready, shared-bounds}
use Rattle.laying.proofs.lay_shared.Goals as goal

pub least_values-requires : goal.least_values-requires
least_values-requires c =
    let p = c.requires in
    let e = c.seeds.ensures in
    rw c.pin_count.ensures (shared-ready _ _ _ _ _ p.0 p.1 c.shared_clock-clock.ensures e.1 (e.0 _ p.0.based))

pub returns : goal.returns
returns c =
    let k = c.least_values in
    let e = c.seeds.ensures in
    let n : c.pin_count.result ≡ pin_count c.args.table.now = c.pin_count.ensures in
    shared-bounds _ _ _ _ _ c.requires.0 c.requires.1 c.shared_clock-clock.ensures e.1 (e.0 _ c.requires.0.based) _ (rw n at k.ensures)
