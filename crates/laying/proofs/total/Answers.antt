-- `laying::total` meets its contract: a count knows no seed, so those of the first test serve for all.
-- Assumes nothing.
use mathlib.Core.Path.{◌≡◌, sym, ◌∙◌}
use native.Mathlib.Omega.{arith}
use Rattle.timing.specs.Table.{pin_count}
use Rattle.laying.specs.Laws.Prepared.{laid-ready}
use Rattle.laying.specs.Laws.Totals.{total-none, counts-prepared, counts-total}
use Rattle.laying.proofs.total.Goals as goal

pub returns-then-test_count-eq0 : goal.returns-then-test_count-eq0
returns-then-test_count-eq0 c = (total-none _ (sym c.test_count.ensures ∙ c.if-test_count-eq0.true), c.requires)

pub counts-requires : goal.counts-requires
counts-requires c = rw c.pin_count.ensures (let k = c.seed.ensures.0 in laid-ready _ _ _ _ k.prepared k.laid _ (omega arith))

pub add_counts-requires : goal.add_counts-requires
add_counts-requires c =
    let e : c.pin_count.result ≡ pin_count c.args.table.now = c.pin_count.ensures in
    let counted = rw e at c.counts.ensures in
    (counts-prepared _ _ _ _ _ c.seed.ensures.0 counted c.counts.auto.work).clocked.ready

pub returns : goal.returns
returns c =
    let e : c.pin_count.result ≡ pin_count c.args.table.now = c.pin_count.ensures in
    let counted = rw e at c.counts.ensures in (
      c.add_counts.ensures ∙ counts-total _ _ _ _ _ c.seed.ensures.0 counted,
      counts-prepared _ _ _ _ _ c.seed.ensures.0 counted c.counts.auto.work,
    )
