-- `laying::add_counts` meets its contract. The invariant: the counts of the tests passed are added up.
-- Assumes nothing.
use mathlib.Core.Path.{◌≡◌, sym, ◌∙◌}
use native.Mathlib.Omega.{arith}
use Rattle.lists.proofs.Laws.Count.{count_to-none, count_to-more}
use Rattle.timing.specs.Limits.{most_total}
use Rattle.timing.specs.Table.{test_data}
use Rattle.laying.proofs.Turns.{low-data}
use Rattle.laying.proofs.add_counts.Goals as goal

pub loop-test-init : goal.loop-test-init
loop-test-init c = sym (count_to-none most_total _)

pub bounds-work-data : goal.bounds-work-data
bounds-work-data c = omega (arith, low-data _ c.requires.checked c.loop-test.test (omega arith) _ c.test_data-data.ensures, c.requires.room)

pub loop-test-preserved : goal.loop-test-preserved
loop-test-preserved c =
    let e : c.test_data-data.result ≡ test_data c.args.table.now c.loop-test.test = c.test_data-data.ensures in
    c.add_capped-sum.ensures ∙ rw (e, c.loop-test.invariant) (sym (count_to-more most_total _ c.loop-test.test))
