-- `laying::lay` meets its contract: the least values are made from the seeds of the test.
-- Assumes nothing.
use Rattle.laying.specs.Laws.Laid.{laid_of, lay-of}
use Rattle.laying.proofs.lay.Goals as goal

pub least_values-requires : goal.least_values-requires
least_values-requires c =
    let s = c.seed.ensures.0 in
    rw c.pin_count.ensures (laid_of _ _ _ _ s.prepared s.laid)

pub returns : goal.returns
returns c =
    lay-of _ _ _ _ _ _ c.requires.1 c.seed.ensures.1 c.seed.ensures.0 (rw c.pin_count.ensures at c.least_values.ensures)
