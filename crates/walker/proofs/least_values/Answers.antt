-- `walker::least_values` meets its contract.
-- Assumes nothing.
use Rattle.walker.specs.Laws.Leasts.{into-asks, leasts-next, leasts-all}
use Rattle.walker.proofs.least_values.Goals as goal

pub least_at-requires : goal.least_at-requires
least_at-requires c =
    into-asks _ _ _ _ c.requires c.loop-v.invariant c.loop-v-test.true

pub loop-v-preserved : goal.loop-v-preserved
loop-v-preserved c =
    leasts-next _ _ _ _ _ c.requires c.loop-v.invariant c.loop-v-test.true c.least_at.ensures

pub returns : goal.returns
returns c =
    leasts-all _ _ _ _ c.loop-v-test.false c.loop-v.invariant
