-- `winners::under_of` meets its contract.
-- Assumes nothing.
use Rattle.std.proofs.Common.{arith}
use Rattle.laying.specs.Laws.Small.{raise-small, lower-small}
use Rattle.winners.proofs.under_of.Goals as goal

pub reach-requires : goal.reach-requires
reach-requires c =
    let r = raise-small c.args.table.now c.args.mode c.args.j c.args.work.now c.requires.0 in
    let l = lower-small c.args.table.now c.args.mode c.args.j c.args.work.now c.requires.0 in
    (omega (arith, c.raise_of-raise.ensures), omega (arith, c.lower_of-lower.ensures))
