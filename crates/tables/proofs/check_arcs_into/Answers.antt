-- `tables::check_arcs_into` meets its contract. Assumes nothing.
use Rattle.std.proofs.Common.{rules}
use Rattle.timing.specs.declared.Refusal.TheVariants.{ArcsInto}
use Rattle.timing.specs.Check.{into_bad, into_grounds}
use Rattle.tables.proofs.Loops.{tried-each}
use Rattle.tables.proofs.check_arcs_into.Goals as goal

pub returns : goal.returns
unfolding into_grounds
returns c = tried-each _ _ (into_bad c.args.table.now) ArcsInto (λ x v q h. search rules) _ c.pin_count.ensures c.try_for_each.ensures.runs
