-- `tables::check_arcs` meets its contract. Assumes nothing.
use Rattle.std.proofs.Common.{rules}
use Rattle.timing.specs.Check.{arc_ground, arc_grounds}
use Rattle.tables.proofs.Loops.{tried}
use Rattle.tables.proofs.check_arcs.Goals as goal

pub returns : goal.returns
unfolding arc_grounds
returns c = tried _ _ (arc_ground c.args.table.now) (λ x v q h. search rules) _ c.arc_count.ensures c.try_for_each.ensures.runs
