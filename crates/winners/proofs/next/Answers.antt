-- `winners::next` meets its contract.
-- Assumes nothing.
use mir.Syntax.{w64}
use mir.ValLaws.{to_z-of_z}
use Rattle.arcs.specs.Sorting.{weighing}
use Rattle.timing.specs.Structure.{structure}
use Rattle.laying.specs.Standing.{test_seed}
use Rattle.winners.proofs.next.Goals as goal

pub returns : goal.returns
returns c =
    let N = c.next_walk.ensures in
    record {
      bound = c.under_of-under.result;
      is = rw (to_z-of_z w64 c.args.hint c.ranges.hint) at c.under_of-under.ensures;
      went = N.gone (structure c.args.table.now) (weighing c.args.table.now c.args.mode) (test_seed c.args.table.now c.args.mode c.args.j) c.requires.1;
      ended = N.ended;
    }
