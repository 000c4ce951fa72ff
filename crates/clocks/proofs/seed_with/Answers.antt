-- `clocks::seed_with` meets its contract, by whether there is a base. Assumes nothing.
use Rattle.std.proofs.Common.{arith}
use Rattle.std.proofs.lemmas.Grind.{common_steps}
use Rattle.lists.specs.Choice.{pick}
use Rattle.clocks.specs.Clocked.{seed_with}
use Rattle.clocks.proofs.seed_with.Goals as goal

pub returns : goal.returns
unfolding seed_with pick
returns c = grind (arith, common_steps)
