-- `tables::check_tests` meets its contract. Assumes nothing.
use Rattle.std.proofs.Common.{rules}
use Rattle.timing.specs.declared.Refusal.TheVariants.{TestNumbers}
use Rattle.timing.specs.Check.{test_bad, test_grounds}
use Rattle.tables.proofs.Loops.{tried-each}
use Rattle.tables.proofs.check_tests.Goals as goal

pub returns : goal.returns
unfolding test_grounds
returns c = tried-each _ _ (test_bad c.args.table.now) TestNumbers (λ x v q h. search rules) _ c.test_count.ensures c.try_for_each.ensures.runs
