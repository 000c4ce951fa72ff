-- `tables::check_pins` meets its contract. Assumes nothing.
use Rattle.std.proofs.Common.{rules}
use Rattle.timing.specs.declared.Refusal.TheVariants.{PinNumbers}
use Rattle.timing.specs.Check.{pin_bad, pin_grounds}
use Rattle.tables.proofs.Loops.{tried-each}
use Rattle.tables.proofs.check_pins.Goals as goal

pub returns : goal.returns
unfolding pin_grounds
returns c = tried-each _ _ (pin_bad c.args.table.now) PinNumbers (λ x v q h. search rules) _ c.pin_count.ensures c.try_for_each.ensures.runs
