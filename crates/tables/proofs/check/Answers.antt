-- `tables::check` meets its contract: past the header's check its numbers fit. Assumes nothing.
use Rattle.std.proofs.Common.{rules}
use Rattle.timing.specs.declared.Refusal.TheVariants.{TableHeader}
use Rattle.timing.proofs.Laws.Accepted.{header-fits}
use Rattle.tables.proofs.Order.{fine-not}
use Rattle.tables.proofs.check.Goals as goal

pub check_arcs_into-requires : goal.check_arcs_into-requires
check_arcs_into-requires c = header-fits _ (fine-not _ TableHeader (search rules))
