-- `tables::root_count` meets its contract. Assumes nothing.
use Rattle.std.proofs.Common.{rules, arith, ◌∙◌}
use Rattle.std.proofs.Common.{tests}
use Rattle.std.proofs.lemmas.Iterator.{YieldsList-from_range}
use Rattle.std.proofs.lemmas.Iterator.Consumers.{count_from_yields_List, YieldsList-from_filter}
use Rattle.timing.specs.Check.{is_root}
use Rattle.timing.specs.Table.{pin_count}
use Rattle.tables.proofs.Loops.{counted}
use Rattle.tables.proofs.root_count.Goals as goal

pub returns : goal.returns
returns c =
    let t = c.args.table.now in
    count_from_yields_List _ _ c.count.ensures.ran (YieldsList-from_filter _ (is_root t) (YieldsList-from_range 0 (pin_count t) (pin_count t) (cc) (omega arith)) c.filter.ensures.closure (λ x r q k. search (rules, tests)))
    ∙ counted (is_root t) (pin_count t)
