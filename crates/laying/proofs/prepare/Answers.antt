-- `laying::prepare` meets its contract: the clock side is written behind the sorted arcs.
-- Assumes nothing.
use mathlib.Core.Path.{◌∙◌}
use Rattle.arcs.specs.Laws.Kept.{accepted-whole}
use Rattle.laying.specs.Laws.Prepared.{clocks-prepared}
use Rattle.laying.proofs.prepare.Goals as goal

pub sort-requires-clause-whole : goal.sort-requires-clause-whole
sort-requires-clause-whole c = accepted-whole _ c.requires.checked

pub returns : goal.returns
returns c =
    let b = c.bases in
    let k = c.clocks in
    let s = c.sort in
    (clocks-prepared _ _ _ _ _ s.ensures.by-arcs k.ensures.0 k.ensures.1 b.ensures.0 b.ensures.1, b.ensures.1.long ∙ k.ensures.1.long ∙ s.auto.work)
