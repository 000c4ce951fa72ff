-- `clocks::credit_from` meets its contract: from a K the credit of the common pin, else 0. Assumes nothing.
use mathlib.Core.Path.{◌≡◌, sym, ap, ◌∙◌}
use mathlib.Core.Logic.{◌≢◌}
use Rattle.std.proofs.Common.{arith}
use Rattle.std.proofs.lemmas.Grind.{common_steps}
use Rattle.timing.specs.Kinds.{K}
use Rattle.timing.specs.Table.{pin_kind}
use Rattle.timing.specs.Structure.{structure, times}
use Rattle.timing.specs.Clock.{pin_credit}
use Rattle.clocks.specs.Known.{k-pin, spans, credit-is}
use Rattle.clocks.proofs.Seeding.{credit-some, credit-none}
use Rattle.clocks.proofs.credit_from.Goals as goal

pub common_pin-requires : goal.common_pin-requires
common_pin-requires c =
    let k : pin_kind c.args.table.now c.args.p ≡ K = grind (arith, common_steps) in
    record { clocked = c.requires.clocked; one = k-pin c.args.table.now c.args.p c.requires.inside k; other = c.requires.clock }

pub credit_at-requires : goal.credit_at-requires
credit_at-requires c = spans c.args.table.now c.args.work.now c.requires.clocked c.common_pin.result c.common_pin.ensures.pin

pub returns-in-Some-K : goal.returns-in-Some-K
returns-in-Some-K c =
    let t = c.args.table.now in
    let q = c.common_pin in
    let k : pin_kind t c.args.p ≡ K = grind (arith, common_steps) in
    record {
      is = λ m.
          c.credit_at.ensures ∙ credit-is t c.args.work.now c.requires.clocked q.result q.ensures.pin
          ∙ ap (pin_credit (structure t) (times t)) q.ensures.is ∙ sym (credit-some t c.args.p c.requires.inside m c.args.c k);
    }

pub returns-in_default : goal.returns-in_default
returns-in_default c =
    let k : pin_kind c.args.table.now c.args.p ≢ K = grind (arith, common_steps) in
    record { is = λ m. sym (credit-none c.args.table.now c.args.p c.requires.inside m c.args.c k) }

pub returns-in_default-2 : goal.returns-in_default-2
returns-in_default-2 c =
    let k : pin_kind c.args.table.now c.args.p ≢ K = grind (arith, common_steps) in
    record { is = λ m. sym (credit-none c.args.table.now c.args.p c.requires.inside m c.args.c k) }
