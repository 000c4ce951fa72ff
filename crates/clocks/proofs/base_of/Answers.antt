-- `clocks::base_of` meets its contract, by the kind of the pin and the mode. No arrival is above 256,000,000, so the difference is one. Assumes nothing.
use mathlib.Core.Path.{◌≡◌, refl, sym, ◌∙◌}
use mathlib.Core.Logic.{◌⊎◌, ◌≢◌}
use Rattle.std.proofs.Common.{arith}
use Rattle.std.proofs.lemmas.Grind.{common_steps}
use Rattle.timing.specs.Kinds.{K, I}
use Rattle.timing.specs.Table.{pin_kind}
use Rattle.timing.specs.Slack.{for_setup, for_hold}
use Rattle.timing.specs.Rows.{mode_of}
use Rattle.clocks.specs.Clocked.{launched}
use Rattle.clocks.specs.Small.{start-most}
use Rattle.clocks.proofs.Basing.{base-setup, base-hold, base-start, base-none}
use Rattle.clocks.proofs.Seeding.{mode-setup, mode-hold}
use Rattle.clocks.proofs.base_of.Goals as goal

pub overflow_sub-result : goal.overflow_sub-result
overflow_sub-result c =
    omega (arith, c.start_arrival-arrival.ensures, start-most _ c.requires.clocked.ready.checked (launched (mode_of c.args.mode)) c.args.p c.requires.inside)

pub returns-then-mode-eq0 : goal.returns-then-mode-eq0
returns-then-mode-eq0 c =
    let t = c.args.table.now in
    let z = mode-setup c.args.mode c.if-mode-eq0.true in
    let k : (pin_kind t c.args.p ≡ K) ⊎ (pin_kind t c.args.p ≡ I) = grind (arith, common_steps) in
    rw z (base-setup t c.args.p _ _ refl (rw z at c.start_arrival-arrival.ensures) ∙ sym (base-start for_setup t c.args.p c.requires.inside k))

pub returns-else-mode-eq0 : goal.returns-else-mode-eq0
returns-else-mode-eq0 c =
    let t = c.args.table.now in
    let z = mode-hold c.args.mode c.if-mode-eq0.false in
    let k : (pin_kind t c.args.p ≡ K) ⊎ (pin_kind t c.args.p ≡ I) = grind (arith, common_steps) in
    rw z (base-hold t c.args.p _ (rw z at c.start_arrival-arrival.ensures) ∙ sym (base-start for_hold t c.args.p c.requires.inside k))

pub returns-in_default : goal.returns-in_default
returns-in_default c =
    let t = c.args.table.now in
    let k : pin_kind t c.args.p ≢ K = grind (arith, common_steps) in
    let i : pin_kind t c.args.p ≢ I = grind (arith, common_steps) in
    sym (base-none (mode_of c.args.mode) t c.args.p c.requires.inside k i)

pub returns-in_default-2 : goal.returns-in_default-2
returns-in_default-2 c =
    let t = c.args.table.now in
    let k : pin_kind t c.args.p ≢ K = grind (arith, common_steps) in
    let i : pin_kind t c.args.p ≢ I = grind (arith, common_steps) in
    sym (base-none (mode_of c.args.mode) t c.args.p c.requires.inside k i)
