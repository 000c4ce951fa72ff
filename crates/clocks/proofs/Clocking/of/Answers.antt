-- `clocks::Clocking::of` meets its contract, by the kind of the pin. Assumes nothing.
use mathlib.Core.Path.{◌≡◌, sym, ◌∙◌}
use mathlib.Core.Logic.{◌⊎◌}
use Prim.Native.Nat.{◌<◌}
use Rattle.std.proofs.Common.{arith}
use Rattle.std.proofs.lemmas.Grind.{common_steps}
use Rattle.timing.specs.Kinds.{R, B, K}
use Rattle.timing.specs.Table.{early, late, pin_kind}
use Rattle.timing.proofs.Laws.Columns.{kind-is}
use Rattle.clocks.specs.Tree.{root-times, root-depth}
use Rattle.clocks.proofs.Turn.{not-driven, not-clocked}
use Rattle.clocks.proofs.Clocking.of.Goals.{in_default-via-in-Some+in_default, in_default-via-in_default}
use Rattle.clocks.proofs.Clocking.of.Goals as goal

pub driven-requires : goal.driven-requires
driven-requires c =
    let t = c.args.table.now in
    let k : (pin_kind t c.args.p ≡ B) ⊎ (pin_kind t c.args.p ≡ K) = grind (arith, common_steps) in
    record { next = c.requires; driven = rw (kind-is t c.args.p c.requires.inside) k }

pub returns-in-Some-R : goal.returns-in-Some-R
returns-in-Some-R c =
    let t = c.args.table.now in
    let p = c.args.p in
    let h = c.requires.ready.checked in
    let l = c.requires.inside in
    let k : pin_kind t p ≡ R = grind (arith, common_steps) in
    record {
      is-early = λ _. c.pin_early.ensures ∙ sym (root-times t h early p l k);
      is-late = λ _. c.pin_late.ensures ∙ sym (root-times t h late p l k);
      is-depth = λ _. c.default.ensures.1.1.0 ∙ sym (root-depth t h p l k);
      is-driver = rw c.default.ensures.1.1.1 (not-driven t p l (λ e. omega arith) (λ e. omega arith));
    }

pub returns-in_default : goal.returns-in_default
returns-in_default c =
    let t = c.args.table.now in
    let p = c.args.p in
    let k : K < pin_kind t p =
    elim c.in_default.branch [ in_default-via-in-Some+in_default w ↦ grind (arith, common_steps) | in_default-via-in_default w ↦ grind (arith, common_steps) ] in
    not-clocked t p _ c.requires.inside k c.default-in_default.ensures.1.1.1
