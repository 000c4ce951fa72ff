-- `clocks::start_arrival` meets its contract, by the pin's kind and the mode. Assumes nothing.
use mathlib.Core.Path.{◌≡◌, sym, ◌∙◌}
use mathlib.Core.Logic.{◌≢◌}
use Rattle.std.proofs.Common.{arith}
use Rattle.std.proofs.lemmas.Grind.{common_steps}
use Rattle.timing.specs.Kinds.{K}
use Rattle.timing.specs.Table.{early, late, pin_kind}
use Rattle.clocks.specs.Small.{few-pins}
use Rattle.clocks.specs.Known.{k-pin}
use Rattle.clocks.proofs.Seeding.{mode-setup, mode-hold, start-some, start-own}
use Rattle.clocks.proofs.start_arrival.Goals as goal

pub bounds-work-p : goal.bounds-work-p
bounds-work-p c = omega (arith, c.requires.inside, c.requires.clocked.ready.room, few-pins _ c.requires.clocked.ready.checked)

pub bounds-work-p-else-mode-eq0 : goal.bounds-work-p-else-mode-eq0
bounds-work-p-else-mode-eq0 c = omega (arith, c.requires.inside, c.requires.clocked.ready.room, few-pins _ c.requires.clocked.ready.checked)

pub returns-then-mode-eq0 : goal.returns-then-mode-eq0
returns-then-mode-eq0 c =
    let t = c.args.table.now in
    let p = c.args.p in
    let l = c.requires.inside in
    let k : pin_kind t p ≡ K = grind (arith, common_steps) in
    rw (mode-setup c.args.mode c.if-mode-eq0.true) (c.requires.clocked.pins.arrival late p l (k-pin t p l k) ∙ sym (start-some t p l late k))

pub returns-else-mode-eq0 : goal.returns-else-mode-eq0
returns-else-mode-eq0 c =
    let t = c.args.table.now in
    let p = c.args.p in
    let l = c.requires.inside in
    let k : pin_kind t p ≡ K = grind (arith, common_steps) in
    rw (mode-hold c.args.mode c.if-mode-eq0.false) (c.requires.clocked.pins.arrival early p l (k-pin t p l k) ∙ sym (start-some t p l early k))

pub returns-then-mode-eq0-2 : goal.returns-then-mode-eq0-2
returns-then-mode-eq0-2 c =
    let t = c.args.table.now in
    let k : pin_kind t c.args.p ≢ K = grind (arith, common_steps) in
    rw (mode-setup c.args.mode c.if-mode-eq0-2.true) (c.pin_late.ensures ∙ sym (start-own t c.args.p c.requires.inside late k))

pub returns-else-mode-eq0-2 : goal.returns-else-mode-eq0-2
returns-else-mode-eq0-2 c =
    let t = c.args.table.now in
    let k : pin_kind t c.args.p ≢ K = grind (arith, common_steps) in
    rw (mode-hold c.args.mode c.if-mode-eq0-2.false) (c.pin_early.ensures ∙ sym (start-own t c.args.p c.requires.inside early k))
