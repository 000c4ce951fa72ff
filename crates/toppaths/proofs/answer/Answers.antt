-- `toppaths::answer` meets its contract: a text that is read lends its table to the asking, one that is refused prints its refusal. Assumes nothing.
use Rattle.std.proofs.Common.{◌≡◌, sym, ap, ◌∙◌, length, take, arith, rules, Ok, Err}
use Rattle.lists.specs.Laws.Write.{sets}
use Rattle.timing.specs.Table.{Table}
use Rattle.timing.specs.Field.{Bytes}
use Rattle.timing.specs.Text.{reading}
use Rattle.timing.specs.Printed.{printed_table}
use Rattle.printing.specs.Put.{counted}
use Rattle.toppaths.specs.Read.{read_fits, read_table, read-printed, refused-printed}
use Rattle.toppaths.proofs.answer.Goals as goal

pub slice_bounds-asked-end : goal.slice_bounds-asked-end
slice_bounds-asked-end c = let f = read_fits c.args.text.now (length c.args.table.now) c.in-Ok.field-0 (sym c.in-Ok.is ∙ c.read.ensures.0) in omega arith

pub slice_bounds-asked-end-in-Ok : goal.slice_bounds-asked-end-in-Ok
slice_bounds-asked-end-in-Ok c = let f = read_fits c.args.text.now (length c.args.table.now) c.in-Ok.field-0 (sym c.in-Ok.is ∙ c.read.ensures.0) in search rules

pub returns-in-Ok : goal.returns-in-Ok
returns-in-Ok c =
    let s = c.args in
    let r = c.in-Ok.field-0 in
    let told : Ok r ≡ reading s.text.now (length s.table.now) = sym c.in-Ok.is ∙ c.read.ensures.0 in
    let table = ap (take r.length) c.read.ensures.1 ∙ read_table s.text.now s.table.now r told in
    let e = ap (λ (t : Table). printed_table t r.mode r.k) table ∙ read-printed s.text.now r (told ∙ ap (reading s.text.now) c.requires.0) in
    (c.asked.ensures.0 ∙ ap (λ (x : Bytes). counted (length x)) e, c.asked.ensures.1 ∙ ap (λ (x : Bytes). sets s.out.now 0 x) e)

pub returns-in-Err : goal.returns-in-Err
returns-in-Err c =
    let s = c.args in
    let told : Err c.in-Err.refusal ≡ reading s.text.now (length s.table.now) = sym c.in-Err.is ∙ c.read.ensures.0 in
    let e = refused-printed s.text.now c.in-Err.refusal 0 s.room.now (told ∙ ap (reading s.text.now) c.requires.0) in
    (c.print.ensures.0 ∙ ap (λ (x : Bytes). counted (length x)) e, c.print.ensures.1 ∙ ap (λ (x : Bytes). sets s.out.now 0 x) e)
