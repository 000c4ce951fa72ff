-- `reader::design_at` meets its contract. The line is absent, or its own grounds decide. Assumes nothing.
use Rattle.std.proofs.Common.{ap, sym, ◌∙◌}
use Rattle.std.proofs.lemmas.Result.{err_from_is_err_and}
use Rattle.timing.specs.Line.{four_of}
use Rattle.reader.proofs.Told.{told-ok, told-err, ok_or-some, ok_or-none}
use Rattle.reader.proofs.Grounds.{design-there, design-absent, design-behind, design-is}
use Rattle.reader.proofs.design_at.Goals as goal

pub returns-in_err-line : goal.returns-in_err-line
returns-in_err-line c =
    let p = err_from_is_err_and c.from_residual.result c.from_residual.ensures.1 in
    let q = ok_or-none _ _ _ c.in_err-line.ensures.value in
    rw (p.1, p.2, q.1) (design-absent _ (rw (q.0, c.open.ensures.0, c.open.ensures.1) at c.whole_line.ensures))

pub returns-in_err-numbers : goal.returns-in_err-numbers
returns-in_err-numbers c =
    let p = err_from_is_err_and c.from_residual-in_err-numbers.result c.from_residual-in_err-numbers.ensures.1 in
    let w = rw (ok_or-some _ _ _ c.in_ok-line.ensures.value, c.open.ensures.0, c.open.ensures.1) at c.whole_line.ensures in
    rw (p.1, p.2) (design-there _ _ w.0 w.1.0 ∙ told-err _ _ _ c.in_err-numbers.ensures)

pub returns : goal.returns
returns c =
    let w = rw (ok_or-some _ _ _ c.in_ok-line.ensures.value, c.open.ensures.0, c.open.ensures.1) at c.whole_line.ensures in
    let t = told-ok _ _ _ c.in_ok-numbers.ensures in
    (design-there _ _ w.0 w.1.0 ∙ t.0, (w.1.1 ∙ design-behind _, t.1 ∙ ap four_of (w.1.0 ∙ sym (design-is _))))
