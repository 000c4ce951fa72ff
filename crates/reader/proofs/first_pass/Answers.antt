-- `reader::first_pass` meets its contract. The grounds of the text, stage by stage. Assumes nothing.
use Rattle.std.proofs.Common.{refl, arith}
use Rattle.std.proofs.lemmas.Result.{err_from_is_err_and}
use Rattle.reader.specs.Answer.{survey_of}
use Rattle.reader.proofs.Told.{told-ok, told-err}
use Rattle.reader.proofs.Grounds.{sizes-are, small, long, at-design, at-due, at-ask, ask-is}
use Rattle.reader.proofs.first_pass.Goals as goal

pub returns-then-text-gt-TEXT : goal.returns-then-text-gt-TEXT
unfolding survey_of
returns-then-text-gt-TEXT c = rw (long _ c.if-text-gt-TEXT.true) refl

pub returns-in_err-first : goal.returns-in_err-first
unfolding survey_of
returns-in_err-first c =
    let p = err_from_is_err_and c.from_residual.result c.from_residual.ensures.1 in
    rw (p.1, p.2, at-design _ _ c.if-text-gt-TEXT.false c.in_err-first.ensures) refl

pub lines_due-n-requires : goal.lines_due-n-requires
lines_due-n-requires c =
    let s = sizes-are _ c.sizes-design.result c.in_ok-first.first.value c.sizes-design.ensures c.in_ok-first.ensures.1.1 in
    small _ _ s

pub due_lines-requires-clause-few : goal.due_lines-requires-clause-few
due_lines-requires-clause-few c =
    let s = sizes-are _ c.sizes-design.result c.in_ok-first.first.value c.sizes-design.ensures c.in_ok-first.ensures.1.1 in
    omega (arith, small _ _ s, c.lines_due-n.ensures)

pub returns-in_err-at : goal.returns-in_err-at
unfolding survey_of
returns-in_err-at c =
    let s = sizes-are _ c.sizes-design.result c.in_ok-first.first.value c.sizes-design.ensures c.in_ok-first.ensures.1.1 in
    let p = err_from_is_err_and c.from_residual-in_err-at.result c.from_residual-in_err-at.ensures.1 in
    let g = rw (c.open.ensures.0, c.lines_due-n.ensures) at (told-err _ _ _ c.in_err-at.ensures) in
    rw (p.1, p.2, at-due _ c.sizes-design.result s c.if-text-gt-TEXT.false c.in_ok-first.ensures.0 _ g) refl

pub ask_at-requires-clause-counted : goal.ask_at-requires-clause-counted
ask_at-requires-clause-counted c =
    let s = sizes-are _ c.sizes-design.result c.in_ok-first.first.value c.sizes-design.ensures c.in_ok-first.ensures.1.1 in
    (omega arith, omega (arith, small _ _ s, c.lines_due-n.ensures))

pub returns-in_err-asked : goal.returns-in_err-asked
unfolding survey_of
returns-in_err-asked c =
    let s = sizes-are _ c.sizes-design.result c.in_ok-first.first.value c.sizes-design.ensures c.in_ok-first.ensures.1.1 in
    let p = err_from_is_err_and c.from_residual-in_err-asked.result c.from_residual-in_err-asked.ensures.1 in
    let g = (rw (c.open.ensures.0, c.lines_due-n.ensures) at (told-ok _ _ _ c.in_ok-at.ensures)).0 in
    let t = rw (c.open-2.ensures.0, c.lines_due-n.ensures) at (told-err _ _ _ c.in_err-asked.ensures) in
    rw (p.1, p.2, at-ask _ c.sizes-design.result s c.if-text-gt-TEXT.false c.in_ok-first.ensures.0 g, t) refl

pub returns : goal.returns
unfolding survey_of
returns c =
    let s = sizes-are _ c.sizes-design.result c.in_ok-first.first.value c.sizes-design.ensures c.in_ok-first.ensures.1.1 in
    let g = (rw (c.open.ensures.0, c.lines_due-n.ensures) at (told-ok _ _ _ c.in_ok-at.ensures)).0 in
    let t = rw (c.open-2.ensures.0, c.lines_due-n.ensures) at (told-ok _ _ _ c.in_ok-asked.ensures) in
    rw (at-ask _ c.sizes-design.result s c.if-text-gt-TEXT.false c.in_ok-first.ensures.0 g, t.0, t.1, ask-is _ _ s, ← s.pins-are, ← s.arcs-are, ← s.tests-are) refl
