-- `reader::due_at` meets its contract. The line is plain, or absent, or its own grounds decide. Assumes nothing.
use Rattle.std.proofs.Common.{◌+◌, arith}
use Rattle.std.proofs.lemmas.Result.{err_from_is_err_and}
use Rattle.reader.specs.Cut.{start-most}
use Rattle.reader.proofs.Told.{ok_or-some, ok_or-none}
use Rattle.reader.proofs.Grounds.{due-plain, due-read, due-refused, due-absent}
use Rattle.reader.proofs.due_at.Goals as goal

pub plain_at-requires : goal.plain_at-requires
plain_at-requires c = omega (arith, c.requires.here, start-most 10 c.args.reader.text.now (c.args.i + 1))

pub returns-in-Some : goal.returns-in-Some
returns-in-Some c = due-plain c.args.reader.text.now c.args.reader.at c.args.design.pins c.args.design.arcs c.args.i _ c.in-Some.ensures c.requires.here

pub whole_line-requires : goal.whole_line-requires
whole_line-requires c = omega (arith, c.requires.here, start-most 10 c.args.reader.text.now (c.args.i + 1))

pub returns-in_err-line : goal.returns-in_err-line
returns-in_err-line c =
    let p = err_from_is_err_and c.from_residual.result c.from_residual.ensures.1 in
    let q = ok_or-none _ _ _ c.in_err-line.ensures.value in
    rw (p.1, p.2, q.1) (due-absent c.args.reader.text.now c.args.reader.at c.args.design.pins c.args.design.arcs c.args.i c.requires.here (rw q.0 at c.whole_line.ensures))

pub returns-in_err-numbers : goal.returns-in_err-numbers
returns-in_err-numbers c =
    let p = err_from_is_err_and c.from_residual-in_err-numbers.result c.from_residual-in_err-numbers.ensures.1 in
    let w = rw (ok_or-some _ _ _ c.in_ok-line.ensures.value) at c.whole_line.ensures in
    rw (p.1, p.2) (due-refused c.args.reader.text.now c.args.reader.at c.args.design.pins c.args.design.arcs c.args.i c.requires.here _ _ w.0 w.1.0 c.in_err-numbers.ensures)

pub returns : goal.returns
returns c =
    let w = rw (ok_or-some _ _ _ c.in_ok-line.ensures.value) at c.whole_line.ensures in
    due-read c.args.reader.text.now c.args.reader.at c.args.design.pins c.args.design.arcs c.args.i c.requires.here _ _ w.0 w.1.0 w.1.1 c.in_ok-numbers.ensures.0 c.in_ok-numbers.ensures.1
