-- `reader::due_lines` meets its contract. The lines passed have no fault, and the next begins at the reader's place. Assumes nothing.
use Rattle.std.proofs.Common.{◌≡◌, refl, arith}
use Rattle.std.proofs.lemmas.Result.{err_from_is_err_and}
use Rattle.lists.proofs.Laws.Scan.{gather_none, gather-some}
use Rattle.reader.proofs.due_lines.Goals as goal

pub returns-in_err-reader : goal.returns-in_err-reader
returns-in_err-reader c =
    let p = err_from_is_err_and c.from_residual.result c.from_residual.ensures.1 in
    let q = c.loop-i.invariant in
    rw (p.1, p.2, gather-some _ _ _ _ c.loop-i-test.true q.1.clean (rw q.0 at c.in_err-reader.ensures)) refl

pub returns : goal.returns
returns c =
    let q = c.loop-i.invariant in
    let k : c.loop-i.i ≡ c.args.n = omega arith in
    rw (← k, gather_none _ _ q.1.clean, q.1.here) refl
