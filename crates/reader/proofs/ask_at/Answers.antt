-- `reader::ask_at` meets its contract. The grounds of the `ask` line, one return for each. Assumes nothing.
use Rattle.std.proofs.Common.{◌≡◌, suc, ◌-◌, ◌<◌, length, sym, refl, ◌∙◌, add-one, arith}
use Rattle.std.proofs.lemmas.Result.{err_from_is_err_and}
use Rattle.lists.specs.Laws.Cut.{end_at}
use Rattle.timing.specs.Line.{ask_line}
use Rattle.reader.specs.Cut.{start-most}
use Rattle.reader.proofs.Told.{told-ok, told-err, ok_or-some, ok_or-none}
use Rattle.reader.proofs.Grounds.{ask-none, ask-refused, ask-follows, ask-read}
use Rattle.reader.proofs.Lines.{line-there, line-absent, next-line-at, more-some, more-none}
use Rattle.reader.proofs.ask_at.Goals as goal

pub returns-then-reader-end : goal.returns-then-reader-end
returns-then-reader-end c =
    let k : c.args.n ≡ suc (c.args.n - 1) = omega (arith, c.requires.counted.0) in
    sym (ask-none c.args.reader.text.now (c.args.n - 1) c.args.reader.at (end_at 10 c.args.reader.text.now c.args.reader.at) c.args.n c.requires.here refl k (omega arith))

pub whole_line-requires : goal.whole_line-requires
whole_line-requires c = omega (arith, c.requires.here, start-most 10 c.args.reader.text.now (c.args.n - 1))

pub returns-in_err-line : goal.returns-in_err-line
returns-in_err-line c =
    let k : c.args.n ≡ suc (c.args.n - 1) = omega (arith, c.requires.counted.0) in
    let b = start-most 10 c.args.reader.text.now (c.args.n - 1) in
    let lt : c.args.reader.at < length c.args.reader.text.now = omega (arith, c.requires.here, b) in
    let p = err_from_is_err_and c.from_residual.result c.from_residual.ensures.1 in
    let q = ok_or-none _ _ _ c.in_err-line.ensures.value in
    let o = rw q.0 at c.whole_line.ensures in
    rw (p.1, p.2, q.1) (sym (ask-refused c.args.reader.text.now (c.args.n - 1) c.args.reader.at (end_at 10 c.args.reader.text.now c.args.reader.at) c.args.n c.requires.here refl k lt _ (line-absent c.args.reader.text.now (c.args.n - 1) c.args.reader.at (end_at 10 c.args.reader.text.now c.args.reader.at) c.args.n c.requires.here refl k ask_line o)))

pub returns-in_err-asked : goal.returns-in_err-asked
returns-in_err-asked c =
    let k : c.args.n ≡ suc (c.args.n - 1) = omega (arith, c.requires.counted.0) in
    let b = start-most 10 c.args.reader.text.now (c.args.n - 1) in
    let lt : c.args.reader.at < length c.args.reader.text.now = omega (arith, c.requires.here, b) in
    let p = err_from_is_err_and c.from_residual-in_err-asked.result c.from_residual-in_err-asked.ensures.1 in
    let w = rw (ok_or-some _ _ _ c.in_ok-line.ensures.value) at c.whole_line.ensures in
    rw (p.1, p.2) (sym (ask-refused c.args.reader.text.now (c.args.n - 1) c.args.reader.at (end_at 10 c.args.reader.text.now c.args.reader.at) c.args.n c.requires.here refl k lt _ (line-there c.args.reader.text.now (c.args.n - 1) c.args.reader.at (end_at 10 c.args.reader.text.now c.args.reader.at) c.args.n c.requires.here refl k ask_line w.0 ∙ rw (← w.1.0) (told-err _ _ _ c.in_err-asked.ensures))))

pub returns-then-line-end : goal.returns-then-line-end
returns-then-line-end c =
    let k : c.args.n ≡ suc (c.args.n - 1) = omega (arith, c.requires.counted.0) in
    let b = start-most 10 c.args.reader.text.now (c.args.n - 1) in
    let lt : c.args.reader.at < length c.args.reader.text.now = omega (arith, c.requires.here, b) in
    let w = rw (ok_or-some _ _ _ c.in_ok-line.ensures.value) at c.whole_line.ensures in
    let z = line-there c.args.reader.text.now (c.args.n - 1) c.args.reader.at (end_at 10 c.args.reader.text.now c.args.reader.at) c.args.n c.requires.here refl k ask_line w.0 ∙ rw (← w.1.0) (told-ok _ _ _ c.in_ok-asked.ensures).0 in
    let y = w.1.1 ∙ next-line-at c.args.reader.text.now (c.args.n - 1) c.args.reader.at (end_at 10 c.args.reader.text.now c.args.reader.at) c.args.n c.requires.here refl k in
    sym (ask-follows c.args.reader.text.now (c.args.n - 1) c.args.reader.at (end_at 10 c.args.reader.text.now c.args.reader.at) c.args.n c.requires.here refl k lt z (more-some _ c.args.n _ _ _ y refl (add-one _) c.if-line-end.true))

pub returns : goal.returns
returns c =
    let k : c.args.n ≡ suc (c.args.n - 1) = omega (arith, c.requires.counted.0) in
    let b = start-most 10 c.args.reader.text.now (c.args.n - 1) in
    let lt : c.args.reader.at < length c.args.reader.text.now = omega (arith, c.requires.here, b) in
    let w = rw (ok_or-some _ _ _ c.in_ok-line.ensures.value) at c.whole_line.ensures in
    let t = told-ok _ _ _ c.in_ok-asked.ensures in
    let z = line-there c.args.reader.text.now (c.args.n - 1) c.args.reader.at (end_at 10 c.args.reader.text.now c.args.reader.at) c.args.n c.requires.here refl k ask_line w.0 ∙ rw (← w.1.0) t.0 in
    let y = w.1.1 ∙ next-line-at c.args.reader.text.now (c.args.n - 1) c.args.reader.at (end_at 10 c.args.reader.text.now c.args.reader.at) c.args.n c.requires.here refl k in
    rw (t.1, w.1.0) (sym (ask-read c.args.reader.text.now (c.args.n - 1) c.args.reader.at (end_at 10 c.args.reader.text.now c.args.reader.at) c.args.n c.requires.here refl k lt z (more-none _ c.args.n _ _ _ y refl (add-one _) c.if-line-end.false)))
