-- `reader::well_formed` meets its contract. The length, then the digits, then the first of them. Assumes nothing.
use Rattle.std.proofs.Common.{sym, ◌∙◌, arith, eq-eqb, ne_eqb}
use borrow.Author.Tests.{eqb-false}
use Rattle.reader.proofs.Bytes.{sized_formed}
use Rattle.reader.proofs.well_formed.Goals as goal

pub returns-then-f-ne48 : goal.returns-then-f-ne48
returns-then-f-ne48 c =
    let some = eqb-false _ 0 (sym c.is_empty.ensures ∙ c.if-is_empty.false) in
    let other = ne_eqb _ _ c.if-f-ne48.true in
    rw other (rw (sym c.all_digits.ensures ∙ c.if-all_digits.true, other) at (sized_formed c.args.f.now (omega (arith, some)) c.if-f-gt-DIGITS.false))

pub returns-else-f-ne48 : goal.returns-else-f-ne48
returns-else-f-ne48 c =
    let some = eqb-false _ 0 (sym c.is_empty.ensures ∙ c.if-is_empty.false) in
    rw (sym c.all_digits.ensures ∙ c.if-all_digits.true, eq-eqb _ _ c.if-f-ne48.false) at (sized_formed c.args.f.now (omega (arith, some)) c.if-f-gt-DIGITS.false)

pub returns-else-all_digits : goal.returns-else-all_digits
returns-else-all_digits c =
    let some = eqb-false _ 0 (sym c.is_empty.ensures ∙ c.if-is_empty.false) in
    c.if-all_digits.false ∙ (rw (sym c.all_digits.ensures ∙ c.if-all_digits.false) at (sized_formed c.args.f.now (omega (arith, some)) c.if-f-gt-DIGITS.false))
