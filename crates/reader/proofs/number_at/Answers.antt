-- `reader::number_at` meets its contract. From a to i stand the digits so far, and since the text ends with byte 10 a byte stands at i. Assumes nothing.
use Rattle.std.proofs.Common.{arith}
use Rattle.reader.proofs.Scan.{digits-first, digits_more, digits_last}
use Rattle.reader.proofs.number_at.Goals as goal

pub loop-d-init : goal.loop-d-init
loop-d-init c = digits-first _ _ _ c.requires.0 c.requires.1 c.in_ok-value.ensures.0 c.in_ok-value.ensures.1

pub loop-d-preserved : goal.loop-d-preserved
loop-d-preserved c = digits_more _ _ _ _ _ c.loop-d.invariant c.requires.1 c.in-Some.ensures.0 c.in-Some.ensures.1 (λ e. omega (arith, e)) (omega arith)

pub returns : goal.returns
returns c = digits_last _ _ _ _ _ c.loop-d.invariant c.if-s-i.false
