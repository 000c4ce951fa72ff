-- `reader::fill` meets its contract. The numbers of the lines passed stand in the table, and the next line begins at the reader's place. Assumes nothing.
use Rattle.std.proofs.Common.{◌≡◌, ◌+◌, List, ℕ, length, refl, ap, ◌∙◌, arith}
use Rattle.lists.specs.Choice.{pick}
use Rattle.lists.specs.Laws.Write.{sets}
use Rattle.lists.proofs.Laws.Write.{length-sets}
use Rattle.timing.specs.Line.{four_of}
use Rattle.reader.specs.Scan.{due_in}
use Rattle.reader.proofs.Told.{no-fault}
use Rattle.reader.proofs.Grounds.{small, clean-design, clean-due}
use Rattle.reader.proofs.Writing.{filling-first, fits, filling-more, filled-all}
use Rattle.reader.proofs.fill.Goals as goal

same-room : (t u vs : List ℕ) → u ≡ sets t 0 vs → length u ≡ length t
same-room t u vs e = ap length e ∙ simp length-sets

pub returns-in_err-first : goal.returns-in_err-first
returns-in_err-first c = no-fault _ _ (clean-design _ _ c.requires.clean) c.in_err-first.ensures

pub put_due-w-requires : goal.put_due-w-requires
unfolding due_in pick
put_due-w-requires c = omega (arith, c.requires.room)

pub lines_due-i-end-requires : goal.lines_due-i-end-requires
lines_due-i-end-requires c = small _ _ c.requires.clean.sizes

pub loop-i-init : goal.loop-i-init
unfolding due_in pick
loop-i-init c = (
  rw c.open-reader.ensures.0 refl,
  filling-first _ _ _ _ _ (c.open-reader.ensures.1 ∙ c.in_ok-first.ensures.1.0) (omega (arith, c.put_due-w.ensures.1)),
)

pub due_at-requires-clause-few : goal.due_at-requires-clause-few
due_at-requires-clause-few c = omega (arith, small _ _ c.requires.clean.sizes, c.lines_due-i-end.ensures)

pub returns-in_err-due : goal.returns-in_err-due
returns-in_err-due c =
    no-fault _ _ (clean-due _ _ c.requires.clean c.loop-i.i (omega (arith, c.lines_due-i-end.ensures, c.loop-i-test.true))) (rw c.loop-i.invariant.0 at c.in_err-due.ensures)

pub put_due-w-requires-in-loop-i : goal.put_due-w-requires-in-loop-i
put_due-w-requires-in-loop-i c =
    let d = rw c.loop-i.invariant.0 at c.in_ok-due.ensures in
    fits _ _ _ _ _ _ _ _ _ _ c.loop-i.invariant.1 c.loop-i-test.true (omega (arith, c.lines_due-i-end.ensures)) (omega (arith, c.lines_due-i-end.ensures, same-room _ _ _ c.put_due-w.ensures.0, c.requires.room)) d.says

pub loop-i-preserved : goal.loop-i-preserved
loop-i-preserved c =
    let d = rw c.loop-i.invariant.0 at c.in_ok-due.ensures in
    (c.loop-i.invariant.0, filling-more _ _ c.args.design.arcs _ _ _ _ _ _ _ _ c.loop-i.invariant.1 d c.put_due-w-in-loop-i.ensures.0 c.put_due-w-in-loop-i.ensures.1)

pub returns : goal.returns
unfolding due_in pick four_of
returns c =
    let k : c.loop-i.i ≡ c.args.design.pins + c.args.design.arcs + c.args.design.tests = omega (arith, c.lines_due-i-end.ensures) in
    (refl, c.loop-i.invariant.1.wrote ∙ rw (k, c.put_due-w.ensures.0) (filled-all _ _ _ _ _ (rw c.in_ok-first.ensures.1.1 refl)))
