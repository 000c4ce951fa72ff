-- `Out::numbers` meets its contract. The next number is put behind so many.
-- Assumes nothing.
use Rattle.std.proofs.Common.{◌<◌, length, get_or, take, pos, arith, rules, add-one, take-suc}
use mir.Syntax.{w64}
use mir.Val.{SFits}
use mir.ValLaws.{to_z-of_z}
use Rattle.lists.specs.Parts.{gather}
use Rattle.timing.specs.Printed.{tab}
use Rattle.printing.proofs.Lines.{gather-last}
use Rattle.printing.proofs.Putting.{puts-none, puts-join, puts_number}
use Rattle.printing.proofs.Out.numbers.Goals as goal

pub loop-x-init : goal.loop-x-init
unfolding gather
loop-x-init c = puts-none _ (omega arith)

pub loop-x-preserved : goal.loop-x-preserved
loop-x-preserved c =
    let numbers = c.args.numbers.now in
    let i = c.loop-x.x-index in
    let x = get_or numbers i (pos 0) in
    let inside : i < length numbers = omega arith in
    let own : SFits w64 x = search rules in
    rw (add-one, take-suc numbers i (pos 0) inside, gather-last tab (take i numbers) x)
    (puts-join (gather tab (take i numbers)) (tab x) _ _ _ (omega arith) c.loop-x.invariant (puts_number x _ _ _ (to_z-of_z w64 x own) own c.number.ensures))
