-- `Out::pair` meets its contract. The parts of the line, in the order in which they are put.
-- Assumes nothing.
use Rattle.std.proofs.Common.{[], ◌∷◌, ◌++◌, ◌≤◌, length, pos, arith}
use Rattle.timing.specs.Printed.{tab}
use Rattle.printing.specs.Put.{most}
use Rattle.printing.proofs.Lines.{pair_line}
use Rattle.printing.proofs.Putting.{puts-join, tab_number}
use Rattle.printing.proofs.Out.pair.Goals as goal

pub returns : goal.returns
returns c =
    let word = c.args.word.now in
    let a = tab (pos c.args.a) in
    let b = tab (pos c.args.b) in
    let whole : length c.args.self.now.bytes.now ≤ most = omega arith in
    rw (← pair_line word (pos c.args.a) (pos c.args.b))
    (puts-join ((word ++ a) ++ b) (10 ∷ []) _ _ _ whole
    (puts-join (word ++ a) b _ _ _ whole
    (puts-join word a _ _ _ whole c.word.ensures (rw (tab_number c.args.a (omega arith)) at c.number.ensures))
    (rw (tab_number c.args.b (omega arith)) at c.number-2.ensures))
    c.byte.ensures)
