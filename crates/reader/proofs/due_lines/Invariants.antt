-- `reader::due_lines` meets its contract. The lines passed have no fault, and the next begins at the reader's place. Assumes nothing.
use Rattle.std.proofs.Common.{◌≡◌}
use Rattle.reader.proofs.Grounds.{Walking}
use Rattle.reader.proofs.due_lines.Given as goal

abbrev pub invariant-loop-i : goal.invariant-loop-i
invariant-loop-i l = (l.reader.text.now ≡ l.fn.reader.text.now) × Walking l.fn.reader.text.now l.design.pins l.design.arcs l.n l.i l.reader.at
