-- `reader::fill` meets its contract. The numbers of the lines passed stand in the table, and the next line begins at the reader's place. Assumes nothing.
use Rattle.std.proofs.Common.{◌≡◌}
use Rattle.reader.proofs.Writing.{Filling}
use Rattle.reader.proofs.fill.Given as goal

abbrev pub invariant-loop-i : goal.invariant-loop-i
invariant-loop-i l = (l.reader.text.now ≡ l.text) × Filling l.text l.design.pins l.initial.table l.table l.reader.at l.w l.i
