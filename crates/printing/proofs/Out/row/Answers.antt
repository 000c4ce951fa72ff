-- `Out::row` meets its contract. The parts of the line, in the order in which they are put.
-- Assumes nothing.
use Rattle.std.proofs.Common.{◌≡◌, [], ◌∷◌, ◌++◌, ◌≤◌, length, min, take, pos, arith}
use Rattle.std.proofs.lemmas.List.{take_min}
use Rattle.lists.specs.Parts.{gather}
use Rattle.timing.specs.Field.{Bytes, bytes}
use Rattle.timing.specs.Printed.{tab, row_arcs}
use Rattle.printing.specs.Put.{most}
use Rattle.printing.proofs.Lines.{row_line}
use Rattle.printing.proofs.Putting.{puts-join, tab_number}
use Rattle.printing.proofs.Out.row.Goals as goal

pub returns : goal.returns
returns c =
    let row = c.args.row.now in
    let rank = tab (pos c.args.rank) in
    let head = gather tab (take 4 row) in
    let path : Bytes = bytes "path" in
    let first : c.min.result ≡ min 4 (length row) = omega arith in
    let cut : take c.min.result row ≡ take 4 row = rw first (take_min 4 row) in
    let whole : length c.args.self.now.bytes.now ≤ most = omega arith in
    rw (← row_line c.args.rank row)
    (puts-join (((path ++ rank) ++ head) ++ gather tab (row_arcs row)) (10 ∷ []) _ _ _ whole
    (puts-join ((path ++ rank) ++ head) (gather tab (row_arcs row)) _ _ _ whole
    (puts-join (path ++ rank) head _ _ _ whole
    (puts-join path rank _ _ _ whole c.word.ensures (rw (tab_number c.args.rank (omega arith)) at c.number.ensures))
    (rw cut at c.numbers.ensures))
    (rw c.arcs.ensures at c.numbers-2.ensures))
    c.byte.ensures)
