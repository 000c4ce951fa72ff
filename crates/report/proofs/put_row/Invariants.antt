-- `report::put_row` meets its contract. The invariant: so many arcs stand behind the head, and zeros behind them. Assumes nothing.
use Rattle.std.proofs.Common.{◌≡◌, ◌-◌, length}
use Rattle.std.proofs.Math.Seq.{paste}
use Rattle.report.proofs.Turned.{arcs, begun}
use Rattle.report.proofs.put_row.Given as goal

abbrev pub invariant-loop-i : goal.invariant-loop-i
invariant-loop-i l = l.row ≡ paste (begun l.head (length l.fn.row - 5)) 5 (arcs l.walk) (length l.yielded)
