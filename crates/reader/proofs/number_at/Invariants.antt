-- `reader::number_at` meets its contract. From a to i stand the digits so far, and since the text ends with byte 10 a byte stands at i. Assumes nothing.
use Rattle.std.proofs.Common.{◌-◌, length}
use Rattle.reader.proofs.Scan.{Digits}
use Rattle.reader.proofs.number_at.Given as goal

abbrev pub invariant-loop-d : goal.invariant-loop-d
invariant-loop-d l = Digits l.s l.a l.value l.i

abbrev pub decreases-loop-d : goal.decreases-loop-d
decreases-loop-d l = length l.s - l.i
