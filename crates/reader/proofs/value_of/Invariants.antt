-- `reader::value_of` meets its contract. The digits passed, with the rest, give the value; it stays below ten to the digits passed. Assumes nothing.
use Rattle.reader.proofs.Bytes.{So}
use Rattle.reader.proofs.value_of.Given as goal

abbrev pub invariant-loop-b : goal.invariant-loop-b
invariant-loop-b l = So l.f l.value l.b-index
