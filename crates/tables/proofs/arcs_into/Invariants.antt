-- `tables::arcs_into` meets its contract: what is counted is the tally of the arcs so far. Assumes nothing.
use Rattle.tables.proofs.Facts.{So}
use Rattle.tables.proofs.arcs_into.Given as goal

abbrev pub invariant-loop-a : goal.invariant-loop-a
invariant-loop-a l = So l.table l.a l.counts
