-- `Out::numbers` meets its contract. The loop's invariant: so many of the numbers have been put.
use Rattle.std.proofs.Common.{take}
use Rattle.lists.specs.Parts.{gather}
use Rattle.timing.specs.Printed.{tab}
use Rattle.printing.specs.Out.{Puts}
use Rattle.printing.proofs.Out.numbers.Given as goal

abbrev pub invariant-loop-x : goal.invariant-loop-x
invariant-loop-x l = Puts (gather tab (take l.x-index l.numbers)) l.initial.self l.self
