-- `Out::word` meets its contract. The loop's invariant: so much of the word has been put.
use Rattle.std.proofs.Common.{take}
use Rattle.printing.specs.Out.{Puts}
use Rattle.printing.proofs.Out.word.Given as goal

abbrev pub invariant-loop-byte : goal.invariant-loop-byte
invariant-loop-byte l = Puts (take l.byte-index l.word) l.initial.self l.self
