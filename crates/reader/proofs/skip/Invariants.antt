-- `reader::skip` meets its contract. The bytes b that are left to pass, from here, lead to the same place. Assumes nothing.
use Rattle.std.proofs.Common.{◌≡◌, ◌+◌, drop}
use Rattle.reader.specs.Cut.{start_of}
use Rattle.reader.proofs.skip.Given as goal

abbrev pub invariant-loop-i : goal.invariant-loop-i
invariant-loop-i l = l.i + start_of l.b (drop l.i l.s) l.left ≡ start_of l.b l.s l.n
