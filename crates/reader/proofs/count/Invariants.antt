-- `reader::count` meets its contract. So many bytes b are among those passed. Assumes nothing.
use Rattle.std.proofs.Common.{◌≡◌, take}
use Rattle.std.specs.Prelude.{◌==◌, count_by}
use Rattle.reader.proofs.count.Given as goal

abbrev pub invariant-loop-x : goal.invariant-loop-x
invariant-loop-x l = l.n ≡ count_by (λ x. x == l.b) (take l.x-index l.s)
