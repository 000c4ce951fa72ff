-- `reader::value_of` meets its contract. One digit further. Assumes nothing.
use Rattle.std.proofs.Common.{arith}
use Rattle.reader.proofs.Bytes.{so_more}
use Rattle.reader.proofs.value_of.Goals as goal

pub loop-b-preserved : goal.loop-b-preserved
loop-b-preserved c = let q = c.loop-b in
    rw c.from.ensures (so_more c.args.f.now q.value q.b-index q.invariant (omega arith))
