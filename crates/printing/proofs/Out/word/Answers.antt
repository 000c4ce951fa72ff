-- `Out::word` meets its contract. The next byte is put behind so much of the word.
-- Assumes nothing.
use Rattle.std.proofs.Common.{[], ◌∷◌, ◌<◌, length, get_or, take, arith, add-one, take-suc}
use Rattle.printing.proofs.Putting.{puts-none, puts-join}
use Rattle.printing.proofs.Out.word.Goals as goal

pub loop-byte-init : goal.loop-byte-init
loop-byte-init c = puts-none _ (omega arith)

pub loop-byte-preserved : goal.loop-byte-preserved
loop-byte-preserved c =
    let word = c.args.word.now in
    let i = c.loop-byte.byte-index in
    let inside : i < length word = omega arith in
    rw (add-one, take-suc word i 0 inside)
    (puts-join (take i word) (get_or word i 0 ∷ []) _ _ _ (omega arith) c.loop-byte.invariant c.byte.ensures)
