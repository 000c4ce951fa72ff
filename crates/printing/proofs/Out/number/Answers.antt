-- `Out::number` meets its contract. A tab, then the text of the number.
-- Assumes nothing.
use Rattle.std.proofs.Common.{[], ◌∷◌, arith}
use Rattle.std.proofs.lemmas.Grind.{common_steps}
use Rattle.printing.proofs.Putting.{puts-join, puts-same}
use Rattle.printing.proofs.Out.number.Goals as goal

pub returns : goal.returns
returns g c =
    let text = g.I.Integer.text c.args.x in
    puts-join (9 ∷ []) text _ _ _ (omega arith) c.byte.ensures
    (puts-same _ text _ _ c.word.ensures (grind (arith, common_steps)))
