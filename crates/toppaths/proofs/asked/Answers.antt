-- `toppaths::asked` meets its contract: the rows that the asking leaves in the room are the rows that are printed. Assumes nothing.
use Rattle.std.proofs.Common.{ap, ◌∙◌, length}
use Rattle.lists.specs.Laws.Write.{sets}
use Rattle.timing.specs.Field.{Bytes}
use Rattle.printing.specs.Put.{counted}
use Rattle.toppaths.specs.Read.{asked-printed}
use Rattle.toppaths.proofs.asked.Goals as goal

pub returns : goal.returns
returns c =
    let s = c.args in
    let e = asked-printed s.table.now s.mode s.k s.room.now s.work.now _ _ _ c.requires.0 c.requires.1 c.ask-given.ensures.0 c.ask-given.ensures.1 c.pin_count.ensures in
    (c.print.ensures.0 ∙ ap (λ (x : Bytes). counted (length x)) e, c.print.ensures.1 ∙ ap (λ (x : Bytes). sets s.out.now 0 x) e)
