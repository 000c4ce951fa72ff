-- `reader::next_at` meets its contract. Beyond the end nothing moves. Assumes nothing.
use Rattle.reader.proofs.Lines.{next-beyond}
use Rattle.reader.proofs.next_at.Goals as goal

pub returns-then-text-at : goal.returns-then-text-at
returns-then-text-at c = next-beyond _ _ c.if-text-at.true
