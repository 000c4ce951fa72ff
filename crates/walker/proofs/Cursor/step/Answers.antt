-- `Cursor::step` meets its contract.
-- Assumes nothing.
use Rattle.walker.proofs.Cursor.step.Goals as goal

pub returns-else-self-end : goal.returns-else-self-end
returns-else-self-end c = c.back.ensures c.args.under
