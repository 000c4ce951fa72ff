-- `Cursor::keep_walk` meets its contract.
-- Assumes nothing.
use Rattle.std.proofs.Common.{arith}
use Rattle.walker.specs.Laws.Slots.{fits, keeping_none, keeping-more, keeping_all}
use Rattle.walker.proofs.Cursor.keep_walk.Goals as goal

pub loop-n-init : goal.loop-n-init
loop-n-init c =
    let asks = fits c.args.work.now c.args.self c.args.slot c.requires in
    record { asks = asks; keeping = keeping_none _ _ _ _ asks }

pub loop-n-preserved : goal.loop-n-preserved
loop-n-preserved c =
    let i = c.loop-n.invariant in
    record {
      asks = i.asks;
      keeping = rw (c.arc_in.ensures, c.from-turn.ensures.1) (keeping-more _ _ _ _ i.asks _ _ i.keeping c.loop-n-test.true);
    }

pub returns : goal.returns
returns c =
    let i = c.loop-n.invariant in
    rw c.arc_in-2.ensures (keeping_all _ _ _ _ i.asks _ _ i.keeping (omega arith))
