-- `Cursor::keep_walk` meets its contract.
use Rattle.walker.specs.Slots.{Keeping}
use Rattle.walker.specs.Laws.Slots.{Fits}
use Rattle.walker.proofs.Cursor.keep_walk.Given as goal

abbrev pub invariant-loop-n : goal.invariant-loop-n
invariant-loop-n l = record {
  asks : Fits l.initial.work l.self.depth l.self.place l.slot;
  keeping : Keeping l.slot l.initial.work l.self.depth l.self.place l.n l.work;
}
