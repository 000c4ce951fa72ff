-- `Cursor::next_walk` meets its contract.
-- Assumes nothing.
use Rattle.std.specs.Prelude.{refl, List, ℕ}
use Rattle.walker.specs.declared.Cursor.{Cursor}
use Rattle.walker.specs.Cursors.{Ready, Gone}
use Rattle.walker.specs.Laws.Gone.{gone-none, gone-more, ready-gone, afresh}
use Rattle.walker.proofs.Cursor.next_walk.Goals as goal

-- the cursor at the loop's head is ready
head : (under : ℕ) (w : List ℕ) (c : Cursor) → Ready w c → Ready w (afresh c)
head under w c R = ready-gone under w w c (afresh c) R (gone-none under w c)

-- and so is that of each turn
ready : (under : ℕ) (w₀ w : List ℕ) (c₀ c : Cursor) → Ready w₀ c₀ → Gone under w₀ (afresh c₀) w c → Ready w c
ready under w₀ w c₀ c R G = ready-gone under w₀ w (afresh c₀) c (head under w₀ c₀ R) G

pub loop-c-init : goal.loop-c-init
loop-c-init c = gone-none c.args.under c.args.work.now (afresh c.args.self)

pub step-c-requires : goal.step-c-requires
step-c-requires c =
    (ready c.args.under c.args.work.now c.loop-c.work c.args.self c.loop-c.c c.requires.0 c.loop-c.invariant, c.requires.1)

pub loop-c-preserved : goal.loop-c-preserved
loop-c-preserved c =
    let s = c.step-c in
    gone-more c.args.under c.args.work.now c.loop-c.work s.new.work (afresh c.args.self) c.loop-c.c s.result
    c.in-Going.is c.loop-c.invariant s.ensures.went

pub returns : goal.returns
returns c =
    record {
      gone = gone-more c.args.under c.args.work.now c.args.work.now c.loop-c.work c.args.self (afresh c.args.self) c.loop-c.c refl
          (gone-none c.args.under c.args.work.now c.args.self) c.loop-c.invariant;
      ended = c.in_default.not-Going;
    }
