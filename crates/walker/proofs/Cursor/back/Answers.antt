-- `Cursor::back` meets its contract.
-- Assumes nothing.
use Rattle.std.proofs.Common.{arith}
use Rattle.walker.specs.Laws.Steps.{safe, safe-last, step_back, step-ended}
use Rattle.walker.proofs.Cursor.back.Goals as goal

pub returns-then-self-eq0 : goal.returns-then-self-eq0
returns-then-self-eq0 c =
    λ under. step-ended _ _ _ c.requires.1 c.if-self-eq0.true c.requires.0

pub overflow_add-self : goal.overflow_add-self
overflow_add-self c = omega (arith, safe c.args.work.now c.args.self c.requires.0)

pub offset_bounds-work-self : goal.offset_bounds-work-self
offset_bounds-work-self c = omega (arith, safe c.args.work.now c.args.self c.requires.0)

pub bounds-work-self : goal.bounds-work-self
bounds-work-self c = omega (arith, safe c.args.work.now c.args.self c.requires.0)

pub overflow_sub-result-2 : goal.overflow_sub-result-2
overflow_sub-result-2 c =
    let l = rw (← c.from-last.ensures.1) at (safe-last c.args.work.now c.args.self c.requires.0 (omega arith)) in
    omega (arith, c.weight_in-weight.ensures)

pub returns : goal.returns
returns c =
    rw (c.weight_in-weight.ensures, c.from-last.ensures.0, c.from-last.ensures.1)
    (λ under. step_back _ _ _ c.requires.1 (omega arith) c.requires.0)
