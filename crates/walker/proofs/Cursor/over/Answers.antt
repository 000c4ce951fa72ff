-- `Cursor::over` meets its contract.
-- Assumes nothing.
use Rattle.std.proofs.Common.{◌+◌, sym, arith}
use Rattle.area.specs.Area.{arcs_at}
use Rattle.area.specs.Laws.Given.{given-below, none-given}
use Rattle.walker.specs.Laws.Steps.{safe, safe-least}
use Rattle.walker.proofs.Laws.Steps.{step_past, step-caught, step-deeper}
use Rattle.walker.proofs.Cursor.over.Goals as goal

pub overflow_add-least-2 : goal.overflow_add-least-2
overflow_add-least-2 c =
    let l = rw (← c.from_in-from.ensures) at (safe-least c.args.work.now c.args.self c.requires.0 c.requires.2) in
    omega (arith, safe c.args.work.now c.args.self c.requires.0, c.type_inv.work (arcs_at + c.args.self.place))

pub returns-then-under-least : goal.returns-then-under-least
returns-then-under-least c =
    let l = rw (c.from_in-from.ensures, c.weight_in.ensures) at c.if-under-least.true in
    let m = rw (c.from_in-from.ensures, c.weight_in.ensures) at c.min.ensures in
    step_past _ _ _ c.requires.2 _ (omega arith) (omega arith) (omega arith) c.requires.0

pub returns-then-is_some : goal.returns-then-is_some
returns-then-is_some c =
    let l = rw (c.from_in-from.ensures, c.weight_in.ensures) at c.if-under-least.false in
    rw (c.from_in-from.ensures, c.weight_in.ensures) (step-caught _ _ _ c.requires.2 c.requires.1 (omega arith) (given-below _ (rw (c.given.ensures, c.from_in-from.ensures) at (sym c.if-is_some.ensures))) c.requires.0)

pub word-requires : goal.word-requires
word-requires c =
    let s = safe c.args.work.now c.args.self c.requires.0 in (s.pin, omega (arith, s.end))

pub overflow_add-work : goal.overflow_add-work
overflow_add-work c =
    omega (arith, safe c.args.work.now c.args.self c.requires.0)

pub offset_bounds-work-self-2 : goal.offset_bounds-work-self-2
offset_bounds-work-self-2 c =
    omega (arith, safe c.args.work.now c.args.self c.requires.0)

pub bounds-work-self-2 : goal.bounds-work-self-2
bounds-work-self-2 c =
    omega (arith, safe c.args.work.now c.args.self c.requires.0)

pub overflow_add-result : goal.overflow_add-result
overflow_add-result c =
    omega (arith, safe c.args.work.now c.args.self c.requires.0)

pub returns : goal.returns
returns c =
    rw (c.from_in-from.ensures, c.weight_in.ensures, c.word.ensures)
    (step-deeper _ _ _ c.requires.2 (none-given _ (rw (c.given.ensures, c.from_in-from.ensures) at (sym c.if-is_some.ensures))) (omega (arith, c.type_inv.work (arcs_at + c.args.self.place))) c.requires.0)
