-- `clocks::no_credits` meets its contract: what is filled is the part of the credits, pin by pin. Assumes nothing.
use Rattle.std.proofs.Common.{◌≡◌, ◌+◌, ◌-◌, ◌≤◌, length, take, drop, replicate, arith, length-take, length-drop}
use Rattle.area.specs.Area.{none}
use Rattle.clocks.specs.Small.{few-pins}
use Rattle.clocks.proofs.Routing.{cleared}
use Rattle.clocks.proofs.no_credits.Goals as goal

pub slice_bounds-fill-end : goal.slice_bounds-fill-end
slice_bounds-fill-end c = omega (arith, c.requires.room, c.pin_count.ensures, few-pins _ c.requires.checked)

pub returns : goal.returns
returns c =
    let few : c.pin_count.result ≤ 256 = omega (arith, c.pin_count.ensures, few-pins _ c.requires.checked) in
    let same : 5633 + c.pin_count.result - 5633 ≡ c.pin_count.result = omega arith in
    let room : length (take (5633 + c.pin_count.result - 5633) (drop 5633 c.args.work.now)) ≡ c.pin_count.result = simp (length-take, length-drop) (omega (arith, c.requires.room)) in
    let full : c.fill.new.self ≡ replicate c.pin_count.result none = rw room at (c.fill.ensures.after (λ y e. e)) in
    rw (full, same) (cleared c.args.table.now c.args.work.now c.requires c.pin_count.result c.pin_count.ensures)
