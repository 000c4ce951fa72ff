-- `clocks::parents` meets its contract: the arcs passed stand at the pins that they enter. A B or a K has one arc, so no later one takes its place. Assumes nothing.
use Prim.Native.Nat.{◌<◌}
use mathlib.Core.Path.{refl}
use native.Mathlib.Omega.{arith}
use Rattle.clocks.specs.Small.{few-pins}
use Rattle.clocks.proofs.Filling.{passing_step, passing-end, to_in}
use Rattle.clocks.proofs.parents.Goals as goal

pub bounds-work-arc_to : goal.bounds-work-arc_to
bounds-work-arc_to c =
    let l = c.loop-a in
    let h = l.invariant.ready.checked in
    let inside : c.arc_to.result < 256 = omega (arith, c.arc_to.ensures, to_in _ h l.a (omega arith), few-pins _ h) in
    omega (arith, l.invariant.ready.room, l.invariant.kept.long)

pub loop-a-preserved : goal.loop-a-preserved
loop-a-preserved c =
    let l = c.loop-a in
    passing_step _ l.a _ _ l.invariant (omega arith) _ _ c.arc_to.ensures refl

pub returns : goal.returns
returns c = let l = c.loop-a in (passing-end _ l.a _ _ l.invariant (omega arith), l.invariant.kept)
