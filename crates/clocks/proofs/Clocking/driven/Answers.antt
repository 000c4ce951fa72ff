-- `clocks::Clocking::driven` meets its contract: the arc at p's place comes from a clock pin below p, whose arrivals and depth stand in the area; one step of
-- the tree adds the arc's delays and one to the depth. No arrival is above 256,000,000, so no sum wraps. Assumes nothing.
use mathlib.Core.Path.{refl}
use native.Mathlib.Omega.{arith}
use Rattle.timing.specs.Table.{early, late}
use Rattle.clocks.specs.Small.{few-pins}
use Rattle.clocks.proofs.Turn.{step}
use Rattle.clocks.proofs.Clocking.driven.Goals as goal

pub bounds-work-p : goal.bounds-work-p
bounds-work-p c = let s = c.requires.next in omega (arith, s.inside, s.ready.room, few-pins _ s.ready.checked)

pub bounds-work-from : goal.bounds-work-from
bounds-work-from c = let k = step _ _ _ _ c.arc_from-from.result c.requires refl c.arc_from-from.ensures in omega (arith, k.few, c.requires.next.ready.room)

pub overflow_add-result-2 : goal.overflow_add-result-2
overflow_add-result-2 c =
    let k = step _ _ _ _ c.arc_from-from.result c.requires refl c.arc_from-from.ensures in omega (arith, k.most early)

pub bounds-work-from-2 : goal.bounds-work-from-2
bounds-work-from-2 c = let k = step _ _ _ _ c.arc_from-from.result c.requires refl c.arc_from-from.ensures in omega (arith, k.few, c.requires.next.ready.room)

pub overflow_add-result-4 : goal.overflow_add-result-4
overflow_add-result-4 c =
    let k = step _ _ _ _ c.arc_from-from.result c.requires refl c.arc_from-from.ensures in omega (arith, k.most late)

pub bounds-work-from-3 : goal.bounds-work-from-3
bounds-work-from-3 c = let k = step _ _ _ _ c.arc_from-from.result c.requires refl c.arc_from-from.ensures in omega (arith, k.few, c.requires.next.ready.room)

pub overflow_add-result-6 : goal.overflow_add-result-6
overflow_add-result-6 c = let k = step _ _ _ _ c.arc_from-from.result c.requires refl c.arc_from-from.ensures in omega (arith, k.shallow)

pub returns : goal.returns
returns c =
    let k = step _ _ _ _ c.arc_from-from.result c.requires refl c.arc_from-from.ensures in
    record {
      is-early = λ _. omega (arith, k.came early);
      is-late = λ _. omega (arith, k.came late);
      is-depth = λ _. k.deep;
      is-driver = k.drives;
    }
