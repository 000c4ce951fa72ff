-- `clocks::seeds` meets its contract: once the route is marked, the credits and seeds of the pins below p are laid, and the clock side's part is as it was.
-- Assumes nothing.
use native.Mathlib.Omega.{arith}
use Rattle.area.specs.Area.{credits_at, clocks_at}
use Rattle.area.specs.Laws.Kept.{kept-join, kept-wider}
use Rattle.clocks.specs.Kept.{clocked-kept, based-kept}
use Rattle.clocks.proofs.Handing.{handing-none, handing-next, handing-step, handing-end}
use Rattle.clocks.proofs.seeds.Goals as goal

pub loop-p-init : goal.loop-p-init
loop-p-init c =
    handing-none _ _ _ (clocked-kept _ credits_at clocks_at _ _ (omega arith) c.mark_route.ensures.1 c.requires.0) c.requires.1 c.mark_route.ensures.0

pub lay_seed-requires : goal.lay_seed-requires
lay_seed-requires c = let l = c.loop-p in handing-next _ _ l.p _ _ l.invariant (omega arith)

pub loop-p-preserved : goal.loop-p-preserved
loop-p-preserved c =
    let l = c.loop-p in
    rw c.lay_seed.ensures (handing-step _ _ l.p _ _ l.invariant (omega arith))

pub returns : goal.returns
returns c =
    let l = c.loop-p in
    let k = c.mark_route.ensures.1 in (
      (λ m b.
          handing-end _ _ l.p _ _ l.invariant (omega arith) m
          (based-kept m _ credits_at clocks_at _ _ c.requires.0.ready.checked (omega arith) k b)),
      kept-join _ _ _ _ _ _ _ (kept-wider _ _ _ _ _ _ k (omega arith) (omega arith)) l.invariant.kept (omega arith) (omega arith),
    )
