-- `clocks::clocks` meets its contract: both write within the clock side's part. Assumes nothing.
use native.Mathlib.Omega.{arith}
use Rattle.area.specs.Laws.Kept.{kept-join, kept-wider}
use Rattle.clocks.proofs.clocks.Goals as goal

pub returns : goal.returns
returns c =
    let k = c.parents.ensures.1 in
    let l = c.arrivals.ensures in
    (l.0, kept-join _ _ _ _ _ _ _ (kept-wider _ _ _ _ _ _ k (omega arith) (omega arith)) l.1 (omega arith) (omega arith))
