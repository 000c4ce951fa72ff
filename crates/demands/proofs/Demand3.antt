-- Demand 3: "Take two accepted designs with the same pin kinds, arc ends, test pins, mode and k. In the second, each arrival and delay range contains the
-- first's, no setup or hold time is smaller, and the period is no longer. Then both report the same number of rows, and at each rank the second's slack is no
-- greater than the first's. Nor is it lower by more than everything that was widened, lengthened or shortened, added up."
--
-- Of every two answered askings, over what they return and the rooms that they leave. What is supposed of the designs, and the sum, are in `Wider`.
-- Assumes nothing.
use Rattle.std.specs.Prelude.{◌≡◌, ℕ}
use Rattle.std.proofs.Common.{sym, ◌∙◌}
use Rattle.timing.specs.Table.{Table}
use Rattle.demands.specs.Definitions.{Answered}
use Rattle.demands.specs.Wider.{SameStructure, Wider}
use Rattle.demands.proofs.Laws.Granted.{granted}
use Rattle.demands.proofs.Laws.Widened.{same-structure, wider-times, moved-is, rows-move, slack-place}
use Rattle.demands.specs.Demand3.{NoBetter}

pub demand-3 : (t u : Table) (mode k : ℕ) → SameStructure t u → Wider t u → (a : Answered t mode k) (b : Answered u mode k) → NoBetter t u mode k a b
demand-3 t u mode k same wider a b =
    let g = granted t mode k a in
    let h = granted u mode k b in
    let d = rows-move t u g.checked h.checked (same-structure t u same) (wider-times t u wider) mode k in
    let equal : a.rows ≡ b.rows = g.counted ∙ d.0 ∙ sym h.counted in
    record {
      same_rows = equal;
      no-greater = λ r l. rw (slack-place t mode k a g r l, slack-place u mode k b h r (rw equal at l)) (d.1 r (rw g.counted at l)).0;
      not_lower = λ r l.
          rw (slack-place t mode k a g r l, slack-place u mode k b h r (rw equal at l), ← moved-is t u) (d.1 r (rw g.counted at l)).1;
    }
