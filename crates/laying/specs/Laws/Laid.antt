-- Laying a test: the seeds are those of its clock pin, the least values are made from them, and what stands beside them stays.
-- Assumes nothing.
use Rattle.std.specs.Prelude.{◌≡◌, List, ℕ, ◌<◌}
use Rattle.std.proofs.Common.{sym, ◌∙◌, arith}
use Rattle.timing.specs.Table.{Table, pin_count, test_count}
use Rattle.timing.specs.Structure.{structure}
use Rattle.timing.proofs.Laws.Accepted.{accepted}
use Rattle.timing.proofs.Laws.Columns.{pins-is}
use Rattle.area.specs.Area.{Kept, plan, seeds_at, clocks_at}
use Rattle.arcs.specs.Laid as sorted
use Rattle.arcs.specs.Sorting.{weighing}
use Rattle.walker.specs.Cursors.{Planned}
use Rattle.walker.specs.Leasts.{Laid, Beside, AllLeasts}
use Rattle.laying.specs.Standing.{test_seed, Prepared, Sown, Lay}
use Rattle.laying.specs.Laws.Prepared.{plan-same, prepared-same}

module _ (t : Table) (mode : ℕ) (seed : ℕ → ℕ) (w : List ℕ) (p : Prepared t mode w) (l : sorted.Laid (structure t) (weighing t mode) seed (plan w)) where
  -- a plan that is laid
  pub planned-of : Planned (structure t) (weighing t mode) seed (plan w)
  planned-of =
      record {
        ok = (accepted t p.clocked.ready.checked).sound;
        few-arcs = l.ordered.few-arcs;
        by-arcs = l.by-arcs;
        by-seeds = l.by-seeds;
      }

  -- is ready for the least values
  pub laid_of : Laid w (pin_count t)
  laid_of =
      record {
        of = structure t;
        weight = weighing t mode;
        seed = seed;
        planned = planned-of;
        rises = l.ordered.up;
        size = sym (pins-is t);
        long = omega (arith, p.clocked.ready.room);
      }

-- they stand between the plan and the clock side
module _ (t : Table) (mode : ℕ) (w v : List ℕ) (b : Beside w v) where
  pub plan-beside : plan v ≡ plan w
  plan-beside = plan-same w v b.long b.front

  pub prepared-beside : Prepared t mode w → Prepared t mode v
  prepared-beside p = prepared-same t mode w v b.long (λ i h l. b.front i (omega arith)) (λ i h l. b.back i h) p

-- a test is laid
pub lay-of : (t : Table) (mode j : ℕ) (w v u : List ℕ) → j < test_count t → Kept seeds_at clocks_at w v → Sown t mode j v → AllLeasts v u (pin_count t) → Lay t mode j w u
lay-of t mode j w v u l k s a =
    let b = a.beside in
    record {
      walks = record {
        sown = record { prepared = prepared-beside t mode v u b s.prepared; laid = rw (plan-beside t mode v u b) s.laid };
        test = l;
        lower = a.lower (structure t) (weighing t mode) (test_seed t mode j) (planned-of t mode (test_seed t mode j) v s.prepared s.laid) (sym (pins-is t));
      };
      slots = λ i h. b.front i (omega arith) ∙ k.front i (omega arith);
      long = b.long ∙ k.long;
    }
