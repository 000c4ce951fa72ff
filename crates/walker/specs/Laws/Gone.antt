-- Steps one after another.
-- Assumes nothing.
use Rattle.std.specs.Prelude.{◌≡◌, refl, List, [], ◌++◌, ℕ, ◌+◌, ◌≤◌, ◌<◌, length, get_or}
use Rattle.std.proofs.Common.{sym, ◌∙◌, append_assoc, arith}
use Rattle.lists.proofs.Laws.Member.{all_app, all_map}
use Rattle.timing.specs.Structure.{Structure, pins}
use Rattle.timing.specs.Value.{value_of}
use Rattle.area.specs.Area.{plan, first_at, firsts_at, turns_end, turns_at}
use Rattle.area.specs.Laws.Kept.{kept-none, kept-join}
use Rattle.area.specs.Laws.Plan.{first-at}
use Rattle.walker.specs.Rest.{turns, came}
use Rattle.walker.specs.Cursors.{Planned, Lower, least_at, begin_at, On, Ready, coming, found, Gone}
use Rattle.walker.specs.Laws.Steps.{cursor, found_none}
use Rattle.walker.specs.declared.Cursor.{Cursor}
use Rattle.walker.specs.declared.State.TheVariants.{Going}

abbrev pub afresh : Cursor → Cursor
afresh c = cursor c.depth c.pin c.place c.sum Going c.out

pub gone-none : (under : ℕ) (w : List ℕ) (c : Cursor) → Gone under w c w (afresh c)
unfolding coming
gone-none under w c s weight seed O =
    record {
      on = record { planned = O.planned; lower = O.lower; long = O.long; placed = O.placed; turned = O.turned; sum = O.sum };
      kept = kept-none turns_at turns_end w;
      falls = omega arith;
      passed = record {
        cut = [];
        is = rw (found_none w (afresh c) refl) refl;
        out = tt;
        value = λ v e. cc;
        done = λ e. cc;
        taken = λ v e. cc;
      };
    }

pub ready-gone : (under : ℕ) (w₀ w : List ℕ) (c₀ c : Cursor) → Ready w₀ c₀ → Gone under w₀ c₀ w c → Ready w c
ready-gone under w₀ w c₀ c R G = record { of = R.of; weight = R.weight; seed = R.seed; on = (G R.of R.weight R.seed R.on).on }

pub gone-more : (under : ℕ) (u v w : List ℕ) (a b c : Cursor) → b.state ≡ Going → Gone under u a v b → Gone under v b w c → Gone under u a w c
gone-more under u v w a b c e G H s weight seed O =
    let g = G s weight seed O in
    let h = H s weight seed g.on in
    let P = g.passed in
    let Q = h.passed in
    record {
      on = h.on;
      kept = kept-join turns_at turns_end turns_at turns_end u v w g.kept h.kept (omega arith) (omega arith);
      falls = omega (arith, g.falls, h.falls);
      passed = record {
        cut = P.cut ++ Q.cut;
        is = P.is ∙ rw (found_none v b e, Q.is) (sym (append_assoc P.cut Q.cut (found w c ++ coming s w c)));
        out = all_app (λ u. (under ≤ value_of s weight seed u) × (c.out ≤ value_of s weight seed u)) P.cut Q.cut
            (all_map (λ u. (under ≤ value_of s weight seed u) × (b.out ≤ value_of s weight seed u)) (λ u. (under ≤ value_of s weight seed u) × (c.out ≤ value_of s weight seed u))
            (λ u n. (n.0, omega (arith, h.falls, n.1))) P.cut P.out)
            Q.out;
        value = Q.value;
        done = Q.done;
        taken = Q.taken;
      };
    }

-- before the first walk

module _ (s : Structure) (weight seed : ℕ → ℕ) (w : List ℕ) (v : ℕ) (P : Planned s weight seed (plan w)) (h : v < pins s) where
  pub first-is : get_or w (firsts_at + v) 0 ≡ first_at (plan w) v
  first-is = sym (first-at w v (omega (arith, P.ok.few-pins)))

  pub begin-on : Lower s weight seed (least_at w) → turns_end ≤ length w → On s weight seed w (begin_at w v)
  unfolding turns came
  begin-on L l =
      record {
        planned = P;
        lower = L;
        long = l;
        placed = record {
          pin = h;
          low = rw first-is (omega arith);
          high = rw first-is (omega (arith, P.by-arcs.ends v h));
          deep = omega (arith, P.ok.level_in v h, P.ok.few-pins);
          light = omega arith;
        };
        turned = tt;
        sum = refl;
      }
