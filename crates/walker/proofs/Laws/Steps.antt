-- The steps of the cursor over an arc, over the numbers as the code reads them.
-- Assumes nothing.
use Rattle.std.specs.Prelude.{◌≡◌}
use Rattle.std.proofs.Math.Path.{refl, sym, ap}
use Rattle.std.proofs.Common.{◌∙◌}
use mathlib.Core.List.{List, [], ◌∷◌}
use Prim.Native.Nat.{ℕ, suc, ◌+◌, ◌-◌, ◌≤◌, ◌<◌}
use Rattle.std.proofs.Math.Numerals.{add-one}
use native.Mathlib.Omega.{arith}
use Rattle.std.proofs.Math.ListN.{get_or, length-set}
use Rattle.lists.specs.Parts.{each}
use Rattle.lists.proofs.Laws.Member.{all_map}
use Rattle.timing.specs.Structure.{Structure, pins, leaves}
use Rattle.timing.specs.Value.{value_of}
use Rattle.timing.specs.Laws.Steps.{walks_over}
use Rattle.timing.proofs.Laws.Least.{value-start}
use Rattle.area.specs.Area.{none, plan, word_at, first_at, weight_in, from_in, arc_in, firsts_at, seeds_at, leasts_at, turns_at, turns_end}
use Rattle.area.specs.Laws.Kept.{kept-none, kept_set}
use Rattle.area.specs.Laws.Plan.{first-at}
use Rattle.walker.specs.Rest.{turn, pin_in, place_in, turns, onto, came}
use Rattle.walker.specs.Cursors.{least_at, On, Ready, coming, walk_at, walk_of, found, reach, Went, Step}
use Rattle.walker.specs.Laws.Least.{value-onto, bound-over}
use Rattle.walker.specs.Laws.Size.{size-past, size-deeper}
use Rattle.walker.specs.declared.Cursor.{Cursor}
use Rattle.walker.specs.Laws.Steps.{length-turns, turns_more, plan-turn, lower-turn, found_none, found-one, depth_low, inside, here, word-is, from-in, starts, goes_on, word_here, from_here, bound_here, turned, past, caught, deeper}
use Rattle.walker.proofs.Laws.Rest.{rest_more, rest-start, rest-deeper}

-- ---- an arc that leads to nothing below the bound is passed over

module _ (under : ℕ) (w : List ℕ) (c : Cursor) (h : c.place < get_or w (firsts_at + c.pin + 1) 0) where
  module _ (o : ℕ) (g : under ≤ bound_here w c) (oc : o ≤ c.out) (ob : o ≤ bound_here w c) where
    went-past : (s : Structure) (weight seed : ℕ → ℕ) → On s weight seed w c → Went s weight seed under w c w (past c o)
    unfolding coming
    went-past s weight seed O =
        let m = plan w in
        let ts = turns c.depth w in
        let a = arc_in (word_at m c.place) in
        let r = here s weight seed w c O h in
        let e = word-is s weight seed w c O h in
        let z : c.place + 1 ≡ suc c.place = add-one c.place in
        let x : weight_in (word_at m c.place) ≡ weight_in (word_here w c) = rw e refl in
        let y : least_at w (leaves s a) ≡ get_or w (leasts_at + from_here w c) 0 = rw (← r.from, e) refl in
        record {
          on = record {
            planned = O.planned;
            lower = O.lower;
            long = O.long;
            placed = record {
              pin = O.placed.pin;
              low = omega (arith, O.placed.low);
              high = omega (arith, inside s weight seed w c O h);
              deep = O.placed.deep;
              light = O.placed.light;
            };
            turned = O.turned;
            sum = O.sum;
          };
          kept = kept-none turns_at turns_end w;
          falls = oc;
          passed = record {
            cut = each (onto ts m) (walks_over s a);
            is = rw (found_none w (past c o) refl, z) (rest_more s m ts c.pin c.place (inside s weight seed w c O h));
            out = all_map (λ u. bound_here w c ≤ value_of s weight seed u) (λ u. (under ≤ value_of s weight seed u) × (o ≤ value_of s weight seed u))
                (λ u n. (omega arith, omega arith)) (each (onto ts m) (walks_over s a))
                (bound-over s weight seed m O.planned (least_at w) O.lower ts O.turned a r.arc (bound_here w c) (omega (arith, O.sum, r.weighs)));
            value = λ v e. cc;
            done = λ e. cc;
            taken = λ v e. cc;
          };
        }

    pub step_past : Ready w c → Step under w c w (past c o)
    unfolding reach
    step_past R =
        record {
          went = went-past;
          less = λ b.
              let z : c.place + 1 ≡ suc c.place = add-one c.place in
              rw (b, z) (omega (arith, size-past (plan w) (turns c.depth w) (256 - c.depth) c.pin c.place (inside R.of R.weight R.seed w c R.on h)));
        }

-- ---- an arc that leaves a start completes a walk

module _ (under : ℕ) (w : List ℕ) (c : Cursor) (h : c.place < get_or w (firsts_at + c.pin + 1) 0) (few : under ≤ none) (g : bound_here w c < under)
    (k : get_or w (seeds_at + from_here w c) 0 < none) where
  went-caught : (s : Structure) (weight seed : ℕ → ℕ) → On s weight seed w c → Went s weight seed under w c w (caught w c)
  unfolding coming walk_at
  went-caught s weight seed O =
      let m = plan w in
      let ts = turns c.depth w in
      let a = arc_in (word_at m c.place) in
      let r = here s weight seed w c O h in
      let e = word-is s weight seed w c O h in
      let z : c.place + 1 ≡ suc c.place = add-one c.place in
      let y : suc c.place - 1 ≡ c.place = omega arith in
      let st = starts s weight seed w c O h k in
      let one : walk_of w (caught w c) ≡ onto ts m (a ∷ []) = rw (z, y) refl in
      let fd : found w (caught w c) ≡ onto ts m (a ∷ []) ∷ [] = found-one w (caught w c) (bound_here w c) refl ∙ rw one refl in
      let x : weight_in (word_at m c.place) ≡ weight_in (word_here w c) = rw e refl in
      let q : least_at w (leaves s a) ≡ get_or w (leasts_at + from_here w c) 0 = rw (← r.from, e) refl in
      let b : least_at w (leaves s a) ≡ seed (leaves s a) = O.lower.start (leaves s a) (rw r.from at r.from-in) st in
      let val : bound_here w c ≡ value_of s weight seed (onto ts m (a ∷ [])) =
      omega (arith, O.sum, r.weighs) ∙ sym (value-onto s weight seed m O.planned ts O.turned a [] ∙ ap (λ (n : ℕ). came ts m + n) (value-start s weight seed a)) in
      record {
        on = record {
          planned = O.planned;
          lower = O.lower;
          long = O.long;
          placed = record {
            pin = O.placed.pin;
            low = omega (arith, O.placed.low);
            high = omega (arith, inside s weight seed w c O h);
            deep = O.placed.deep;
            light = O.placed.light;
          };
          turned = O.turned;
          sum = O.sum;
        };
        kept = kept-none turns_at turns_end w;
        falls = omega arith;
        passed = record {
          cut = [];
          is = rw (fd, z) (rest-start s m ts c.pin c.place (inside s weight seed w c O h) st);
          out = tt;
          value = λ v q. let b : bound_here w c ≡ v = cc in rw one (sym b ∙ val, rw b at g);
          done = λ q. cc;
          taken = λ v q. omega (arith, O.placed.low);
        };
      }

  pub step-caught : Ready w c → Step under w c w (caught w c)
  unfolding reach
  step-caught R = record { went = went-caught; less = λ b. rw b (omega arith) }

-- ---- any other arc leads deeper

module _ (under : ℕ) (w : List ℕ) (c : Cursor) (h : c.place < get_or w (firsts_at + c.pin + 1) 0) (k : none ≤ get_or w (seeds_at + from_here w c) 0)
    (word : word_here w c < 18446744073709551616) where
  went-deeper : (s : Structure) (weight seed : ℕ → ℕ) → On s weight seed w c → Went s weight seed under w c (turned w c) (deeper w c)
  unfolding coming came
  went-deeper s weight seed O =
      let m = plan w in
      let x = turn c.pin c.place in
      let v = turned w c in
      let ts = turns c.depth w in
      let a = arc_in (word_at m c.place) in
      let r = here s weight seed w c O h in
      let e = word-is s weight seed w c O h in
      let low = depth_low s weight seed w c O in
      let n = length-turns c.depth w in
      let u = from_here w c in
      let f : from_in (word_at m c.place) ≡ u = rw e refl in
      let ui : u < pins s = from-in s weight seed w c O h in
      let ul : u < 256 = omega (arith, O.planned.ok.few-pins) in
      let falls : O.planned.ok.level u < O.planned.ok.level c.pin = rw f at r.falls in
      let i : pin_in x ≡ c.pin = omega (arith, r.at) in
      let j : place_in x ≡ c.place = omega (arith, r.at) in
      let st = goes_on s weight seed w c O h k in
      let pl : plan v ≡ m = plan-turn w c.depth x O.long in
      let d : c.depth + 1 ≡ suc c.depth = add-one c.depth in
      let same : turns (c.depth + 1) v ≡ x ∷ ts = ap (λ (n : ℕ). turns n v) d ∙ turns_more c.depth x w (omega (arith, O.long)) in
      let first : get_or v (firsts_at + u) 0 ≡ first_at m u = sym (first-at v u (omega arith)) ∙ ap (λ (l : List ℕ). first_at l u) pl in
      let wt : weight_in (word_at m c.place) ≡ weight_in (word_here w c) = rw e refl in
      let wx : weight_in (word_at m (place_in x)) ≡ weight_in (word_here w c) = rw (j, e) refl in
      record {
        on = record {
          planned = rw pl O.planned;
          lower = lower-turn s weight seed m w c.depth x O.planned O.lower;
          long = omega (arith, O.long, length-set w (turns_at + c.depth) x);
          placed = rw (pl, same, first)
              (record {
                pin = ui;
                low = omega arith;
                high = omega (arith, O.planned.by-arcs.ends u ui);
                deep = omega (arith, O.placed.deep);
                light = omega (arith, O.placed.light);
              });
          turned = rw (pl, same)
              (rw (i, j) O.placed, rw (i, j) (inside s weight seed w c O h), O.turned);
          sum = rw (pl, same) (omega (arith, O.sum));
        };
        kept = kept_set turns_at turns_end w w (turns_at + c.depth) x (kept-none turns_at turns_end w) (omega arith) (omega arith);
        falls = omega arith;
        passed = record {
          cut = [];
          is = rw (found_none v (deeper w c) refl, pl, same, first) (rw f at (rest-deeper s weight seed m O.planned ts x c.pin c.place (inside s weight seed w c O h) i j r.from r.from-in st));
          out = tt;
          value = λ n q. cc;
          done = λ q. cc;
          taken = λ n q. cc;
        };
      }

  pub step-deeper : Ready w c → Step under w c (turned w c) (deeper w c)
  unfolding reach
  step-deeper R =
      record {
        went = went-deeper;
        less = λ b.
            let O = R.on in
            let s = R.of in
            let m = plan w in
            let x = turn c.pin c.place in
            let v = turned w c in
            let u = from_here w c in
            let r = here s R.weight R.seed w c O h in
            let e = word-is s R.weight R.seed w c O h in
            let low = depth_low s R.weight R.seed w c O in
            let f : from_in (word_at m c.place) ≡ u = rw e refl in
            let ui : u < pins s = from-in s R.weight R.seed w c O h in
            let i : pin_in x ≡ c.pin = omega (arith, r.at) in
            let j : place_in x ≡ c.place = omega (arith, r.at) in
            let pl : plan v ≡ m = plan-turn w c.depth x O.long in
            let d : c.depth + 1 ≡ suc c.depth = add-one c.depth in
            let same : turns (c.depth + 1) v ≡ x ∷ turns c.depth w = ap (λ (n : ℕ). turns n v) d ∙ turns_more c.depth x w (omega (arith, O.long)) in
            let first : get_or v (firsts_at + u) 0 ≡ first_at m u = sym (first-at v u (omega (arith, O.planned.ok.few-pins))) ∙ ap (λ (l : List ℕ). first_at l u) pl in
            let q : 256 - c.depth ≡ suc (256 - (c.depth + 1)) = omega arith in
            rw (b, pl, same, first, q)
            (omega (arith, rw f at (size-deeper m (turns c.depth w) (256 - (c.depth + 1)) x c.pin c.place (inside s R.weight R.seed w c O h) i j)));
      }
