-- The steps of the cursor, over the numbers as the code reads them. Those over an arc are in proofs/Laws, since they rest on the order in which the arcs are taken.
-- Assumes nothing.
use Rattle.std.specs.Prelude.{◌≡◌, true, false, length, set}
use Rattle.std.proofs.Math.Path.{refl, ap}
use Rattle.std.proofs.Common.{ap₂, get_or-set_same, get_or-set_other}
use mathlib.Core.List.{List, [], ◌∷◌}
use Prim.Native.Nat.{ℕ, zero, suc, ◌+◌, ◌-◌, ◌*◌, ◌≤◌, ◌<◌}
use Rattle.std.proofs.Math.Numerals.{add-one}
use native.Mathlib.Omega.{arith}
use Rattle.std.proofs.Math.ListN.{get_or, length-set}
use Rattle.std.proofs.lemmas.List.{take-set-le}
use Rattle.lists.proofs.Laws.Cases.{by-test}
use Rattle.timing.specs.Structure.{Structure, pins, leaves, enters}
use Rattle.timing.specs.Paths.{is_start}
use Rattle.area.specs.Area.{none, plan, word_at, first_at, seed_at, weight_in, from_in, arc_in, arcs_at, firsts_at, seeds_at, leasts_at, turns_at, turns_end}
use Rattle.area.specs.Laws.Kept.{kept-none}
use Rattle.area.specs.Laws.Plan.{word-at, first-at, seed-at, plan-kept}
use Rattle.walker.specs.Rest.{turn, pin_in, place_in, turns, came}
use Rattle.walker.specs.Cursors.{Planned, Lower, least_at, Turned, On, Ready, coming, walk_of, found, reach, Went, Step}
use Rattle.walker.specs.Laws.Rest.{Read, read, rest_back, rest-none}
use Rattle.walker.specs.Laws.Size.{size_back}
use Rattle.walker.specs.declared.Cursor.{Cursor}
use Rattle.walker.specs.declared.State.{State}
use Rattle.walker.specs.declared.State.TheVariants.{Going, Found, Ended}

abbrev pub cursor : ℕ → ℕ → ℕ → ℕ → State → ℕ → Cursor
cursor d v p n x o = record { depth = d; pin = v; place = p; sum = n; state = x; out = o }

-- ---- turns in the work area

pub length-turns : (d : ℕ) (w : List ℕ) → length (turns d w) ≡ d
unfolding turns
length-turns zero w = refl
length-turns (suc d) w = ap suc (length-turns d w)

turns-set : (d e x : ℕ) (w : List ℕ) → d ≤ e → turns d (set w (turns_at + e) x) ≡ turns d w
unfolding turns
turns-set zero e x w h = refl
turns-set (suc d) e x w h =
    ap₂ (λ (a : ℕ) (l : List ℕ). a ∷ l) (get_or-set_other w (turns_at + e) (turns_at + d) x 0 (λ q. omega arith)) (turns-set d e x w (omega arith))

pub turns_more : (d x : ℕ) (w : List ℕ) → turns_at + d < length w → turns (suc d) (set w (turns_at + d) x) ≡ x ∷ turns d w
unfolding turns
turns_more d x w h = ap₂ (λ (a : ℕ) (l : List ℕ). a ∷ l) (get_or-set_same w (turns_at + d) x 0 h) (turns-set d d x w (omega arith))

-- ---- what a turn leaves of the work area

pub plan-turn : (w : List ℕ) (d x : ℕ) → turns_end ≤ length w → plan (set w (turns_at + d) x) ≡ plan w
plan-turn w d x h =
    plan-kept (set w (turns_at + d) x) w (omega (arith, length-set w (turns_at + d) x)) (omega arith) (take-set-le leasts_at w (turns_at + d) x (omega arith))

pub lower-turn : (s : Structure) (weight seed : ℕ → ℕ) (m w : List ℕ) (d x : ℕ) → Planned s weight seed m → Lower s weight seed (least_at w)
    → Lower s weight seed (least_at (set w (turns_at + d) x))
lower-turn s weight seed m w d x P L =
    let same : (v : ℕ) → v < pins s → least_at (set w (turns_at + d) x) v ≡ least_at w v =
    λ v h. get_or-set_other w (turns_at + d) (leasts_at + v) x 0 (λ q. omega (arith, P.ok.few-pins)) in
    record {
      most = λ v h. rw (same v h) (L.most v h);
      start = λ v h e. rw (same v h) (L.start v h e);
      over = λ a h e. rw (same (enters s a) (P.ok.to_in a h), same (leaves s a) (P.ok.from_in a h)) (L.over a h e);
    }

-- ---- a cursor that found nothing, and one that did

pub found_none : (w : List ℕ) (c : Cursor) → c.state ≡ Going → found w c ≡ []
unfolding found
found_none w c e = rw e refl

pub found-not : (w : List ℕ) (c : Cursor) → c.state ≡ Ended → found w c ≡ []
unfolding found
found-not w c e = rw e refl

pub found-one : (w : List ℕ) (c : Cursor) (v : ℕ) → c.state ≡ Found v → found w c ≡ walk_of w c ∷ []
unfolding found
found-one w c v e = rw e refl

-- ---- what the code reads at the cursor

module _ (s : Structure) (weight seed : ℕ → ℕ) (w : List ℕ) (c : Cursor) (O : On s weight seed w c) where
  pin-low : c.pin < 256
  pin-low = omega (arith, O.placed.pin, O.planned.ok.few-pins)

  -- where the arcs into the pin end
  pub end-at : first_at (plan w) (c.pin + 1) ≡ get_or w (firsts_at + c.pin + 1) 0
  end-at =
      let p = pin-low in
      let z : firsts_at + (c.pin + 1) ≡ firsts_at + c.pin + 1 = omega arith in
      rw z at (first-at w (c.pin + 1) (omega arith))

  pub depth_low : c.depth < 256
  depth_low = omega (arith, O.placed.deep, length-turns c.depth w)

  pub sum-light : c.sum ≤ c.depth * 70368744177664
  sum-light = omega (arith, O.sum, O.placed.light, length-turns c.depth w)

  pub end_low : get_or w (firsts_at + c.pin + 1) 0 ≤ 1024
  end_low = omega (arith, end-at, O.planned.by-arcs.fits c.pin O.placed.pin)

  module _ (h : c.place < get_or w (firsts_at + c.pin + 1) 0) where
    pub inside : c.place < first_at (plan w) (c.pin + 1)
    inside = rw end-at h

    pub here : Read s weight seed (plan w) O.planned c.pin c.place
    here = read s weight seed (plan w) O.planned c.pin c.place O.placed.pin O.placed.low inside

    pub word-is : word_at (plan w) c.place ≡ get_or w (arcs_at + c.place) 0
    word-is = word-at w c.place here.at

    pub from_low : from_in (get_or w (arcs_at + c.place) 0) < 256
    from_low = omega arith

    pub from-in : from_in (get_or w (arcs_at + c.place) 0) < pins s
    from-in = rw word-is at here.from-in

    pub least-most : get_or w (leasts_at + from_in (get_or w (arcs_at + c.place) 0)) 0 ≤ none
    least-most = O.lower.most (from_in (get_or w (arcs_at + c.place) 0)) from-in

    -- the arc leaves a start, or it does not, as its seed says
    seed-is : seed_at (plan w) (from_in (word_at (plan w) c.place)) ≡ get_or w (seeds_at + from_in (get_or w (arcs_at + c.place) 0)) 0
    seed-is = rw word-is (seed-at w (from_in (get_or w (arcs_at + c.place) 0)) (omega arith))

    pub starts : get_or w (seeds_at + from_in (get_or w (arcs_at + c.place) 0)) 0 < none → is_start s (leaves s (arc_in (word_at (plan w) c.place))) ≡ true
    starts l =
        by-test (is_start s (leaves s (arc_in (word_at (plan w) c.place)))) (λ e. e)
        (λ e.
        let z = O.planned.by-seeds.other (from_in (word_at (plan w) c.place)) here.from-in (rw here.from e) in
        absurd (omega (arith, seed-is, z)))

    pub goes_on : none ≤ get_or w (seeds_at + from_in (get_or w (arcs_at + c.place) 0)) 0 → is_start s (leaves s (arc_in (word_at (plan w) c.place))) ≡ false
    goes_on l =
        by-test (is_start s (leaves s (arc_in (word_at (plan w) c.place))))
        (λ e.
        let f : is_start s (from_in (word_at (plan w) c.place)) ≡ true = rw here.from e in
        let z = O.planned.by-seeds.start (from_in (word_at (plan w) c.place)) here.from-in f in
        let y = O.planned.by-seeds.light (from_in (word_at (plan w) c.place)) here.from-in f in
        absurd (omega (arith, seed-is, z, y)))
        (λ e. e)

-- the word at the cursor, the pin that its arc leaves, and the bound of the arc
abbrev pub word_here : List ℕ → Cursor → ℕ
word_here w c = get_or w (arcs_at + c.place) 0

abbrev pub from_here : List ℕ → Cursor → ℕ
from_here w c = from_in (word_here w c)

abbrev pub bound_here : List ℕ → Cursor → ℕ
bound_here w c = c.sum + weight_in (word_here w c) + get_or w (leasts_at + from_here w c) 0

-- the turn is written
abbrev pub turned : List ℕ → Cursor → List ℕ
turned w c = set w (turns_at + c.depth) (turn c.pin c.place)

-- past the arc; with a walk found; deeper; back; at the end
abbrev pub past : Cursor → ℕ → Cursor
past c o = cursor c.depth c.pin (c.place + 1) c.sum Going o

abbrev pub caught : List ℕ → Cursor → Cursor
caught w c = cursor c.depth c.pin (c.place + 1) c.sum (Found (bound_here w c)) c.out

abbrev pub deeper : List ℕ → Cursor → Cursor
deeper w c = cursor (c.depth + 1) (from_here w c) (get_or (turned w c) (firsts_at + from_here w c) 0) (c.sum + weight_in (word_here w c)) Going c.out

abbrev pub last_turn : List ℕ → Cursor → ℕ
last_turn w c = get_or w (turns_at + (c.depth - 1)) 0

abbrev pub back : List ℕ → Cursor → Cursor
back w c =
    cursor (c.depth - 1) (pin_in (last_turn w c)) (place_in (last_turn w c) + 1) (c.sum - weight_in (get_or w (arcs_at + place_in (last_turn w c)) 0)) Going c.out

abbrev pub ended : Cursor → Cursor
ended c = cursor c.depth c.pin c.place c.sum Ended c.out

-- ---- no arc is left: back to the turn before

turns-last : (w : List ℕ) (c : Cursor) → 0 < c.depth → turns c.depth w ≡ last_turn w c ∷ turns (c.depth - 1) w
unfolding turns
turns-last w c k = let e : c.depth ≡ suc (c.depth - 1) = omega arith in ap (λ (d : ℕ). turns d w) e

module _ (under : ℕ) (w : List ℕ) (c : Cursor) (h : get_or w (firsts_at + c.pin + 1) 0 ≤ c.place) (k : 0 < c.depth) where
  went_back : (s : Structure) (weight seed : ℕ → ℕ) → On s weight seed w c → Went s weight seed under w c w (back w c)
  unfolding coming came
  went_back s weight seed O =
      let m = plan w in
      let x = last_turn w c in
      let ts = turns (c.depth - 1) w in
      let t : Turned (x ∷ ts) s O.planned.ok.level m = rw (turns-last w c k) at O.turned in
      let r = read s weight seed m O.planned (pin_in x) (place_in x) t.0.pin t.0.low t.1 in
      let e : word_at m (place_in x) ≡ get_or w (arcs_at + place_in x) 0 = word-at w (place_in x) r.at in
      let n : c.sum ≡ weight_in (word_at m (place_in x)) + came ts m = rw (turns-last w c k) at O.sum in
      let g : weight_in (word_at m (place_in x)) ≡ weight_in (get_or w (arcs_at + place_in x) 0) = rw e refl in
      let z : place_in x + 1 ≡ suc (place_in x) = add-one (place_in x) in
      record {
        on = record {
          planned = O.planned;
          lower = O.lower;
          long = O.long;
          placed = record {
            pin = t.0.pin;
            low = omega (arith, t.0.low);
            high = omega (arith, t.1);
            deep = t.0.deep;
            light = t.0.light;
          };
          turned = t.2;
          sum = omega arith;
        };
        kept = kept-none turns_at turns_end w;
        falls = omega arith;
        passed = record {
          cut = [];
          is = rw (found_none w (back w c) refl, z, turns-last w c k) (rest_back s m ts x c.pin c.place (rw (end-at s weight seed w c O) h));
          out = tt;
          value = λ v e. cc;
          done = λ e. cc;
          taken = λ v e. cc;
        };
      }

  pub step_back : Ready w c → Step under w c w (back w c)
  unfolding reach
  step_back R =
      record {
        went = went_back;
        less = λ b.
            let low = depth_low R.of R.weight R.seed w c R.on in
            let x = last_turn w c in
            let z : place_in x + 1 ≡ suc (place_in x) = add-one (place_in x) in
            let q : 256 - (c.depth - 1) ≡ suc (256 - c.depth) = omega arith in
            rw (b, z, turns-last w c k, q) (omega (arith, size_back (plan w) (turns (c.depth - 1) w) (256 - c.depth) x c.pin c.place));
      }

-- what the code reads of the turn before
pub last_fits : (s : Structure) (weight seed : ℕ → ℕ) (w : List ℕ) (c : Cursor) → On s weight seed w c → 0 < c.depth
    → (place_in (last_turn w c) < 1024) × (weight_in (get_or w (arcs_at + place_in (last_turn w c)) 0) ≤ c.sum)
unfolding came
last_fits s weight seed w c O k =
    let m = plan w in
    let x = last_turn w c in
    let ts = turns (c.depth - 1) w in
    let l : turns c.depth w ≡ x ∷ ts = turns-last w c k in
    let t : Turned (x ∷ ts) s O.planned.ok.level m = rw l at O.turned in
    let r = read s weight seed m O.planned (pin_in x) (place_in x) t.0.pin t.0.low t.1 in
    let e : word_at m (place_in x) ≡ get_or w (arcs_at + place_in x) 0 = word-at w (place_in x) r.at in
    let n : c.sum ≡ weight_in (word_at m (place_in x)) + came ts m = rw l at O.sum in
    let g : weight_in (word_at m (place_in x)) ≡ weight_in (get_or w (arcs_at + place_in x) 0) = rw e refl in
    (r.at, omega arith)

-- ---- nothing is left

pub step-ended : (under : ℕ) (w : List ℕ) (c : Cursor) → get_or w (firsts_at + c.pin + 1) 0 ≤ c.place → c.depth ≡ 0 → Ready w c → Step under w c w (ended c)
unfolding reach
step-ended under w c h k R = record { went = went; less = λ b. rw b (omega arith) }
  where
    none_left : (s : Structure) (weight seed : ℕ → ℕ) → On s weight seed w c → coming s w c ≡ []
    none_left s weight seed O = unfold coming turns in rw k (rest-none s (plan w) c.pin c.place (rw (end-at s weight seed w c O) h))

    went : (s : Structure) (weight seed : ℕ → ℕ) → On s weight seed w c → Went s weight seed under w c w (ended c)
    went s weight seed O = unfold coming in
        record {
          on = record { planned = O.planned; lower = O.lower; long = O.long; placed = O.placed; turned = O.turned; sum = O.sum };
          kept = kept-none turns_at turns_end w;
          falls = omega arith;
          passed = record {
            cut = [];
            is = rw (found-not w (ended c) refl) refl;
            out = tt;
            value = λ v e. cc;
            done = λ e. none_left s weight seed O;
            taken = λ v e. cc;
          };
        }

-- ---- what the code asks

-- at a cursor
pub record Safe (w : List ℕ) (c : Cursor) : Type 0 where
  pub long : turns_end ≤ length w
  pub depth : c.depth < 256
  pub pin : c.pin < 256
  pub sum : c.sum ≤ c.depth * 70368744177664
  pub end : get_or w (firsts_at + c.pin + 1) 0 ≤ 1024

pub safe : (w : List ℕ) (c : Cursor) → Ready w c → Safe w c
safe w c R =
    let s = R.of in
    let g = R.weight in
    let d = R.seed in
    record {
      long = R.on.long;
      depth = depth_low s g d w c R.on;
      pin = pin-low s g d w c R.on;
      sum = sum-light s g d w c R.on;
      end = end_low s g d w c R.on;
    }

-- the number of the pin that the arc leaves
pub safe-least : (w : List ℕ) (c : Cursor) → Ready w c → c.place < get_or w (firsts_at + c.pin + 1) 0 → get_or w (leasts_at + from_here w c) 0 ≤ none
safe-least w c R h = least-most R.of R.weight R.seed w c R.on h

-- the turn before
pub safe-last : (w : List ℕ) (c : Cursor) → Ready w c → 0 < c.depth → weight_in (get_or w (arcs_at + place_in (last_turn w c)) 0) ≤ c.sum
safe-last w c R k = (last_fits R.of R.weight R.seed w c R.on k).1
