-- A path's slack is its value, moved by what its test alone decides. So within one test values rank as slacks do, and an engine that adds up natural numbers
-- below 2^30 is enough.
--
-- In hold the value is the sum itself. In setup each arc weighs a step of 1,000,000 for every level that it rises, less its late delay. The steps of a walk add up
-- to the levels between its start and its pin, whatever the way, so with the start's own level in its seed every walk to a pin is raised alike (`setup-sum`).
-- No subtraction cuts: an arc rises by a level at least and its delay is at most a step, and no start arrives later than the base (`start-most`).
-- Assumes nothing.
use Rattle.std.specs.Prelude.{◌≡◌, refl, ℕ, ◌+◌, ◌-◌, ◌*◌, ◌≤◌, ◌<◌}
use Rattle.std.proofs.Math.Path.{ap}
use Rattle.std.proofs.Common.{◌∙◌, eq-eqb, ne_eqb}
use mathlib.Core.List.{List, [], ◌∷◌}
use native.Mathlib.Omega.{arith}
use Rattle.std.proofs.Math.Decide.{ℕ_discrete}
use Rattle.std.proofs.Math.ListN.{length, length-append}
use Rattle.std.proofs.Math.IntN.{sub_ℕ}
use Rattle.lists.specs.Choice.{pick}
use Rattle.lists.specs.Parts.{sum, last}
use Rattle.lists.specs.Laws.Member.{In}
use Rattle.lists.proofs.Laws.Sum.{sum_bound}
use Rattle.lists.proofs.Laws.Integer.{same-difference}
use Rattle.timing.specs.Limits.{most_time}
use Rattle.timing.specs.Kinds.{K}
use Rattle.timing.specs.Table.{early, late}
use Rattle.timing.specs.Structure.{Structure, pins, arcs, tests, kind, leaves, enters, clock_pin, data_pin, Times}
use Rattle.timing.specs.Clock.{climb, root, clock_arrival, common, pin_credit}
use Rattle.timing.specs.Paths.{walks, Path, path, start}
use Rattle.timing.specs.Slack.{Mode, for_setup, for_hold, start_arrival, path_credit, gain, loss, slack}
use Rattle.timing.specs.Value.{value_of, value, base, credit_from, weight_of, seed_of, raise, lower}
use Rattle.timing.specs.Laws.Sound.{Sound}
use Rattle.timing.specs.Laws.Ranged.{Ranged}
use Rattle.timing.proofs.Laws.Ranged.{clock-order}
use Rattle.timing.proofs.Laws.Routes.{climb-arcs, length-climb, meeting, root_is}
use Rattle.timing.specs.Laws.Walked.{Walk}
use Rattle.timing.proofs.Laws.Walked.{last-arc, walk-rises, walk-arcs, exactly-walks}

-- the credit of a path is that of its start, against its test's clock pin
pub credit-from : (m : Mode) (s : Structure) (x : Times) (p : Path) → credit_from m s x (clock_pin s p.test) (start s p) ≡ path_credit m s x p
unfolding credit_from path_credit
credit-from m s x p = refl

module _ (s : Structure) (ok : Sound s) (x : Times) (r : Ranged s x) where
  -- ---- what no subtraction exceeds

  -- a clock arrival is R's and at most 255 delays
  clock-most : (p : ℕ) → length (climb s p) < pins s → clock_arrival late s x p ≤ base
  unfolding clock_arrival
  clock-most p h =
      omega (
        arith,
        r.arrival-most (root s) (root_is s ok).0,
        sum_bound (x.delay late) most_time (climb s p) (λ a i. r.delay-most a (climb-arcs s p a i)),
        ok.few-pins,
      )

  climb-few : (p : ℕ) → p < pins s → length (climb s p) < pins s
  climb-few p l = omega (arith, length-climb s ok p l, ok.level_in p l)

  -- no start arrives later than the base
  pub start-most : (p : ℕ) → p < pins s → start_arrival late s x p ≤ base
  unfolding start_arrival pick
  start-most p l = elim (ℕ_discrete (kind s p) K) [
    | yes e ↦ rw (eq-eqb _ _ e) (clock-most p (climb-few p l))
    | no e ↦ rw (ne_eqb _ _ e) (omega (arith, r.arrival-most p l))
  ]

  start-order : (p : ℕ) → p < pins s → start_arrival early s x p ≤ start_arrival late s x p
  unfolding start_arrival pick
  start-order p l = elim (ℕ_discrete (kind s p) K) [
    | yes e ↦ rw (eq-eqb _ _ e) (clock-order s ok x r p)
    | no e ↦ rw (ne_eqb _ _ e) (r.arrivals p l)
  ]

  -- no credit is more than the base
  pub credit-most : (m : Mode) (c p : ℕ) → c < pins s → kind s c ≡ K → p < pins s → credit_from m s x c p ≤ base
  unfolding credit_from pin_credit pick
  credit-most m c p cl ck l = elim (ℕ_discrete (kind s p) K) [
    | yes e ↦
        let y = (meeting s ok p c l cl e ck).own in
        let n : length (climb s p) ≡ length y.front + length (climb s (common s p c)) = ap length y.meets ∙ length-append y.front (climb s (common s p c)) in
        rw (eq-eqb _ _ e) (omega (arith, clock-most (common s p c) (omega (arith, climb-few p l))))
    | no e ↦ rw (ne_eqb _ _ e) (omega arith)
  ]

  -- an arc rises by steps that exceed its late delay
  pub delay-step : (a : ℕ) → a < arcs s → x.delay late a ≤ (ok.level (enters s a) - ok.level (leaves s a)) * most_time
  delay-step a l = omega (arith, ok.rises a l, r.delay-most a l)

  -- ---- setup
  -- the weights of a walk and its late delays are the steps from its start
  setup-sum : (v : ℕ) (w : List ℕ) → Walk s v w
      → sum (weight_of for_setup ok.level s x) w + sum (x.delay late) w + ok.level (leaves s (last 0 w)) * most_time ≡ ok.level v * most_time
  unfolding sum last weight_of
  setup-sum v [] h = absurd h
  setup-sum v (a ∷ []) h = rw (← h.1) (omega (arith, delay-step a h.0, ok.rises a h.0))
  setup-sum v (a ∷ b ∷ w) h = rw (← h.1) (omega (arith, delay-step a h.0, ok.rises a h.0, setup-sum (leaves s a) (b ∷ w) h.3))

  start-in : (v : ℕ) (w : List ℕ) → Walk s v w → leaves s (last 0 w) < pins s
  start-in v w h = ok.from_in (last 0 w) (last-arc s w v h)

  -- a setup value, and what the path arrives with, is the same height for every walk to v, and the credit
  setup-value : (c v : ℕ) (w : List ℕ) → Walk s v w
      → value for_setup ok.level s x c w + (start_arrival late s x (leaves s (last 0 w)) + sum (x.delay late) w)
      ≡ ok.level v * most_time + base + credit_from for_setup s x c (leaves s (last 0 w))
  unfolding value_of seed_of
  setup-value c v w h = omega (arith, setup-sum v w h, start-most (leaves s (last 0 w)) (start-in v w h))

  -- ---- the slack, and the bound
  balance : (m : Mode) (j : ℕ) (w : List ℕ) → Walk s (data_pin s j) w
      → gain m s x (path j w) + credit_from m s x (clock_pin s j) (leaves s (last 0 w)) + lower m ok.level s x j
      ≡ value m ok.level s x (clock_pin s j) w + raise m s x j + loss m s x (path j w)
  unfolding gain loss raise lower start
  balance for_setup j w h = omega (arith, setup-value (clock_pin s j) (data_pin s j) w h)
  balance for_hold j w h = unfold value_of seed_of weight_of in omega arith

  -- the slack of a path is its value, raised and lowered by what its test decides
  pub valued : (m : Mode) (j : ℕ) → j < tests s → (w : List ℕ) → In w (walks s (data_pin s j))
      → slack m s x (path j w) ≡ sub_ℕ (value m ok.level s x (clock_pin s j) w + raise m s x j) (lower m ok.level s x j)
  unfolding slack path_credit credit_from start
  valued m j l w i =
      same-difference (gain m s x (path j w) + path_credit m s x (path j w)) (loss m s x (path j w)) (value m ok.level s x (clock_pin s j) w + raise m s x j)
      (lower m ok.level s x j)
      (balance m j w ((exactly-walks s ok (data_pin s j) (ok.data-in j l) w).0 i))

  hold-sum : (v : ℕ) → v < pins s → (w : List ℕ) → Walk s v w → sum (weight_of for_hold ok.level s x) w ≤ 255000000
  unfolding weight_of
  hold-sum v l w h =
      let few : (a : ℕ) → In a w → x.delay early a ≤ most_time =
      λ a i. let k = (walk-arcs s ok v w h a i).0 in omega (arith, r.delays a k, r.delay-most a k) in
      omega (arith, sum_bound (x.delay early) most_time w few, walk-rises s ok v w h, ok.level_in v l, ok.few-pins)

  -- no value comes to 2^30, of any walk to any pin
  pub value-most : (m : Mode) (c v : ℕ) → c < pins s → kind s c ≡ K → v < pins s → (w : List ℕ) → In w (walks s v)
      → value m ok.level s x c w < 1073741824
  unfolding value_of seed_of
  value-most m c v cl ck l w i =
      let h : Walk s v w = (exactly-walks s ok v l w).0 i in
      let k : leaves s (last 0 w) < pins s = start-in v w h in
      go m h (credit-most m c (leaves s (last 0 w)) cl ck k) k
    where
      go : (m : Mode) → Walk s v w → credit_from m s x c (leaves s (last 0 w)) ≤ base → leaves s (last 0 w) < pins s → value m ok.level s x c w < 1073741824
      go for_setup h b k = omega (arith, setup-value c v w h, ok.level_in v l, ok.few-pins)
      go for_hold h b k = omega (arith, hold-sum v l w h, start-order (leaves s (last 0 w)) k, start-most (leaves s (last 0 w)) k)

  -- ---- the parts of a value, and what a test adds and takes
  -- a seed is below 2^30 too
  pub seed-most : (m : Mode) (c p : ℕ) → c < pins s → kind s c ≡ K → p < pins s → seed_of m ok.level s x c p < 1073741824
  unfolding seed_of
  seed-most for_setup c p cl ck l = omega (arith, credit-most for_setup c p cl ck l, ok.level_in p l, ok.few-pins)
  seed-most for_hold c p cl ck l = omega (arith, credit-most for_hold c p cl ck l, start-order p l, start-most p l)

  -- a weight is at most 255 steps
  pub weight-most : (m : Mode) (a : ℕ) → a < arcs s → weight_of m ok.level s x a ≤ 255000000
  unfolding weight_of
  weight-most for_setup a l = omega (arith, ok.level_in (enters s a) (ok.to_in a l), ok.few-pins)
  weight-most for_hold a l = omega (arith, r.delays a l, r.delay-most a l)

  -- what is added to a value
  pub raise-most : (m : Mode) (j : ℕ) → j < tests s → raise m s x j ≤ 257000000
  unfolding raise
  raise-most for_setup j l =
      omega (arith, clock-order s ok x r (clock_pin s j), clock-most (clock_pin s j) (climb-few (clock_pin s j) (ok.clock-in j l)), r.period-most)
  raise-most for_hold j l = omega arith

  -- what is taken from it
  pub lower-most : (m : Mode) (j : ℕ) → j < tests s → lower m ok.level s x j ≤ 512000000
  unfolding lower
  lower-most for_setup j l = omega (arith, r.setup-most j l, ok.level_in (data_pin s j) (ok.data-in j l), ok.few-pins)
  lower-most for_hold j l = omega (arith, r.hold-most j l, clock-most (clock_pin s j) (climb-few (clock_pin s j) (ok.clock-in j l)))
