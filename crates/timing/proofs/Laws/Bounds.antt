-- "No slack is outside -257,000,000 to 257,000,000", and a path "has at least one and at most P - 1" arcs.
--
-- Launch route and walk together have fewer arcs than there are pins, and so has the capture route: each rises at every arc. So each side of a slack
-- counts at most 255 delays, one arrival, and one of period, setup and hold.
-- Assumes nothing.
use Rattle.std.specs.Prelude.{◌≡◌, List, [], ◌∷◌, ◌++◌, ℕ, ◌≤◌, ◌<◌, length, pos, negsuc}
use Rattle.std.proofs.Common.{arith}
use Rattle.std.proofs.Math.IntN.{sub_ℕ}
use Rattle.lists.specs.Parts.{sum}
use Rattle.lists.specs.Laws.Member.{In}
use Rattle.lists.proofs.Laws.Sum.{sum_bound}
use Rattle.lists.proofs.Laws.Integer.{within-le, sub-range}
use Rattle.timing.specs.Limits.{most_time}
use Rattle.timing.specs.Table.{Edge, early, late}
use Rattle.timing.specs.Structure.{Structure, pins, arcs, data_pin, Times}
use Rattle.timing.specs.Paths.{Path, paths}
use Rattle.timing.specs.Slack.{Mode, for_setup, for_hold, slack}
use Rattle.timing.specs.Laws.Sound.{Sound}
use Rattle.timing.specs.Laws.Walked.{Walk}
use Rattle.timing.proofs.Laws.Walked.{walk-rises}
use Rattle.timing.proofs.Laws.Listed.{in-paths}
use Rattle.timing.specs.Laws.Ranged.{Ranged}
use Rattle.timing.specs.Laws.Picks.{Picks, picks, Once}
use Rattle.timing.proofs.Laws.Picks.{picks-once}
use Rattle.timing.specs.Laws.Cancel.{for_picks, against_picks}
use Rattle.timing.proofs.Laws.Cancel.{picks-add}
use Rattle.timing.specs.Laws.Bounds.{FewArcs, Bounded}

pub path-arcs : (s : Structure) → Sound s → (p : Path) → In p (paths s) → FewArcs s p
path-arcs s ok p h =
    let q = in-paths s p h in
    let rise = walk-rises s ok (data_pin s p.test) p.walk q.1 in
    let v : ok.level (data_pin s p.test) < pins s = ok.level_in (data_pin s p.test) (ok.data-in p.test q.0) in
    record { some-arcs = some_of p.walk (data_pin s p.test) q.1; few-arcs = omega arith }
  where
    some_of : (w : List ℕ) (v : ℕ) → Walk s v w → 1 ≤ length w
    some_of [] v k = absurd k
    some_of (a ∷ w) v k = omega arith

-- ---- slack
module _ (s : Structure) (ok : Sound s) (x : Times) (r : Ranged s x) where
  delay-few : (e : Edge) (a : ℕ) → a < arcs s → x.delay e a ≤ most_time
  delay-few early a l = omega (arith, r.delays a l, r.delay-most a l)
  delay-few late a l = r.delay-most a l

  arrival-few : (e : Edge) (p : ℕ) → p < pins s → x.arrival e p ≤ most_time
  arrival-few early p l = omega (arith, r.arrivals p l, r.arrival-most p l)
  arrival-few late p l = r.arrival-most p l

  module _ (p : Path) (o : Picks) (c : Once s p o) where
    run-most : (e : Edge) → sum (x.delay e) (o.launch-arcs ++ p.walk) ≤ 255000000
    run-most e = omega (arith, sum_bound (x.delay e) most_time (o.launch-arcs ++ p.walk) (λ a i. delay-few e a (c.run_in a i)), c.run_short, ok.few-pins)

    capture-most : (e : Edge) → sum (x.delay e) o.capture-arcs ≤ 255000000
    capture-most e = omega (arith, sum_bound (x.delay e) most_time o.capture-arcs (λ a i. delay-few e a (c.capture-in a i)), c.capture-short, ok.few-pins)

    start-most : (e : Edge) → sum (x.arrival e) o.launch-pins ≤ most_time
    start-most e = omega (arith, sum_bound (x.arrival e) most_time o.launch-pins (λ q i. arrival-few e q (c.start-in q i).0), c.start-short)

    root-most : (e : Edge) → sum (x.arrival e) o.capture-pins ≤ most_time
    root-most e = omega (arith, sum_bound (x.arrival e) most_time o.capture-pins (λ q i. arrival-few e q (c.root_in q i).0), c.root-short)

    pub for-most : (m : Mode) → for_picks m x p o ≤ 257000000
    unfolding for_picks
    for-most for_setup = omega (arith, root-most early, capture-most early, r.period-most)
    for-most for_hold = omega (arith, start-most early, run-most early)

    pub against-most : (m : Mode) → against_picks m x p o ≤ 257000000
    unfolding against_picks
    against-most for_setup = omega (arith, r.setup-most p.test c.test_in, start-most late, run-most late)
    against-most for_hold = omega (arith, r.hold-most p.test c.test_in, root-most late, capture-most late)

pub slack-bounds : (s : Structure) → Sound s → (x : Times) → Ranged s x → (m : Mode) (p : Path) → In p (paths s) → Bounded m s x p
slack-bounds s ok x r m p h =
    let o = picks s p in
    let c = picks-once s ok p h in
    let e : slack m s x p ≡ sub_ℕ (for_picks m x p o) (against_picks m x p o) = picks-add s ok x r m p h in
    let b = sub-range (for_picks m x p o) (against_picks m x p o) 257000000 (for-most s ok x r p o c m) (against-most s ok x r p o c m) in
    record {
      not-under = rw e (within-le (negsuc 256999999) (sub_ℕ (for_picks m x p o) (against_picks m x p o)) b.1);
      not-over = rw e (within-le (sub_ℕ (for_picks m x p o) (against_picks m x p o)) (pos 257000000) b.0);
    }
