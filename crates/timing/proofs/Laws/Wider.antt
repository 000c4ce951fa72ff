-- Two times of one structure, the second's ranges containing the first's: no slack is greater in the second, and none is lower by more than all that
-- was widened, lengthened or shortened, added up.
--
-- The slack is the sum of the picks for a path less those against it. Widening lowers the first and raises the second. Each arc and each pin is picked
-- once, so what a sum moves by is at most what all of them moved by. A ranking by such a slack moves rank by rank as the slacks of its items do.
-- Assumes nothing.
use Rattle.std.specs.Prelude.{ℕ, ◌+◌, ◌-◌, ◌≤◌, ◌<◌}
use mathlib.Core.List.{List, [], ◌++◌}
use native.Mathlib.Omega.{arith}
use Rattle.lists.specs.Parts.{sum}
use Rattle.lists.specs.Laws.Member.{In}
use Rattle.lists.specs.Laws.Sum.{Distinct}
use Rattle.lists.proofs.Laws.Sum.{sum-le, sum-excess, sum-part, sum_one}
use Rattle.lists.specs.Laws.Integer.{Within}
use Rattle.lists.proofs.Laws.Integer.{sub_within}
use Rattle.lists.specs.Laws.Ranking.{Both}
use Rattle.lists.proofs.Laws.Ranking.{rank-both}
use Rattle.timing.specs.Table.{early, late}
use Rattle.timing.specs.Structure.{Structure, pins, arcs, tests, Times}
use Rattle.timing.specs.Paths.{Path, paths}
use Rattle.timing.specs.Slack.{Mode, for_setup, for_hold, slack, ranked}
use Rattle.timing.specs.Laws.Sound.{Sound}
use Rattle.timing.specs.Laws.Ranged.{Ranged}
use Rattle.timing.specs.Laws.Picks.{Picks, picks, Once}
use Rattle.timing.proofs.Laws.Picks.{picks-once}
use Rattle.timing.specs.Laws.Cancel.{for_picks, against_picks}
use Rattle.timing.proofs.Laws.Cancel.{picks-add}
use Rattle.timing.specs.Laws.Wider.{Wider, above, moved}

-- a sum over some of the numbers below n, each once, is above another by no more than the whole is
above-part : (f g : ℕ → ℕ) (n : ℕ) (l : List ℕ) → Distinct l → ((i : ℕ) → In i l → i < n) → sum f l ≤ sum g l + above f g n
unfolding above
above-part f g n l d h = omega (arith, sum-excess f g l, sum-part (λ (i : ℕ). f i - g i) n l d h)

above-one : (f g : ℕ → ℕ) (n i : ℕ) → i < n → f i ≤ g i + above f g n
unfolding above
above-one f g n i h = omega (arith, sum_one (λ (i : ℕ). f i - g i) n i h)

-- the sums of one path's picks
module _ (s : Structure) (x y : Times) (w : Wider s x y) (p : Path) (o : Picks) (c : Once s p o) where
  falls : (m : Mode) → for_picks m y p o + against_picks m x p o ≤ for_picks m x p o + against_picks m y p o
  unfolding for_picks against_picks
  falls for_setup =
      omega (
        arith,
        sum-le (y.arrival early) (x.arrival early) o.capture-pins (λ q i. let r = c.root_in q i in w.pin-early q r.0 r.1),
        sum-le (y.delay early) (x.delay early) o.capture-arcs (λ a i. w.arc-early a (c.capture-in a i)),
        sum-le (x.arrival late) (y.arrival late) o.launch-pins (λ q i. let r = c.start-in q i in w.pin-late q r.0 r.1),
        sum-le (x.delay late) (y.delay late) (o.launch-arcs ++ p.walk) (λ a i. w.arc-late a (c.run_in a i)),
        w.setups p.test c.test_in,
        w.shorter,
      )
  falls for_hold =
      omega (
        arith,
        sum-le (y.arrival early) (x.arrival early) o.launch-pins (λ q i. let r = c.start-in q i in w.pin-early q r.0 r.1),
        sum-le (y.delay early) (x.delay early) (o.launch-arcs ++ p.walk) (λ a i. w.arc-early a (c.run_in a i)),
        sum-le (x.arrival late) (y.arrival late) o.capture-pins (λ q i. let r = c.root_in q i in w.pin-late q r.0 r.1),
        sum-le (x.delay late) (y.delay late) o.capture-arcs (λ a i. w.arc-late a (c.capture-in a i)),
        w.holds p.test c.test_in,
      )

  not-far : (m : Mode) → for_picks m x p o + against_picks m y p o ≤ for_picks m y p o + against_picks m x p o + moved s x y
  unfolding for_picks against_picks moved
  not-far for_setup =
      omega (
        arith,
        above-part (x.arrival early) (y.arrival early) (pins s) o.capture-pins c.root-once (λ q i. (c.root_in q i).0),
        above-part (x.delay early) (y.delay early) (arcs s) o.capture-arcs c.capture-once c.capture-in,
        above-part (y.arrival late) (x.arrival late) (pins s) o.launch-pins c.start-once (λ q i. (c.start-in q i).0),
        above-part (y.delay late) (x.delay late) (arcs s) (o.launch-arcs ++ p.walk) c.run-once c.run_in,
        above-one y.setup x.setup (tests s) p.test c.test_in,
      )
  not-far for_hold =
      omega (
        arith,
        above-part (x.arrival early) (y.arrival early) (pins s) o.launch-pins c.start-once (λ q i. (c.start-in q i).0),
        above-part (x.delay early) (y.delay early) (arcs s) (o.launch-arcs ++ p.walk) c.run-once c.run_in,
        above-part (y.arrival late) (x.arrival late) (pins s) o.capture-pins c.root-once (λ q i. (c.root_in q i).0),
        above-part (y.delay late) (x.delay late) (arcs s) o.capture-arcs c.capture-once c.capture-in,
        above-one y.hold x.hold (tests s) p.test c.test_in,
      )

module _ (s : Structure) (ok : Sound s) (x y : Times) (rx : Ranged s x) (ry : Ranged s y) (w : Wider s x y) (m : Mode) where
  -- the slack of one path
  pub path-moves : (p : Path) → In p (paths s) → Within 0 (slack m s y p) (slack m s x p) × Within (moved s x y) (slack m s x p) (slack m s y p)
  path-moves p h =
      let o = picks s p in
      let c = picks-once s ok p h in
      rw (picks-add s ok x rx m p h, picks-add s ok y ry m p h) (
        sub_within 0 (for_picks m y p o) (against_picks m y p o) (for_picks m x p o) (against_picks m x p o) (omega (arith, falls s x y w p o c m)),
        sub_within (moved s x y) (for_picks m x p o) (against_picks m x p o) (for_picks m y p o) (against_picks m y p o) (not-far s x y w p o c m),
      )

  -- rank by rank
  pub ranked-falls : Both (λ (p q : Path). Within 0 (slack m s y p) (slack m s x q)) (ranked m s y) (ranked m s x)
  unfolding ranked
  ranked-falls = rank-both (slack m s y) (slack m s x) 0 [] [] (paths s) (λ p h. (path-moves p h).0) tt tt tt

  pub ranked-near : Both (λ (p q : Path). Within (moved s x y) (slack m s x p) (slack m s y q)) (ranked m s x) (ranked m s y)
  unfolding ranked
  ranked-near = rank-both (slack m s x) (slack m s y) (moved s x y) [] [] (paths s) (λ p h. (path-moves p h).1) tt tt tt
