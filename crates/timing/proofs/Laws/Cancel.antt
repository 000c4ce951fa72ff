-- The credit cancels what launch and capture share: the slack after credit is the sum of the picks for the path less the sum of those against it.
-- Assumes nothing.
use Rattle.std.specs.Prelude.{◌≡◌, ◌≢◌, List, [], ◌∷◌, ◌++◌, ℕ, ◌+◌, ◌≤◌}
use Rattle.std.proofs.Math.Path.{ap}
use Rattle.std.proofs.Common.{◌∙◌, inl, inr, eq-eqb, ne_eqb}
use native.Mathlib.Omega.{arith}
use Rattle.std.proofs.Math.IntN.{sub_ℕ}
use Rattle.lists.specs.Choice.{pick}
use Rattle.lists.specs.Parts.{sum}
use Rattle.lists.specs.Laws.Member.{In}
use Rattle.lists.proofs.Laws.Sum.{sum-append}
use Rattle.lists.proofs.Laws.Integer.{same-difference}
use Rattle.timing.specs.Kinds.{K}
use Rattle.timing.specs.Table.{Edge, early, late}
use Rattle.timing.specs.Structure.{Structure, kind, clock_pin, Times}
use Rattle.timing.specs.Clock.{climb, root, clock_arrival, common, pin_credit}
use Rattle.timing.specs.Paths.{Path, start, paths}
use Rattle.timing.specs.Slack.{Mode, for_setup, for_hold, start_arrival, path_credit, gain, loss, slack}
use Rattle.timing.specs.Laws.Sound.{Sound}
use Rattle.timing.specs.Laws.Ranged.{Ranged}
use Rattle.timing.proofs.Laws.Ranged.{clock-order}
use Rattle.timing.specs.Laws.Picks.{Picks, FromK, FromI, Fits, picks}
use Rattle.timing.proofs.Laws.Picks.{picks-once}
use Rattle.timing.specs.Laws.Cancel.{for_picks, against_picks}

sum-none : (f : ℕ → ℕ) (l : List ℕ) → l ≡ [] → sum f l ≡ 0
unfolding sum
sum-none f l e = rw e

sum-single : (f : ℕ → ℕ) (l : List ℕ) (y : ℕ) → l ≡ y ∷ [] → sum f l ≡ f y
unfolding sum
sum-single f l y e = rw e (omega arith)

module _ (s : Structure) (x : Times) where
  -- a climb that goes on as y's does
  clock-split : (e : Edge) (p : ℕ) (l : List ℕ) (y : ℕ) → climb s p ≡ l ++ climb s y → clock_arrival e s x p ≡ sum (x.delay e) l + clock_arrival e s x y
  unfolding clock_arrival
  clock-split e p l y h =
      let a : sum (x.delay e) (climb s p) ≡ sum (x.delay e) l + sum (x.delay e) (climb s y) = ap (sum (x.delay e)) h ∙ sum-append (x.delay e) l (climb s y) in
      omega arith

  start-K : (e : Edge) (p : ℕ) → kind s p ≡ K → start_arrival e s x p ≡ clock_arrival e s x p
  unfolding start_arrival pick
  start-K e p k = rw (eq-eqb _ _ k)

  start-I : (e : Edge) (p : ℕ) → kind s p ≢ K → start_arrival e s x p ≡ x.arrival e p
  unfolding start_arrival pick
  start-I e p k = rw (ne_eqb _ _ k)

  credit-K : (m : Mode) (p : Path) → kind s (start s p) ≡ K → ((q : ℕ) → clock_arrival early s x q ≤ clock_arrival late s x q)
      → path_credit m s x p + clock_arrival early s x (common s (start s p) (clock_pin s p.test)) ≡ clock_arrival late s x (common s (start s p) (clock_pin s p.test))
  unfolding path_credit pin_credit pick
  credit-K m p k h = rw (eq-eqb _ _ k) (omega (arith, h (common s (start s p) (clock_pin s p.test))))

  credit-I : (m : Mode) (p : Path) → kind s (start s p) ≢ K → path_credit m s x p ≡ 0
  unfolding path_credit pick
  credit-I m p k = rw (ne_eqb _ _ k)

module _ (s : Structure) (x : Times) (order : (q : ℕ) → clock_arrival early s x q ≤ clock_arrival late s x q) (p : Path) (o : Picks) where
  cancel-K : (m : Mode) → FromK s p o → gain m s x p + path_credit m s x p + against_picks m x p o ≡ for_picks m x p o + loss m s x p
  unfolding gain loss for_picks against_picks
  cancel-K for_setup f =
      let st = start s p in
      let k = clock_pin s p.test in
      let c = common s st k in
      let a : clock_arrival early s x k ≡ sum (x.delay early) o.capture-arcs + clock_arrival early s x c = clock-split s x early k o.capture-arcs c f.other in
      let b : start_arrival late s x st ≡ sum (x.delay late) o.launch-arcs + clock_arrival late s x c = start-K s x late st f.is ∙ clock-split s x late st o.launch-arcs c f.own in
      omega (
        arith,
        a,
        b,
        credit-K s x for_setup p f.is order,
        sum-none (x.arrival early) o.capture-pins f.no-root,
        sum-none (x.arrival late) o.launch-pins f.no_start,
        sum-append (x.delay late) o.launch-arcs p.walk,
      )
  cancel-K for_hold f =
      let st = start s p in
      let k = clock_pin s p.test in
      let c = common s st k in
      let a : clock_arrival late s x k ≡ sum (x.delay late) o.capture-arcs + clock_arrival late s x c = clock-split s x late k o.capture-arcs c f.other in
      let b : start_arrival early s x st ≡ sum (x.delay early) o.launch-arcs + clock_arrival early s x c = start-K s x early st f.is ∙ clock-split s x early st o.launch-arcs c f.own in
      omega (
        arith,
        a,
        b,
        credit-K s x for_hold p f.is order,
        sum-none (x.arrival late) o.capture-pins f.no-root,
        sum-none (x.arrival early) o.launch-pins f.no_start,
        sum-append (x.delay early) o.launch-arcs p.walk,
      )

  root-clock : (e : Edge) → FromI s p o → clock_arrival e s x (clock_pin s p.test) ≡ sum (x.arrival e) o.capture-pins + sum (x.delay e) o.capture-arcs
  unfolding clock_arrival
  root-clock e f = rw f.all (omega (arith, sum-single (x.arrival e) o.capture-pins (root s) f.at-root))

  cancel-I : (m : Mode) → FromI s p o → gain m s x p + path_credit m s x p + against_picks m x p o ≡ for_picks m x p o + loss m s x p
  unfolding gain loss for_picks against_picks
  cancel-I for_setup f =
      omega (
        arith,
        root-clock early f,
        credit-I s x for_setup p f.is-not,
        start-I s x late (start s p) f.is-not,
        sum-single (x.arrival late) o.launch-pins (start s p) f.at-start,
        sum-append (x.delay late) o.launch-arcs p.walk,
        sum-none (x.delay late) o.launch-arcs f.none,
      )
  cancel-I for_hold f =
      omega (
        arith,
        root-clock late f,
        credit-I s x for_hold p f.is-not,
        start-I s x early (start s p) f.is-not,
        sum-single (x.arrival early) o.launch-pins (start s p) f.at-start,
        sum-append (x.delay early) o.launch-arcs p.walk,
        sum-none (x.delay early) o.launch-arcs f.none,
      )

  -- the slack after credit is the picks for the path less those against it
  pub cancel : (m : Mode) → Fits s p o → slack m s x p ≡ sub_ℕ (for_picks m x p o) (against_picks m x p o)
  unfolding slack
  cancel m (inl f) = same-difference (gain m s x p + path_credit m s x p) (loss m s x p) (for_picks m x p o) (against_picks m x p o) (cancel-K m f)
  cancel m (inr f) = same-difference (gain m s x p + path_credit m s x p) (loss m s x p) (for_picks m x p o) (against_picks m x p o) (cancel-I m f)

-- of every path
pub picks-add : (s : Structure) → Sound s → (x : Times) → Ranged s x → (m : Mode) (p : Path) → In p (paths s)
    → slack m s x p ≡ sub_ℕ (for_picks m x p (picks s p)) (against_picks m x p (picks s p))
picks-add s ok x r m p h = cancel s x (clock-order s ok x r) p (picks s p) m (picks-once s ok p h).fits
