-- What is counted in a slack: the walk, and of the two clock routes the arcs below the common pin; from an I, its own arrival and R's. Each arc and each
-- pin is counted once, at one end of its range. The slack after credit is the sum of these picks (`Cancel`), and demand 3 rests on that.
-- Assumes nothing.
use Rattle.std.specs.Prelude.{◌≡◌, ◌⊎◌, ◌≢◌, true, List, [], ◌∷◌, ◌++◌, ℕ, ◌+◌, ◌-◌, ◌≤◌, ◌<◌, take}
use Rattle.std.proofs.Math.Path.{refl}
use Rattle.std.proofs.Common.{sym, ap, ◌∙◌, eq-eqb, ne_eqb, eqb-true, length-append}
use Rattle.std.proofs.Math.Logic.{inl, inr, ⊎_elim}
use native.Mathlib.Omega.{arith}
use Rattle.std.proofs.Math.Decide.{ℕ_discrete}
use Rattle.std.proofs.Math.ListN.{length}
use Rattle.std.proofs.Math.Seq.{take-append_seam}
use Rattle.lists.specs.Choice.{pick}
use Rattle.lists.specs.Parts.{last}
use Rattle.lists.specs.Laws.Member.{In}
use Rattle.lists.proofs.Laws.Member.{in_either, in_left, pairs-front, pairs-app}
use Rattle.timing.specs.Kinds.{R, K, I}
use Rattle.timing.specs.Structure.{Structure, pins, arcs, kind, enters, clock_pin, data_pin}
use Rattle.timing.specs.Clock.{climb, root, common}
use Rattle.timing.specs.Paths.{is_start, Path, start, paths}
use Rattle.timing.specs.Laws.Sound.{Sound}
use Rattle.timing.proofs.Laws.Routes.{meeting, in-climb, climb-distinct, length-climb, root_is}
use Rattle.timing.proofs.Laws.Walked.{last-arc, walk_start, walk-rises, walk-arcs, walk-distinct}
use Rattle.timing.proofs.Laws.Listed.{in-paths}
use Rattle.timing.specs.Laws.Picks.{Picks, under, picks_k, picks_i, picks, FromK, FromI, Once}

start-kind : (s : Structure) (st : ℕ) → is_start s st ≡ true → kind s st ≢ K → kind s st ≡ I
unfolding is_start
start-kind s st e n = eqb-true _ _ (rw (ne_eqb (kind s st) K n) at e)

single : (P : ℕ → Type 0) (x : ℕ) → P x → (y : ℕ) → In y (x ∷ []) → P y
single P x h y (inl e) = rw e h
single P x h y (inr k) = absurd k

module _ (s : Structure) (ok : Sound s) where
  parts-once : (p : Path) → In p (paths s) → (o : Picks) × Once s p o
  unfolding start
  parts-once p h =
      let r = in-paths s p h in
      let v = data_pin s p.test in
      let st = start s p in
      let k = clock_pin s p.test in
      let vl : v < pins s = ok.data-in p.test r.0 in
      let kl : k < pins s = ok.clock-in p.test r.0 in
      let vp : ok.level v < pins s = ok.level_in v vl in
      let kp : ok.level k < pins s = ok.level_in k kl in
      let rise : length p.walk + ok.level st ≤ ok.level v = walk-rises s ok v p.walk r.1 in
      let sl : st < pins s = ok.from_in (last 0 p.walk) (last-arc s p.walk v r.1) in
      let wa : (x : ℕ) → In x p.walk → (x < arcs s) × (ok.level (enters s x) ≤ ok.level v) × (ok.level st < ok.level (enters s x)) = walk-arcs s ok v p.walk r.1 in
      elim (ℕ_discrete (kind s st) K) [
        | yes e ↦
            let m = meeting s ok st k sl kl e (ok.clock-kind p.test r.0) in
            let A = m.own.front in
            let C = m.other.front in
            let c = common s st k in
            let in_a : (a : ℕ) → In a A → (a < arcs s) × (ok.level (enters s a) ≤ ok.level st) =
            λ a l. in-climb s ok a st sl (rw m.own.meets (in_left a A (climb s c) l)) in
            let in_c : (a : ℕ) → In a C → (a < arcs s) × (ok.level (enters s a) ≤ ok.level k) =
            λ a l. in-climb s ok a k kl (rw m.other.meets (in_left a C (climb s c) l)) in (
              record { launch-pins = []; capture-pins = []; launch-arcs = A; capture-arcs = C },
              record {
                fits = inl (record { is = e; own = m.own.meets; other = m.other.meets; no_start = refl; no-root = refl });
                test_in = r.0;
                walk_of = r.1;
                run-once = pairs-app (λ (x y : ℕ). x ≢ y) A p.walk
                    (pairs-front (λ (x y : ℕ). x ≢ y) A (climb s c) (rw m.own.meets at (climb-distinct s ok st sl)))
                    (walk-distinct s ok v p.walk r.1)
                    (λ x y i j q. apart (ok.level (enters s x)) (ok.level (enters s y)) (ok.level st) (ap (λ (x : ℕ). ok.level (enters s x)) q) (in_a x i).1 (wa y j).2);
                run_in = λ a i. ⊎_elim (λ l. (in_a a l).0) (λ l. (wa a l).0) (in_either a A p.walk i);
                run_short = rw (length-append A p.walk) (omega (arith, m.own.short));
                capture-once = pairs-front (λ (x y : ℕ). x ≢ y) C (climb s c) (rw m.other.meets at (climb-distinct s ok k kl));
                capture-in = λ a i. (in_c a i).0;
                capture-short = omega (arith, m.other.short);
                start-once = tt;
                start-in = λ x i. absurd i;
                start-short = omega arith;
                root-once = tt;
                root_in = λ x i. absurd i;
                root-short = omega arith;
              },
            )
        | no e ↦ (
          record { launch-pins = st ∷ []; capture-pins = root s ∷ []; launch-arcs = []; capture-arcs = climb s k },
          record {
            fits = inr (record { is-not = e; none = refl; all = refl; at-start = refl; at-root = refl });
            test_in = r.0;
            walk_of = r.1;
            run-once = walk-distinct s ok v p.walk r.1;
            run_in = λ a i. (wa a i).0;
            run_short = omega arith;
            capture-once = climb-distinct s ok k kl;
            capture-in = λ a i. (in-climb s ok a k kl i).0;
            capture-short = omega (arith, length-climb s ok k kl);
            start-once = (tt, tt);
            start-in = single (λ x. (x < pins s) × ((kind s x ≡ R) ⊎ (kind s x ≡ I))) st (sl, inr (start-kind s st (walk_start s ok v p.walk r.1) e));
            start-short = omega arith;
            root-once = (tt, tt);
            root_in = single (λ x. (x < pins s) × ((kind s x ≡ R) ⊎ (kind s x ≡ I))) (root s) ((root_is s ok).0, inl (root_is s ok).1);
            root-short = omega arith;
          },
        )
      ]
    where
      apart : (x y st : ℕ) → x ≡ y → x ≤ st → st < y → ⊥
      apart x y st e h k = omega arith

under-is : (s : Structure) (p x : ℕ) (l : List ℕ) → climb s p ≡ l ++ climb s x → under s p x ≡ l
unfolding under
under-is s p x l e =
    let c = climb s x in
    ap (λ (m : List ℕ). take (length m - length c) m) e
    ∙ ap (λ (n : ℕ). take n (l ++ c)) (ap (λ (n : ℕ). n - length c) (length-append l c) ∙ less (length l) (length c))
    ∙ take-append_seam l c
  where
    less : (a b : ℕ) → a + b - b ≡ a
    less a b = omega arith

-- parts that fit are the computed ones
picks-is : (s : Structure) (p : Path) (o : Picks) → FromK s p o ⊎ FromI s p o → o ≡ picks s p
unfolding picks picks_k picks_i pick
picks-is s p o (inl f) =
    let st = start s p in
    let k = clock_pin s p.test in
    let c = common s st k in
    rw (eq-eqb (kind s st) K f.is)
    (λ i. record { launch-pins = f.no_start i; capture-pins = f.no-root i; launch-arcs = sym (under-is s st c o.launch-arcs f.own) i; capture-arcs = sym (under-is s k c o.capture-arcs f.other) i })
picks-is s p o (inr f) =
    rw (ne_eqb (kind s (start s p)) K f.is-not)
    (λ i. record { launch-pins = f.at-start i; capture-pins = f.at-root i; launch-arcs = f.none i; capture-arcs = sym f.all i })

-- the picks of every path fit it, and each stands there once
pub picks-once : (s : Structure) → Sound s → (p : Path) → In p (paths s) → Once s p (picks s p)
picks-once s ok p h = let r = parts-once s ok p h in rw (picks-is s p r.0 r.1.fits) at r.1
