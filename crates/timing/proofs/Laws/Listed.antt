-- Paths by the document's own sentence: `paths` lists exactly these, each once, by test and then in the order of the tie rule.
-- Assumes nothing.
use Rattle.std.specs.Prelude.{◌≡◌, refl, ◌⊎◌, ◌≢◌, ◌↔◌, List, [], ◌∷◌, ℕ, ◌<◌}
use Rattle.std.proofs.Common.{inl, inr, arith}
use Rattle.lists.specs.Parts.{below}
use Rattle.lists.specs.Laws.Member.{In, Pairs}
use Rattle.lists.proofs.Laws.Member.{pairs-map, in-below, into-below, in-each, into-each, in-gather, into-gather, pairs-each, pairs-gather, pairs_below}
use Rattle.timing.specs.Structure.{Structure, pins, tests, data_pin}
use Rattle.timing.specs.Paths.{walks, Path, test_paths, paths}
use Rattle.timing.specs.Laws.Sound.{Sound}
use Rattle.timing.proofs.Laws.Walked.{walks-sound, exactly-walks, walks-order}
use Rattle.timing.specs.Laws.Walked.{Before}
use Rattle.timing.specs.Laws.Listed.{IsPath, Tie}

pub in-paths : (s : Structure) (p : Path) → In p (paths s) → IsPath s p
unfolding paths test_paths walks
in-paths s p h =
    let r = in-gather (test_paths s) p (below (tests s)) h in
    let q = in-each (λ (w : List ℕ). record { test = r.0; walk = w }) p (walks s (data_pin s r.0)) r.2 in
    rw q.2 (in-below r.0 (tests s) r.1, walks-sound s (pins s) (data_pin s r.0) q.0 q.1)

pub exactly-paths : (s : Structure) → Sound s → (p : Path) → In p (paths s) ↔ IsPath s p
unfolding paths test_paths
exactly-paths s ok p = (
  in-paths s p,
  λ h.
      into-gather (test_paths s) p p.test (below (tests s)) (into-below p.test (tests s) h.0)
      (into-each (λ (w : List ℕ). record { test = p.test; walk = w }) p.walk (walks s (data_pin s p.test))
      ((exactly-walks s ok (data_pin s p.test) (ok.data-in p.test h.0) p.walk).1 h.1)),
)

before-asym : (l m : List ℕ) → Before l m → Before m l → ⊥
before-asym [] m h k = h
before-asym (a ∷ l) [] h k = h
before-asym (a ∷ l) (b ∷ m) (inl h) (inl k) = omega arith
before-asym (a ∷ l) (b ∷ m) (inl h) (inr k) = omega (arith, k.0)
before-asym (a ∷ l) (b ∷ m) (inr h) (inl k) = omega (arith, h.0)
before-asym (a ∷ l) (b ∷ m) (inr h) (inr k) = before-asym l m h.1 k.1

pub tie-asym : (x y : Path) → Tie x y → Tie y x → ⊥
tie-asym x y (inl h) (inl k) = omega arith
tie-asym x y (inl h) (inr k) = omega (arith, k.0)
tie-asym x y (inr h) (inl k) = omega (arith, h.0)
tie-asym x y (inr h) (inr k) = before-asym x.walk y.walk h.1 k.1

pub paths-order : (s : Structure) → Pairs Tie (paths s)
unfolding paths test_paths walks
paths-order s =
    pairs-gather Tie (test_paths s) (below (tests s))
    (λ j h.
    pairs-each Tie (λ (w : List ℕ). record { test = j; walk = w }) (walks s (data_pin s j))
    (pairs-map Before (λ x y. (j < j) ⊎ ((j ≡ j) × Before x y)) (λ x y k. inr (refl, k)) (walks s (data_pin s j)) (walks-order s (pins s) (data_pin s j))))
    (pairs-map ◌<◌ (λ i j. (x y : Path) → In x (test_paths s i) → In y (test_paths s j) → Tie x y) cross (below (tests s)) (pairs_below (tests s)))
  where
    cross : (i j : ℕ) → i < j → (x y : Path) → In x (test_paths s i) → In y (test_paths s j) → Tie x y
    cross i j l x y h k =
        let p = in-each (λ (w : List ℕ). record { test = i; walk = w }) x (walks s (data_pin s i)) h in
        let q = in-each (λ (w : List ℕ). record { test = j; walk = w }) y (walks s (data_pin s j)) k in
        rw (p.2, q.2) (inl l)

-- "each once"
pub paths-once : (s : Structure) → Pairs (λ (x y : Path). x ≢ y) (paths s)
paths-once s = pairs-map Tie (λ (x y : Path). x ≢ y) differ (paths s) (paths-order s)
  where
    flip : (x y : Path) → Tie x y → x ≡ y → Tie y x
    flip x y h e = rw e (rw e at h)

    differ : (x y : Path) → Tie x y → x ≢ y
    differ x y h e = tie-asym x y h (flip x y h e)
