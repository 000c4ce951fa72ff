-- How many walks and paths there are, without listing them: at a pin one for each arc from a start and, for each other arc, as many as the pin that it leaves
-- has; over all tests those of the data pins. A count may be cut at a cap after every addition: the total, which is cut, comes out the same.
-- Assumes nothing.
use Rattle.std.specs.Prelude.{◌≡◌, refl, ◌⊎◌, true, length}
use Rattle.std.proofs.Common.{sym, ◌∙◌, inl, inr, arith}
use Rattle.std.proofs.Math.Path.{ap, fun_ext}
use mathlib.Core.List.{List, [], ◌∷◌}
use Prim.Native.Nat.{ℕ, ◌≤◌, ◌<◌, min}
use Rattle.std.proofs.Math.Dec.{eqb}
use Rattle.lists.specs.Choice.{pick}
use Rattle.lists.specs.Parts.{below, sum}
use Rattle.lists.proofs.Laws.Cases.{by-test}
use Rattle.lists.specs.Laws.Member.{In}
use Rattle.lists.proofs.Laws.Member.{length-each}
use Rattle.lists.specs.Laws.Count.{count_to}
use Rattle.lists.proofs.Laws.Count.{length-gather, count_to-gather, count_to-those}
use Rattle.timing.specs.Limits.{most_total}
use Rattle.timing.specs.Kinds.{K, I, D, may_drive}
use Rattle.timing.specs.Structure.{Structure, pins, arcs, tests, kind, leaves, enters, data_pin}
use Rattle.timing.specs.Clock.{into}
use Rattle.timing.specs.Paths.{is_start, walks, test_paths, paths}
use Rattle.timing.specs.Rows.{total}
use Rattle.timing.proofs.Laws.Kinds.{drive-cases}
use Rattle.timing.specs.Laws.Sound.{Sound}
use Rattle.timing.proofs.Laws.Routes.{in-into}
use Rattle.timing.specs.Laws.Steps.{walks_over}
use Rattle.timing.proofs.Laws.Steps.{walk-ind, walks-step}
use Rattle.timing.specs.Laws.Counted.{count_over}

length_over : (s : Structure) (a : ℕ) → length (walks_over s a) ≡ count_over s (λ p. length (walks s p)) a
unfolding pick
length_over s a = by-test (is_start s (leaves s a)) (λ q. rw q) (λ q. rw q (length-each _ (walks s (leaves s a))))

module _ (s : Structure) (ok : Sound s) where
  -- the number of walks from a pin
  pub walks-count : (v : ℕ) → v < pins s → length (walks s v) ≡ sum (count_over s (λ p. length (walks s p))) (into s v)
  walks-count v l = rw (walks-step s ok v l, length-gather) (ap (λ (f : ℕ → ℕ). sum f (into s v)) (fun_ext (length_over s)))

  -- the same in a loop over all arcs, every count cut to c
  pub walks-capped : (c v : ℕ) → 1 ≤ c → v < pins s
      → count_to c (λ a. pick (eqb (enters s a) v) (count_over s (λ p. min c (length (walks s p))) a) 0) (arcs s) ≡ min c (length (walks s v))
  unfolding into pick
  walks-capped c v h l =
      count_to-those c (λ a. eqb (enters s a) v) (count_over s (λ p. min c (length (walks s p)))) (walks_over s) (arcs s) (λ a k q. over a)
      ∙ ap (λ (m : List (List ℕ)). min c (length m)) (sym (walks-step s ok v l))
    where
      over : (a : ℕ) → count_over s (λ p. min c (length (walks s p))) a ≡ min c (length (walks_over s a))
      over a = rw (length_over s a) (by-test (is_start s (leaves s a)) (λ q. rw q (omega arith)) (λ q. rw q))

test-count : (s : Structure) (j : ℕ) → length (test_paths s j) ≡ length (walks s (data_pin s j))
unfolding test_paths
test-count s j = length-each _ (walks s (data_pin s j))

-- the total, from the number of walks of each test's data pin
pub total-count : (s : Structure) → total s ≡ min most_total (sum (λ j. length (walks s (data_pin s j))) (below (tests s)))
unfolding total paths
total-count s = ap (min most_total) (length-gather (test_paths s) (below (tests s)) ∙ ap (λ (f : ℕ → ℕ). sum f (below (tests s))) (fun_ext (test-count s)))

-- the same in a loop over the tests, every count cut
pub total-capped : (s : Structure) → count_to most_total (λ j. min most_total (length (walks s (data_pin s j)))) (tests s) ≡ total s
unfolding total paths
total-capped s = count_to-gather most_total _ (test_paths s) (tests s) (λ j k. ap (min most_total) (sym (test-count s j)))

-- ---- there is one
-- what drives a D starts a path, or is a D
drive-data : (f k : ℕ) → may_drive f k ≡ true → k ≡ D → (f ≡ K) ⊎ ((f ≡ I) ⊎ (f ≡ D))
drive-data =
    drive-cases (λ f k. k ≡ D → (f ≡ K) ⊎ ((f ≡ I) ⊎ (f ≡ D))) (λ e. absurd (omega arith)) (λ e. absurd (omega arith)) (λ e. absurd (omega arith)) (λ e. absurd (omega arith))
    (λ e. inl refl) (λ e. inr (inl refl)) (λ e. inr (inr refl))

sum-member : (f : ℕ → ℕ) (x : ℕ) (l : List ℕ) → In x l → f x ≤ sum f l
unfolding sum
sum-member f x [] h = absurd h
sum-member f x (y ∷ l) (inl e) = rw e (omega arith)
sum-member f x (y ∷ l) (inr h) = omega (arith, sum-member f x l h)

-- every D has a walk: an arc comes in, and it leaves a start or a D of a lower level
pub walks_some : (s : Structure) → Sound s → (v : ℕ) → v < pins s → kind s v ≡ D → 1 ≤ length (walks s v)
unfolding is_start pick
walks_some s ok = walk-ind s ok (λ v. kind s v ≡ D → 1 ≤ length (walks s v)) (λ v l ih e. one v l ih e (into s v) refl)
  where
    over : (a : ℕ) → (kind s (leaves s a) ≡ K) ⊎ ((kind s (leaves s a) ≡ I) ⊎ (kind s (leaves s a) ≡ D)) → (kind s (leaves s a) ≡ D → 1 ≤ length (walks s (leaves s a)))
        → 1 ≤ count_over s (λ p. length (walks s p)) a
    over a (inl k) h = rw k (omega arith)
    over a (inr (inl k)) h = rw k (omega arith)
    over a (inr (inr k)) h = rw k (h k)

    one : (v : ℕ) → v < pins s → ((a : ℕ) → In a (into s v) → kind s (leaves s a) ≡ D → 1 ≤ length (walks s (leaves s a))) → kind s v ≡ D → (l : List ℕ) → into s v ≡ l
        → 1 ≤ length (walks s v)
    one v l ih e [] q = absurd (ok.some_in v l e (ap length q))
    one v l ih e (a ∷ more) q =
        let i : In a (into s v) = rw q (inl refl) in
        let r = in-into s v a i in
        let d = drive-data (kind s (leaves s a)) (kind s v) (rw r.1 at (ok.drives a r.0)) e in
        rw (walks-count s ok v l) (omega (arith, over a d (ih a i), sum-member (count_over s (λ p. length (walks s p))) a (into s v) i))
