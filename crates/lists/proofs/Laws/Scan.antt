-- Loops that look for the lowest number with a fault, and loops that count those that pass a test, against `first_met`, `those` and
-- `below`. The invariant of such a search is `Passed`, its result is `Lowest`; what it says of a list of grounds is said here, once.
-- Assumes nothing.
use Rattle.std.specs.Prelude.{ℕ, zero, suc, ◌+◌, ◌≤◌, ◌<◌, ◌≡◌, refl, Bool, true, false, List, [], ◌∷◌, length}
use Rattle.std.proofs.Common.{sym, ap, ◌∙◌, add-one, arith, length-append, below_none, below_more}
use Rattle.std.proofs.Math.Option.{none, some}
use Rattle.std.proofs.Math.Decide.{ℕ_discrete}
use Rattle.lists.specs.Choice.{pick, Ground, ground, first_met}
use Rattle.lists.specs.Parts.{below, each, those, gather}
use Rattle.lists.proofs.Laws.Join.{each-gather, gather-more, those-more}
use Rattle.lists.proofs.Laws.Chosen.{met-none, ground-here, ground-on, met-append, met-front}
use Rattle.lists.proofs.Laws.Unmet.{unmet-none, unmet-gather, unmet-each}
use Rattle.lists.specs.Laws.Scan.{Passed, Lowest, bit, tally}

-- before the first turn
pub passed_none : (bad : ℕ → Bool) (n : ℕ) → Passed bad n 0
passed_none bad n = record { most = omega arith; clean = below_none (λ y. bad y ≡ false) }

-- a turn that finds no fault
pub passed-more : {bad : ℕ → Bool} {n r : ℕ} → Passed bad n r → r < n → bad r ≡ false → Passed bad n (r + 1)
passed-more {bad} {n} {r} s h e = record { most = omega arith; clean = below_more (λ y. bad y ≡ false) r s.clean e }

-- a turn that finds one
pub lowest-here : {bad : ℕ → Bool} {n r : ℕ} → Passed bad n r → bad r ≡ true → Lowest bad n r
lowest-here s e = record { most = s.most; clean = s.clean; hit = λ h. e }

-- no turn left
pub lowest-end : {bad : ℕ → Bool} {n r : ℕ} → Passed bad n r → n ≤ r → Lowest bad n r
lowest-end s h = record { most = s.most; clean = s.clean; hit = λ k. absurd (omega arith) }

-- ---- grounds number by number
module _ {X : Type 0} (f : ℕ → List (Ground X)) where
  -- no number below n gives anything: none does
  pub gather_none : (n : ℕ) → ((y : ℕ) → y < n → first_met (f y) ≡ none) → first_met (gather f (below n)) ≡ none
  gather_none n h = (unmet-none (gather f (below n))).1 ((unmet-gather f n).1 (λ y l. (unmet-none (f y)).0 (h y l)))

  -- the lowest number that gives anything decides
  pub gather-some : (n m : ℕ) (x : X) → m < n → ((y : ℕ) → y < m → first_met (f y) ≡ none) → first_met (f m) ≡ some x
      → first_met (gather f (below n)) ≡ some x
  gather-some zero m x l h e = absurd (omega arith)
  gather-some (suc n) m x l h e =
      rw (rw add-one at (gather-more f n))
      (elim (ℕ_discrete m n) [
        | yes q ↦ met-append (gather f (below n)) (f n) (gather_none n (λ y k. h y (omega arith))) ∙ ap (λ (y : ℕ). first_met (f y)) (sym q) ∙ e
        | no q ↦ met-front (gather f (below n)) (f n) x (gather-some n m x (omega arith) h e)
      ])

module _ {X : Type 0} (bad : ℕ → Bool) (r : ℕ → X) (n m : ℕ) (s : Lowest bad n m) where
  -- a search that came to the end: no ground is met
  pub lowest-none : n ≤ m → first_met (each (λ (y : ℕ). ground (bad y) (r y)) (below n)) ≡ none
  lowest-none h = (unmet-none (each (λ (y : ℕ). ground (bad y) (r y)) (below n))).1 ((unmet-each bad r n).1 (λ y k. s.clean y (omega arith)))

  -- a search that stopped at m: what m gives is given
  pub lowest-some : m < n → first_met (each (λ (y : ℕ). ground (bad y) (r y)) (below n)) ≡ some (r m)
  lowest-some h =
      rw each-gather
      (gather-some (λ y. ground (bad y) (r y) ∷ []) n m (r m) h (λ y k. ground-on (bad y) (r y) [] (s.clean y k) ∙ met-none)
      (ground-here (bad m) (r m) [] (s.hit h)))

pub bit-most : (c : Bool) → bit c ≤ 1
bit-most true = omega arith
bit-most false = omega arith

-- before the first turn
pub tally-none : (f : ℕ → Bool) → tally f 0 ≡ 0
unfolding tally below those
tally-none f = refl

-- a turn
pub tally-more : (f : ℕ → Bool) (n : ℕ) → tally f (n + 1) ≡ tally f n + bit (f n)
unfolding tally pick
tally-more f n = rw (those-more f n, length-append, one (f n))
  where
    one : (c : Bool) → length (pick c (n ∷ []) []) ≡ bit c
    one true = refl
    one false = refl

-- a turn at a number that passes
pub tally-yes : (f : ℕ → Bool) (n : ℕ) → f n ≡ true → tally f (n + 1) ≡ tally f n + 1
tally-yes f n e = rw (tally-more, e)

-- a turn at a number that fails
pub tally-no : (f : ℕ → Bool) (n : ℕ) → f n ≡ false → tally f (n + 1) ≡ tally f n
tally-no f n e = rw (tally-more, e) (omega arith)

-- no more than there are numbers
pub tally-most : (f : ℕ → Bool) (n : ℕ) → tally f n ≤ n
tally-most f zero = omega (arith, tally-none f)
tally-most f (suc n) = rw (← add-one n, tally-more) (omega (arith, bit-most (f n), tally-most f n))
