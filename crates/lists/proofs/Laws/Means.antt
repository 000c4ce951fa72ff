-- Tests and what they mean: a test passes exactly when a sentence holds. Put together by `not`, `||` and `&&` they mean what these words say.
-- Assumes nothing.
use Rattle.std.specs.Prelude.{◌≡◌, refl, ◌⊎◌, Bool, true, false, not, ◌&&◌, ◌||◌, ℕ, ◌≤◌, ◌<◌, eqb, leb, ltb}
use Rattle.std.proofs.Common.{inl, inr, arith, ltb-true, ltb-false, lt-ltb, leb-true, leb-false, le-leb, eqb-true, eq-eqb}
use Rattle.lists.proofs.Laws.Cases.{by-test, clash}
use Rattle.lists.specs.Laws.Means.{Means}

-- the same of a sentence that says as much
pub means-as : {b : Bool} {P Q : Type 0} → Means b P → (P → Q) → (Q → P) → Means b Q
means-as m f g = (λ e. f (m.0 e), λ q. m.1 (g q))

-- it fails exactly when P does not hold
pub means-fails : {b : Bool} {P : Type 0} → Means b P → b ≡ false → P → ⊥
means-fails {b} m e p = clash b (m.1 p) e

pub fails-means : {b : Bool} {P : Type 0} → Means b P → (P → ⊥) → b ≡ false
fails-means {b} m n = by-test b (λ e. absurd (n (m.0 e))) (λ e. e)

-- ---- put together
pub means-not : {b : Bool} {P : Type 0} → Means b P → Means (not b) (P → ⊥)
means-not {b} {P} m = (λ e. means-fails m (back b e), λ n. rw (fails-means m n))
  where
    back : (b : Bool) → not b ≡ true → b ≡ false
    back true e = clash false e refl
    back false e = refl

pub means-or : {a b : Bool} {P Q : Type 0} → Means a P → Means b Q → Means (a || b) (P ⊎ Q)
means-or {a} {b} {P} {Q} m n = (some a b m n, one)
  where
    some : (a b : Bool) → Means a P → Means b Q → (a || b) ≡ true → P ⊎ Q
    some true b m n e = inl (m.0 refl)
    some false b m n e = inr (n.0 e)

    right : (a : Bool) → b ≡ true → (a || b) ≡ true
    right true e = refl
    right false e = e

    one : P ⊎ Q → (a || b) ≡ true
    one (inl p) = rw (m.1 p)
    one (inr q) = right a (n.1 q)

pub means-and : {a b : Bool} {P Q : Type 0} → Means a P → Means b Q → Means (a && b) (P × Q)
means-and {a} {b} {P} {Q} m n = (both a b m n, λ h. rw (m.1 h.0) (n.1 h.1))
  where
    both : (a b : Bool) → Means a P → Means b Q → (a && b) ≡ true → P × Q
    both true b m n e = (m.0 refl, n.0 e)
    both false b m n e = clash false e refl

-- ---- tests of numbers
pub means-less : (a b : ℕ) → Means (ltb a b) (a < b)
means-less a b = (ltb-true a b, lt-ltb a b)

pub means-most : (a b : ℕ) → Means (leb a b) (a ≤ b)
means-most a b = (leb-true a b, le-leb a b)

pub means-same : (a b : ℕ) → Means (eqb a b) (a ≡ b)
means-same a b = (eqb-true a b, eq-eqb a b)

pub means-over : (a b : ℕ) → Means (not (leb a b)) (b < a)
means-over a b =
    means-as (means-not (means-most a b)) (λ n. by-test (leb a b) (λ e. absurd (n (leb-true a b e))) (leb-false a b)) (λ h k. omega arith)

pub means-least : (a b : ℕ) → Means (not (ltb a b)) (b ≤ a)
means-least a b =
    means-as (means-not (means-less a b)) (λ n. by-test (ltb a b) (λ e. absurd (n (ltb-true a b e))) (ltb-false a b)) (λ h k. omega arith)
