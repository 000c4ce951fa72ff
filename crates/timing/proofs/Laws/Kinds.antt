-- Which kind drives which, by cases: what is allowed is one of seven pairs.
-- Assumes nothing.
use Rattle.std.specs.Prelude.{◌≡◌, refl, ◌⊎◌, true, ◌&&◌, ℕ, ◌<◌, eqb}
use Rattle.std.proofs.Common.{inl, inr, arith, eqb-true}
use Rattle.lists.proofs.Laws.Cases.{and_both}
use Rattle.lists.specs.Laws.Member.{In}
use Rattle.lists.proofs.Laws.Member.{any-in}
use Rattle.timing.specs.Kinds.{R, B, K, I, D, Pair, allowed, may_drive}

-- what holds of the seven pairs holds of every pair that is allowed
pub drive-cases : (Q : ℕ → ℕ → Type 0) → Q R B → Q R K → Q B B → Q B K → Q K D → Q I D → Q D D
    → (f k : ℕ) → may_drive f k ≡ true → Q f k
unfolding may_drive allowed
drive-cases Q rb rk bb bk kd id dd f k e =
    let r = any-in (λ (p : Pair). eqb f p.driver && eqb k p.driven) allowed e in
    let same = and_both (eqb f r.0.driver) (eqb k r.0.driven) r.2 in
    on r.0 (eqb-true f r.0.driver same.0) (eqb-true k r.0.driven same.1) (at r.0 r.1)
  where
    on : (p : Pair) → f ≡ p.driver → k ≡ p.driven → Q p.driver p.driven → Q f k
    on p a b q = rw (a, b) q

    at : (p : Pair) → In p allowed → Q p.driver p.driven
    at p (inl z) = rw z rb
    at p (inr (inl z)) = rw z rk
    at p (inr (inr (inl z))) = rw z bb
    at p (inr (inr (inr (inl z)))) = rw z bk
    at p (inr (inr (inr (inr (inl z))))) = rw z kd
    at p (inr (inr (inr (inr (inr (inl z)))))) = rw z id
    at p (inr (inr (inr (inr (inr (inr (inl z))))))) = rw z dd
    at p (inr (inr (inr (inr (inr (inr (inr z))))))) = absurd z

-- both are kinds
pub drive-kinds : (f k : ℕ) → may_drive f k ≡ true → (f < 5) × (k < 5)
drive-kinds =
    drive-cases (λ f k. (f < 5) × (k < 5)) (omega arith) (omega arith) (omega arith) (omega arith) (omega arith) (omega arith) (omega arith)

-- what drives a B or a K is an R or a B
pub drive-clock : (f k : ℕ) → may_drive f k ≡ true → (k ≡ B) ⊎ (k ≡ K) → (f ≡ R) ⊎ (f ≡ B)
drive-clock =
    drive-cases (λ f k. (k ≡ B) ⊎ (k ≡ K) → (f ≡ R) ⊎ (f ≡ B)) (λ c. inl refl) (λ c. inl refl) (λ c. inr refl) (λ c. inr refl) other other other
  where
    other : {f : ℕ} → (D ≡ B) ⊎ (D ≡ K) → (f ≡ R) ⊎ (f ≡ B)
    other (inl e) = absurd (no_way e)
      where
        no_way : ◌≡◌ {A = ℕ} 4 1 → ⊥
        no_way e = omega arith
    other (inr e) = absurd (no_way e)
      where
        no_way : ◌≡◌ {A = ℕ} 4 2 → ⊥
        no_way e = omega arith

-- nothing drives R
pub drive-root : (f k : ℕ) → may_drive f k ≡ true → k ≡ R → ⊥
drive-root =
    drive-cases (λ f k. k ≡ R → ⊥) (λ e. omega arith) (λ e. omega arith) (λ e. omega arith) (λ e. omega arith) (λ e. omega arith) (λ e. omega arith) (λ e. omega arith)
