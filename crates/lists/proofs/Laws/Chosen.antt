-- The first ground that is met: one ground after the other, and part by part (`met-append`, `met-front`). That each is given exactly when its condition holds
-- and none earlier in the order does is `decides-exactly` of `Laws.Decides`.
-- Assumes nothing.
use Rattle.std.specs.Prelude.{◌≡◌, ◌↔◌, Bool, true, false, ℕ, zero, suc, ◌<◌, length, get_or}
use Rattle.std.proofs.Math.Path.{refl}
use Rattle.std.proofs.Common.{sym, ap, ◌∙◌, inl, inr, not-suc-le-zero, arith}
use Rattle.std.proofs.lemmas.Bool.{false≢true}
use mathlib.Core.List.{List, [], ◌∷◌, ◌++◌, append-nil}
use Rattle.std.proofs.Math.Option.{Option, none, some}
use Rattle.lists.specs.Choice.{holds, Ground, ground, first_met}
use Rattle.lists.proofs.Laws.Cases.{by-test}
use Rattle.lists.specs.Laws.Member.{In, All}
use Rattle.lists.proofs.Laws.Member.{all_of}

-- ---- several tests

-- where all hold, each passes
pub holds_at : (bs : List Bool) → holds bs ≡ true → (i : ℕ) → i < length bs → get_or bs i true ≡ true
unfolding holds
holds_at [] e i l = absurd (not-suc-le-zero l)
holds_at (false ∷ bs) e i l = absurd (false≢true e)
holds_at (true ∷ bs) e zero l = refl
holds_at (true ∷ bs) e (suc i) l = holds_at bs e i (omega arith)

-- where each passes, all hold
pub at-holds : (bs : List Bool) → ((i : ℕ) → i < length bs → get_or bs i true ≡ true) → holds bs ≡ true
unfolding holds
at-holds [] h = refl
at-holds (false ∷ bs) h = h 0 (omega arith)
at-holds (true ∷ bs) h = at-holds bs (λ i l. h (suc i) (omega arith))

module _ {X : Type 0} where
  -- ---- one ground after the other

  -- no ground, nothing given
  pub met-none : first_met {X = X} [] ≡ none
  unfolding first_met
  met-none = refl

  -- the first is met: it is given
  pub met-here : (g : Ground X) (gs : List (Ground X)) → g.met ≡ true → first_met (g ∷ gs) ≡ some g.gives
  unfolding first_met
  met-here g gs e = rw e

  -- the first is not met: the others decide
  pub met-on : (g : Ground X) (gs : List (Ground X)) → g.met ≡ false → first_met (g ∷ gs) ≡ first_met gs
  unfolding first_met
  met-on g gs e = rw e

  -- a ground written out that is met: it is given
  pub ground-here : (b : Bool) (x : X) (gs : List (Ground X)) → b ≡ true → first_met (ground b x ∷ gs) ≡ some x
  ground-here b x gs e = met-here (ground b x) gs e

  -- a ground written out that is not met: the others decide
  pub ground-on : (b : Bool) (x : X) (gs : List (Ground X)) → b ≡ false → first_met (ground b x ∷ gs) ≡ first_met gs
  ground-on b x gs e = met-on (ground b x) gs e

  -- one of the two
  met-cases : (P : Option X → Type 0) (g : Ground X) (gs : List (Ground X)) → (g.met ≡ true → P (some g.gives)) → (g.met ≡ false → P (first_met gs))
      → P (first_met (g ∷ gs))
  met-cases P g gs f k = by-test g.met (λ e. rw (met-here g gs e) (f e)) (λ e. rw (met-on g gs e) (k e))

  not-both {ℓ} : {Y : Type ℓ} (r : X) → none ≡ some r → Y
  not-both r e = let q : ◌≡◌ {A = ℕ} 0 1 = cc in absurd (omega arith)

  -- ---- nothing is given
  abbrev Fails : Ground X → Type 0
  Fails g = g.met ≡ false

  met-after : (front back : List (Ground X)) → ((g : Ground X) → In g front → g.met ≡ false) → first_met (front ++ back) ≡ first_met back
  met-after [] back h = refl
  met-after (g ∷ front) back h = met-on g (front ++ back) (h g (inl refl)) ∙ met-after front back (λ f i. h f (inr i))

  all-fail : (gs : List (Ground X)) → first_met gs ≡ none → All Fails gs
  all-fail [] e = tt
  all-fail (g ∷ gs) e = met-cases (λ o. o ≡ none → All Fails (g ∷ gs)) g gs (λ q e. not-both g.gives (sym e)) (λ q e. (q, all-fail gs e)) e

  -- nothing is given exactly when no ground is met
  pub none-exactly : (gs : List (Ground X)) → (first_met gs ≡ none) ↔ ((g : Ground X) → In g gs → g.met ≡ false)
  none-exactly gs = (λ e. all_of Fails gs (all-fail gs e), λ h. ap first_met (sym (append-nil gs)) ∙ met-after gs [] h ∙ met-none)

  -- ---- part by part
  -- a part that gives nothing leaves it to what stands behind
  pub met-append : (xs ys : List (Ground X)) → first_met xs ≡ none → first_met (xs ++ ys) ≡ first_met ys
  met-append xs ys e = met-after xs ys ((none-exactly xs).0 e)

  -- what a part gives is given, whatever stands behind
  pub met-front : (xs ys : List (Ground X)) (r : X) → first_met xs ≡ some r → first_met (xs ++ ys) ≡ some r
  unfolding first_met
  met-front [] ys r e = not-both r e
  met-front (g ∷ xs) ys r e =
      met-cases (λ o. o ≡ some r → first_met (g ∷ xs ++ ys) ≡ some r) g xs
      (λ q e. met-here g (xs ++ ys) q ∙ e)
      (λ q e. met-on g (xs ++ ys) q ∙ met-front xs ys r e)
      e
