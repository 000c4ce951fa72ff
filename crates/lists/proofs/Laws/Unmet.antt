-- Lists of grounds of which none is met, part by part: how an order of refusals that gives none is taken apart and put together.
-- Assumes nothing.
use Rattle.std.specs.Prelude.{◌≡◌, refl, ◌↔◌, Bool, false, List, [], ◌∷◌, ◌++◌, ℕ, ◌<◌}
use Rattle.std.proofs.Common.{inl, inr, ⊎_elim}
use Rattle.std.proofs.Math.Option.{none}
use Rattle.lists.specs.Choice.{Ground, ground, first_met}
use Rattle.lists.specs.Parts.{below, each, gather}
use Rattle.lists.proofs.Laws.Member.{all_of, of-all, in_left, in_right, in_either, in-gather, into-gather, in-below, into-below}
use Rattle.lists.proofs.Laws.Join.{each-gather}
use Rattle.lists.proofs.Laws.Chosen.{none-exactly}
use Rattle.lists.specs.Laws.Unmet.{Unmet}

module _ {X : Type 0} where
  -- that is when nothing is given
  pub unmet-none : (gs : List (Ground X)) → (first_met gs ≡ none) ↔ Unmet gs
  unmet-none gs = (λ e. record { each-fails = (none-exactly gs).0 e }, λ u. (none-exactly gs).1 u.each-fails)

  -- no ground at all
  pub unmet-nil : Unmet {X = X} []
  unmet-nil = record { each-fails = λ g i. absurd i }

  -- ---- a ground in front
  -- it is not met, nor are the others
  pub unmet-cons : {b : Bool} {r : X} {gs : List (Ground X)} → b ≡ false → Unmet gs → Unmet (ground b r ∷ gs)
  unmet-cons {b} {r} {gs} e u = record {
    each-fails = all_of (λ g. g.met ≡ false) (ground b r ∷ gs) (e, of-all (λ g. g.met ≡ false) gs u.each-fails);
  }

  -- it is not met
  pub unmet-first : (b : Bool) (r : X) (gs : List (Ground X)) → Unmet (ground b r ∷ gs) → b ≡ false
  unmet-first b r gs u = u.each-fails (ground b r) (inl refl)

  -- nor are the others
  pub unmet-rest : {g : Ground X} {gs : List (Ground X)} → Unmet (g ∷ gs) → Unmet gs
  unmet-rest u = record { each-fails = λ g i. u.each-fails g (inr i) }

  -- ---- two parts
  -- none of the first and none of the second: none of both
  pub unmet-both : {xs ys : List (Ground X)} → Unmet xs → Unmet ys → Unmet (xs ++ ys)
  unmet-both {xs} {ys} u v = record { each-fails = λ g i. ⊎_elim (u.each-fails g) (v.each-fails g) (in_either g xs ys i) }

  -- none of both: none of the first
  pub unmet-left : (xs ys : List (Ground X)) → Unmet (xs ++ ys) → Unmet xs
  unmet-left xs ys u = record { each-fails = λ g i. u.each-fails g (in_left g xs ys i) }

  -- nor of the second
  pub unmet-right : (xs ys : List (Ground X)) → Unmet (xs ++ ys) → Unmet ys
  unmet-right xs ys u = record { each-fails = λ g i. u.each-fails g (in_right g xs ys i) }

  -- ---- for each number below n, several or one
  -- none of all exactly when none of any number
  pub unmet-gather : (f : ℕ → List (Ground X)) (n : ℕ) → Unmet (gather f (below n)) ↔ ((y : ℕ) → y < n → Unmet (f y))
  unmet-gather f n = (
    λ u y l. record { each-fails = λ g i. u.each-fails g (into-gather f g y (below n) (into-below y n l) i) },
    λ h. record { each-fails = λ g i. let (y, j, k) = in-gather f g (below n) i in (h y (in-below y n j)).each-fails g k },
  )

  -- none of all exactly when no number has the fault
  pub unmet-each : (bad : ℕ → Bool) (r : ℕ → X) (n : ℕ)
      → Unmet (each (λ (y : ℕ). ground (bad y) (r y)) (below n)) ↔ ((y : ℕ) → y < n → bad y ≡ false)
  unmet-each bad r n =
      rw each-gather
      (let e = unmet-gather (λ y. ground (bad y) (r y) ∷ []) n in
      (λ u y l. unmet-first (bad y) (r y) [] (e.0 u y l), λ h. e.1 (λ y l. unmet-cons (h y l) unmet-nil)))
