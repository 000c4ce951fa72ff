-- Times within the limits: what the check of a table ensures of its ranges, and the clock arrivals that follow.
-- Assumes nothing.
use Rattle.std.specs.Prelude.{◌≡◌, ◌⊎◌, ℕ, ◌+◌, ◌≤◌, ◌<◌}
use mathlib.Core.List.{[]}
use native.Mathlib.Omega.{arith}
use Rattle.lists.specs.Parts.{sum}
use Rattle.lists.proofs.Laws.Sum.{sum-le}
use Rattle.timing.specs.Kinds.{B, K}
use Rattle.timing.specs.Table.{Edge, early, late}
use Rattle.timing.specs.Structure.{Structure, arcs, kind, leaves, enters, Times}
use Rattle.timing.specs.Clock.{climb, root, clock_arrival}
use Rattle.timing.specs.Laws.Sound.{Sound}
use Rattle.timing.proofs.Laws.Routes.{climb-arcs, climb-top, climb-step, root_is}
use Rattle.timing.proofs.Laws.Common.{only-in, root_none}
use Rattle.timing.specs.Laws.Ranged.{Ranged}

module _ (s : Structure) (ok : Sound s) (x : Times) where
  -- the early arrival is at most the late one, at every pin
  pub clock-order : Ranged s x → (p : ℕ) → clock_arrival early s x p ≤ clock_arrival late s x p
  unfolding clock_arrival
  clock-order r p =
      let a : x.arrival early (root s) ≤ x.arrival late (root s) = r.arrivals (root s) (root_is s ok).0 in
      let b : sum (x.delay early) (climb s p) ≤ sum (x.delay late) (climb s p) =
      sum-le (x.delay early) (x.delay late) (climb s p) (λ a h. r.delays a (climb-arcs s p a h)) in
      omega arith

  -- arrival, arc by arc: at R its own, and over an arc into a B or a K its delay more
  pub clock-root : (e : Edge) → clock_arrival e s x (root s) ≡ x.arrival e (root s)
  unfolding clock_arrival sum
  clock-root e = rw (climb-top s ok (root s) (root_none s ok)) (omega arith)

  pub clock-step : (e : Edge) (a : ℕ) → a < arcs s → (kind s (enters s a) ≡ B) ⊎ (kind s (enters s a) ≡ K)
      → clock_arrival e s x (enters s a) ≡ clock_arrival e s x (leaves s a) + x.delay e a
  unfolding clock_arrival sum
  clock-step e a l k = rw (climb-step s ok (enters s a) a [] (ok.to_in a l) (only-in s ok a l k)) (omega arith)
