-- The walks from a pin, arc by arc. `walks` is defined with a bound on the steps; in a sound structure every arc rises by a level, so as many steps as there are
-- pins are enough and the bound can be forgotten: `walks-step` is the recurrence without it, `walk-ind` the induction from a pin to the pins before it.
-- Assumes nothing.
use Rattle.std.specs.Prelude.{◌≡◌, List, []}
use Rattle.std.proofs.Math.Path.{refl, sym, ap}
use Prim.Native.Nat.{ℕ, zero, suc, ◌≤◌, ◌<◌}
use Rattle.std.proofs.Common.{not-suc-le-zero, arith}
use Rattle.lists.specs.Parts.{gather}
use Rattle.lists.specs.Laws.Member.{In}
use Rattle.lists.proofs.Laws.Member.{gather_cong}
use Rattle.timing.specs.Structure.{Structure, pins, leaves}
use Rattle.timing.specs.Clock.{into}
use Rattle.timing.specs.Paths.{walks_by, walks}
use Rattle.timing.specs.Laws.Sound.{Sound}
use Rattle.timing.proofs.Laws.Routes.{in-into, into-cases}
use Rattle.timing.specs.Laws.Steps.{over, walks_over}

module _ (s : Structure) (ok : Sound s) where
  -- an arc comes from a lower level
  pub into-rises : (v a : ℕ) → In a (into s v) → ok.level (leaves s a) < ok.level v
  into-rises v a i = let r = in-into s v a i in rw r.1 at (ok.rises a r.0)

  -- a property of a pin that follows from that of the pins before it
  pub walk-ind : (Q : ℕ → Type 0) → ((v : ℕ) → v < pins s → ((a : ℕ) → In a (into s v) → Q (leaves s a)) → Q v) → (v : ℕ) → v < pins s → Q v
  walk-ind Q f v l = go (suc (ok.level v)) v l (omega arith)
    where
      go : (n v : ℕ) → v < pins s → ok.level v < n → Q v
      go zero v l k = absurd (not-suc-le-zero k)
      go (suc n) v l k = f v l (λ a i. go n (leaves s a) (ok.from_in a (in-into s v a i).0) (omega (arith, into-rises v a i)))

  no-arc : (f : ℕ → List (List ℕ)) (v : ℕ) → ok.level v ≤ 0 → gather f (into s v) ≡ []
  unfolding gather
  no-arc f v h =
      into-cases s v (λ l. gather f l ≡ []) refl
      (λ a more l e. let r : ok.level (leaves s a) < ok.level v = rw e at (ok.rises a l) in absurd (omega arith))

  -- any two bounds that reach the pin's level give the same walks
  walks-bound : (n m v : ℕ) → ok.level v ≤ n → ok.level v ≤ m → walks_by s n v ≡ walks_by s m v
  unfolding walks_by
  walks-bound zero zero v h k = refl
  walks-bound zero (suc m) v h k = sym (no-arc _ v h)
  walks-bound (suc n) zero v h k = no-arc _ v k
  walks-bound (suc n) (suc m) v h k =
      gather_cong _ _ (into s v)
      (λ a i. let r = into-rises v a i in ap (over s a) (walks-bound n m (leaves s a) (omega arith) (omega arith)))

  -- the walks from a pin are those over each arc into it, ascending
  pub walks-step : (v : ℕ) → v < pins s → walks s v ≡ gather (walks_over s) (into s v)
  unfolding walks walks_by
  walks-step v l = go (pins s) refl
    where
      go : (n : ℕ) → pins s ≡ n → walks_by s n v ≡ gather (walks_over s) (into s v)
      go zero e = absurd (omega arith)
      go (suc n) e =
          gather_cong _ _ (into s v)
          (λ a i.
          let r = into-rises v a i in
          let b = ok.level_in v l in
          ap (over s a) (walks-bound n (pins s) (leaves s a) (omega arith) (omega arith)))
