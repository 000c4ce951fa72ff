-- The bound of an arc: what the turns weigh, the arc, and the number of the pin that it leaves are at most the value of each walk over it.
-- Assumes nothing.
use Rattle.std.specs.Prelude.{◌≡◌, ℕ, ◌+◌, ◌≤◌, ◌<◌}
use Rattle.std.proofs.Common.{ap, ◌∙◌}
use Rattle.std.proofs.Math.Bool.{false}
use mathlib.Core.List.{List, [], ◌∷◌}
use native.Mathlib.Omega.{arith}
use Rattle.lists.specs.Choice.{pick}
use Rattle.lists.specs.Parts.{each}
use Rattle.lists.proofs.Laws.Cases.{by-test}
use Rattle.lists.specs.Laws.Member.{In, All}
use Rattle.lists.proofs.Laws.Member.{of-all, in_one, in-each}
use Rattle.timing.specs.Structure.{Structure, pins, arcs, leaves}
use Rattle.timing.specs.Paths.{is_start, walks}
use Rattle.timing.specs.Value.{value_of}
use Rattle.timing.specs.Laws.Steps.{walks_over}
use Rattle.timing.specs.Laws.Walked.{Walk}
use Rattle.timing.proofs.Laws.Walked.{walks-sound}
use Rattle.timing.proofs.Laws.Least.{value-start, value-over}
use Rattle.area.specs.Area.{word_at, arc_in}
use Rattle.walker.specs.Rest.{pin_in, place_in, onto, came}
use Rattle.walker.specs.Cursors.{Planned, Lower, Turned}
use Rattle.walker.specs.Laws.Rest.{read}

module _ (s : Structure) (weight seed : ℕ → ℕ) where
  module _ (ends : (a : ℕ) → a < arcs s → leaves s a < pins s) (f : ℕ → ℕ) (L : Lower s weight seed f) where
    -- at most the value of each walk from the pin
    pub lower-walk : (v : ℕ) (w : List ℕ) → is_start s v ≡ false → Walk s v w → f v ≤ value_of s weight seed w
    lower-walk v [] e k = absurd k
    lower-walk v (a ∷ []) e k =
        let z = L.start (leaves s a) (ends a k.0) k.2 in
        let o : f v ≤ f (leaves s a) + weight a = rw k.1 at (L.over a k.0 (rw k.1 e)) in
        rw (value-start s weight seed a) (omega arith)
    lower-walk v (a ∷ b ∷ w) e k =
        let o : f v ≤ f (leaves s a) + weight a = rw k.1 at (L.over a k.0 (rw k.1 e)) in
        rw (value-over s weight seed a b w) (omega (arith, lower-walk (leaves s a) (b ∷ w) k.2 k.3))

    -- and over an arc
    pub lower-over : (a : ℕ) → a < arcs s → (w : List ℕ) → In w (walks_over s a) → f (leaves s a) + weight a ≤ value_of s weight seed w
    unfolding pick walks
    lower-over a l w i =
        by-test (is_start s (leaves s a))
        (λ e.
        let k : w ≡ a ∷ [] = in_one w (a ∷ []) (rw e at i) in
        rw (k, value-start s weight seed a) (omega (arith, L.start (leaves s a) (ends a l) e)))
        (λ e.
        let k = in-each (λ (w : List ℕ). a ∷ w) w (walks s (leaves s a)) (rw e at i) in
        rw k.2 (more k.0 e (walks-sound s (pins s) (leaves s a) k.0 k.1)))
      where
        more : (u : List ℕ) → is_start s (leaves s a) ≡ false → Walk s (leaves s a) u → f (leaves s a) + weight a ≤ value_of s weight seed (a ∷ u)
        more [] e k = absurd k
        more (b ∷ u) e k = rw (value-over s weight seed a b u) (omega (arith, lower-walk (leaves s a) (b ∷ u) e k))

  -- the turns add what they weigh
  module _ (m : List ℕ) (P : Planned s weight seed m) where
    pub value-onto : (ts : List ℕ) → Turned ts s P.ok.level m → (a : ℕ) (w : List ℕ)
        → value_of s weight seed (onto ts m (a ∷ w)) ≡ came ts m + value_of s weight seed (a ∷ w)
    unfolding onto came
    value-onto [] t a w = omega arith
    value-onto (x ∷ ts) t a w =
        let r = read s weight seed m P (pin_in x) (place_in x) t.0.pin t.0.low t.1 in
        value-onto ts t.2 (arc_in (word_at m (place_in x))) (a ∷ w)
        ∙ omega (arith, value-over s weight seed (arc_in (word_at m (place_in x))) a w, r.weighs)

    -- the bound of an arc behind the turns
    pub bound-over : (f : ℕ → ℕ) → Lower s weight seed f → (ts : List ℕ) → Turned ts s P.ok.level m → (a : ℕ) → a < arcs s
        → (n : ℕ) → n ≤ came ts m + weight a + f (leaves s a) → All (λ u. n ≤ value_of s weight seed u) (each (onto ts m) (walks_over s a))
    bound-over f L ts t a l n h =
        of-all _ (each (onto ts m) (walks_over s a))
        (λ u i.
        let k = in-each (onto ts m) u (walks_over s a) i in
        rw k.2 (one k.0 (lower-over P.ok.from_in f L a l k.0 k.1) (front a k.0 k.1)))
      where
        front : (a : ℕ) (w : List ℕ) → In w (walks_over s a) → (b : ℕ) × (u : List ℕ) × (w ≡ b ∷ u)
        front a w i = unfold pick in
            by-test (is_start s (leaves s a))
            (λ e. (a, [], in_one w (a ∷ []) (rw e at i)))
            (λ e. let k = in-each (λ (w : List ℕ). a ∷ w) w (walks s (leaves s a)) (rw e at i) in (a, k.0, k.2))

        one : (w : List ℕ) → f (leaves s a) + weight a ≤ value_of s weight seed w → (b : ℕ) × (u : List ℕ) × (w ≡ b ∷ u) → n ≤ value_of s weight seed (onto ts m w)
        one w g k =
            let e : value_of s weight seed w ≡ value_of s weight seed (k.0 ∷ k.1) = ap (value_of s weight seed) k.2 in
            rw (k.2, value-onto ts t k.0 k.1) (omega arith)
