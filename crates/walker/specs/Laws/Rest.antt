-- What stands at a place of the plan, and what is still to come where no arc is left: it goes back. What rests on the order in which the arcs are taken is in
-- proofs/Laws.
-- Assumes nothing.
use Rattle.std.specs.Prelude.{◌≡◌, ℕ, suc, ◌+◌, ◌-◌, ◌≤◌, ◌<◌}
use Rattle.std.proofs.Math.Path.{refl, ap}
use Rattle.std.proofs.Common.{arith}
use mathlib.Core.List.{List, [], ◌∷◌}
use Rattle.std.proofs.Math.ListN.{length, get_or}
use Rattle.lists.specs.Parts.{each, gather}
use Rattle.lists.proofs.Laws.Pieces.{in_place}
use Rattle.timing.specs.Structure.{Structure, pins, arcs, leaves, enters}
use Rattle.timing.specs.Clock.{into}
use Rattle.timing.proofs.Laws.Routes.{in-into}
use Rattle.area.specs.Area.{word_at, first_at, weight_in, from_in, arc_in}
use Rattle.walker.specs.Rest.{pin_in, place_in, arcs_from, left, through, behind, rest}
use Rattle.walker.specs.Cursors.{Planned}

-- ---- the arcs that are left

pub left-none : (m : List ℕ) (v p : ℕ) → first_at m (v + 1) ≤ p → left m v p ≡ []
unfolding left arcs_from
left-none m v p h = let e : first_at m (v + 1) - p ≡ 0 = omega arith in ap (λ (n : ℕ). arcs_from n m p) e

-- ---- an arc of the plan

module _ (s : Structure) (weight seed : ℕ → ℕ) (m : List ℕ) (P : Planned s weight seed m) where
  -- what stands at place p of pin v
  pub record Read (v p : ℕ) : Type 0 where
    pub at : p < 1024
    pub arc : arc_in (word_at m p) < arcs s
    pub enters-it : enters s (arc_in (word_at m p)) ≡ v
    pub from : from_in (word_at m p) ≡ leaves s (arc_in (word_at m p))
    pub from-in : from_in (word_at m p) < pins s
    pub weighs : weight_in (word_at m p) ≡ weight (arc_in (word_at m p))
    pub falls : P.ok.level (from_in (word_at m p)) < P.ok.level v

  read_at : (v j : ℕ) → v < pins s → j < length (into s v) → Read v (first_at m v + j)
  read_at v j q h =
      let a = get_or (into s v) j 0 in
      let i = in-into s v a (in_place 0 (into s v) j h) in
      let p = P.ok.few-pins in
      let b = P.few-arcs in
      let w = P.by-arcs.word v j q h in
      let u : leaves s a < pins s = P.ok.from_in a i.0 in
      let n : arc_in (word_at m (first_at m v + j)) ≡ a = rw w (omega (arith, i.0)) in
      let f : from_in (word_at m (first_at m v + j)) ≡ leaves s a = rw w (omega (arith, i.0)) in
      let g : weight_in (word_at m (first_at m v + j)) ≡ weight a = rw w (omega (arith, i.0)) in
      record {
        at = omega (arith, P.by-arcs.ends v q, P.by-arcs.fits v q);
        arc = rw n i.0;
        enters-it = rw n i.1;
        from = rw n f;
        from-in = rw f u;
        weighs = rw n g;
        falls = rw f (rw i.1 at (P.ok.rises a i.0));
      }

  pub read : (v p : ℕ) → v < pins s → first_at m v ≤ p → p < first_at m (v + 1) → Read v p
  read v p q a b =
      let e : first_at m v + (p - first_at m v) ≡ p = omega arith in
      rw e at (read_at v (p - first_at m v) q (omega (arith, P.by-arcs.ends v q)))

-- ---- the steps

module _ (s : Structure) (m ts : List ℕ) where
  -- no arc left
  pub rest_back : (x v p : ℕ) → first_at m (v + 1) ≤ p → rest s m (x ∷ ts) v p ≡ rest s m ts (pin_in x) (suc (place_in x))
  unfolding rest behind through gather each
  rest_back x v p h = rw (left-none m v p h) refl

-- and no turn
pub rest-none : (s : Structure) (m : List ℕ) (v p : ℕ) → first_at m (v + 1) ≤ p → rest s m [] v p ≡ []
unfolding rest behind through gather each
rest-none s m v p h = rw (left-none m v p h) refl
