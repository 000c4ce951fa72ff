-- What is still to come, as the arcs into a pin are taken: ascending, so an arc that leaves a start completes the next walk, and any other leads to the next ones.
-- Assumes nothing.
use Rattle.std.specs.Prelude.{◌≡◌, true, false, ℕ, suc, ◌+◌, ◌-◌, ◌<◌}
use Rattle.std.proofs.Math.Path.{refl, sym, ap, ap₂}
use Rattle.std.proofs.Common.{◌∙◌, arith}
use mathlib.Core.List.{List, [], ◌∷◌, ◌++◌, append_assoc, append-nil}
use Rattle.std.proofs.Math.ListN.{length, get_or}
use Rattle.lists.specs.Choice.{pick}
use Rattle.lists.specs.Parts.{each, gather}
use Rattle.lists.proofs.Laws.Member.{each-cong}
use Rattle.lists.proofs.Laws.Join.{each-join}
use Rattle.lists.proofs.Laws.Pieces.{each-each, in_place}
use Rattle.timing.specs.Structure.{Structure, pins, leaves}
use Rattle.timing.specs.Clock.{into}
use Rattle.timing.specs.Paths.{is_start, walks}
use Rattle.timing.proofs.Laws.Routes.{in-into}
use Rattle.timing.specs.Laws.Steps.{walks_over}
use Rattle.timing.proofs.Laws.Steps.{walks-step}
use Rattle.area.specs.Area.{word_at, first_at, from_in, arc_in}
use Rattle.walker.specs.Rest.{pin_in, place_in, onto, arcs_from, left, through, behind, rest}
use Rattle.walker.specs.Cursors.{Planned}

-- ---- the arcs that are left

pub left-more : (m : List ℕ) (v p : ℕ) → p < first_at m (v + 1) → left m v p ≡ arc_in (word_at m p) ∷ left m v (suc p)
unfolding left arcs_from
left-more m v p h =
    let e : first_at m (v + 1) - p ≡ suc (first_at m (v + 1) - suc p) = omega arith in
    ap (λ (n : ℕ). arcs_from n m p) e

arcs-are : (l m : List ℕ) (p : ℕ) → ((j : ℕ) → j < length l → arc_in (word_at m (p + j)) ≡ get_or l j 0) → arcs_from (length l) m p ≡ l
unfolding arcs_from
arcs-are [] m p h = refl
arcs-are (a ∷ l) m p h =
    let z : p + 0 ≡ p = omega arith in
    let e : arc_in (word_at m p) ≡ a = rw z at (h 0 (omega arith)) in
    ap₂ (λ (x : ℕ) (y : List ℕ). x ∷ y) e
    (arcs-are l m (suc p) (λ j k. let q : suc p + j ≡ p + suc j = omega arith in rw q (h (suc j) (omega arith))))

-- ---- an arc of the plan

module _ (s : Structure) (weight seed : ℕ → ℕ) (m : List ℕ) (P : Planned s weight seed m) where
  -- from the first place on, all arcs into the pin are left
  pub left-all : (v : ℕ) → v < pins s → left m v (first_at m v) ≡ into s v
  unfolding left
  left-all v q =
      let e : first_at m (v + 1) - first_at m v ≡ length (into s v) = omega (arith, P.by-arcs.ends v q) in
      rw e (arcs-are (into s v) m (first_at m v) (λ j h. number j h))
    where
      number : (j : ℕ) → j < length (into s v) → arc_in (word_at m (first_at m v + j)) ≡ get_or (into s v) j 0
      number j h =
          let a = get_or (into s v) j 0 in
          let i = in-into s v a (in_place 0 (into s v) j h) in
          let u : leaves s a < pins s = P.ok.from_in a i.0 in
          rw (P.by-arcs.word v j q h) (omega (arith, i.0, P.few-arcs, P.ok.few-pins))

-- ---- the steps

module _ (s : Structure) (m ts : List ℕ) where
  -- of the arcs left one is taken apart
  through-more : (a : ℕ) (l : List ℕ) → through s m ts (a ∷ l) ≡ each (onto ts m) (walks_over s a) ++ through s m ts l
  unfolding through gather
  through-more a l = each-join (onto ts m) (walks_over s a) (gather (walks_over s) l)

  pub rest_more : (v p : ℕ) → p < first_at m (v + 1)
      → rest s m ts v p ≡ each (onto ts m) (walks_over s (arc_in (word_at m p))) ++ rest s m ts v (suc p)
  unfolding rest
  rest_more v p h = rw (left-more m v p h, through-more (arc_in (word_at m p)) (left m v (suc p))) (append_assoc (each (onto ts m) (walks_over s (arc_in (word_at m p)))) (through s m ts (left m v (suc p))) (behind ts s m))

  -- an arc that leaves a start
  pub rest-start : (v p : ℕ) → p < first_at m (v + 1) → is_start s (leaves s (arc_in (word_at m p))) ≡ true
      → rest s m ts v p ≡ onto ts m (arc_in (word_at m p) ∷ []) ∷ rest s m ts v (suc p)
  unfolding pick each
  rest-start v p h e = rest_more v p h ∙ rw e refl

each-self : (l : List (List ℕ)) → each (λ (w : List ℕ). w) l ≡ l
unfolding each
each-self [] = refl
each-self (w ∷ l) = ap (λ (k : List (List ℕ)). w ∷ k) (each-self l)

module _ (s : Structure) (weight seed : ℕ → ℕ) (m : List ℕ) (P : Planned s weight seed m) where
  -- any other arc: deeper
  pub rest-deeper : (ts : List ℕ) (x v p : ℕ) → p < first_at m (v + 1) → pin_in x ≡ v → place_in x ≡ p
      → from_in (word_at m p) ≡ leaves s (arc_in (word_at m p)) → from_in (word_at m p) < pins s → is_start s (leaves s (arc_in (word_at m p))) ≡ false
      → rest s m ts v p ≡ rest s m (x ∷ ts) (from_in (word_at m p)) (first_at m (from_in (word_at m p)))
  unfolding rest behind through onto pick
  rest-deeper ts x v p h i j f q e =
      let a = arc_in (word_at m p) in
      let u = from_in (word_at m p) in
      let one : each (onto ts m) (walks_over s a) ≡ each (onto (x ∷ ts) m) (gather (walks_over s) (left m u (first_at m u))) =
      rw (e, left-all s weight seed m P u q, ← walks-step s P.ok u q, ← f)
      (each-each (onto ts m) (λ (w : List ℕ). a ∷ w) (walks s u)
      ∙ each-cong (λ (w : List ℕ). onto ts m (a ∷ w)) (onto (x ∷ ts) m) (walks s u) (λ w k. rw j refl)) in
      rest_more s m ts v p h ∙ ap₂ (λ (l k : List (List ℕ)). l ++ k) one (rw (i, j) refl)

  -- at the first place of a pin all its walks are to come
  pub rest_all : (v : ℕ) → v < pins s → rest s m [] v (first_at m v) ≡ walks s v
  unfolding rest behind through onto
  rest_all v q =
      append-nil (through s m [] (left m v (first_at m v))) ∙ each-self (gather (walks_over s) (left m v (first_at m v)))
      ∙ ap (gather (walks_over s)) (left-all s weight seed m P v q) ∙ sym (walks-step s P.ok v q)
