-- A walk goes to its slot, arc by arc.
-- Assumes nothing.
use Rattle.std.specs.Prelude.{◌≡◌, length, set}
use Rattle.std.proofs.Math.Path.{refl, ap, ap₂}
use Rattle.std.proofs.Common.{sym, ◌∙◌, inr, ⊎_elim, length-set, get_or-set_same, get_or-set_other}
use mathlib.Core.List.{List, [], ◌∷◌}
use Prim.Native.Nat.{ℕ, zero, suc, ◌+◌, ◌-◌, ◌≤◌, ◌<◌}
use native.Mathlib.Omega.{arith}
use Rattle.std.proofs.Math.Decide.{ℕ_discrete}
use Rattle.std.proofs.Math.ListN.{get_or}
use Rattle.timing.specs.Structure.{Structure, leaves, enters}
use Rattle.area.specs.Area.{plan, word_at, arc_in, slot_at, arcs_at, leasts_at, turns_at, turns_end}
use Rattle.area.specs.Laws.Plan.{word-at, plan-same}
use Rattle.walker.specs.Rest.{place_in, turns, onto}
use Rattle.walker.specs.declared.Cursor.{Cursor}
use Rattle.walker.specs.Cursors.{least_at, On, coming, walk_at}
use Rattle.walker.specs.Cursors as area
use Rattle.walker.specs.Slots.{Stands, Aside, Keeps, Kept, Keeping, Still}
use Rattle.walker.specs.Laws.Rest.{read}
use Rattle.walker.specs.Laws.Steps.{length-turns}

-- ---- the arcs of a walk, by place

arc_of : List ℕ → List ℕ → ℕ → ℕ
arc_of m w i = arc_in (word_at m (place_in (get_or w (turns_at + i) 0)))

onto-length : (d : ℕ) (w m u : List ℕ) → length (onto (turns d w) m u) ≡ d + length u
unfolding turns onto
onto-length zero w m u = omega arith
onto-length (suc d) w m u = onto-length d w m (arc_in (word_at m (place_in (get_or w (turns_at + d) 0))) ∷ u) ∙ omega arith

onto-behind : (d : ℕ) (w m u : List ℕ) (i : ℕ) → get_or (onto (turns d w) m u) (d + i) 0 ≡ get_or u i 0
unfolding turns onto
onto-behind zero w m u i = let z : 0 + i ≡ i = omega arith in ap (λ (j : ℕ). get_or u j 0) z
onto-behind (suc d) w m u i =
    let z : suc d + i ≡ d + suc i = omega arith in
    rw z (onto-behind d w m (arc_in (word_at m (place_in (get_or w (turns_at + d) 0))) ∷ u) (suc i))

onto-at : (d : ℕ) (w m u : List ℕ) (i : ℕ) → i < d → get_or (onto (turns d w) m u) i 0 ≡ arc_of m w i
unfolding turns onto arc_of
onto-at zero w m u i h = absurd (omega arith)
onto-at (suc d) w m u i h = elim (ℕ_discrete i d) [
  | yes e ↦
      let z : d ≡ d + 0 = omega arith in
      let a = arc_in (word_at m (place_in (get_or w (turns_at + d) 0))) in
      rw e (ap (λ (j : ℕ). get_or (onto (turns d w) m (a ∷ u)) j 0) z ∙ onto-behind d w m (a ∷ u) 0)
  | no e ↦ onto-at d w m (arc_in (word_at m (place_in (get_or w (turns_at + d) 0))) ∷ u) i (omega arith)
]

module _ (w : List ℕ) (d p : ℕ) where
  pub walk-length : length (walk_at w d p) ≡ d + 1
  unfolding walk_at
  walk-length = onto-length d w (plan w) (arc_in (word_at (plan w) (p - 1)) ∷ [])

  pub walk-at : (i : ℕ) → i < d → get_or (walk_at w d p) i 0 ≡ arc_in (get_or w (arcs_at + place_in (get_or w (turns_at + i) 0)) 0)
  unfolding walk_at arc_of
  walk-at i h =
      onto-at d w (plan w) (arc_in (word_at (plan w) (p - 1)) ∷ []) i h
      ∙ ap arc_in (word-at w (place_in (get_or w (turns_at + i) 0)) (omega arith))

  pub walk-last : p - 1 < 1024 → get_or (walk_at w d p) d 0 ≡ arc_in (get_or w (arcs_at + (p - 1)) 0)
  unfolding walk_at
  walk-last h =
      let z : d ≡ d + 0 = omega arith in
      ap (λ (j : ℕ). get_or (onto (turns d w) (plan w) (arc_in (word_at (plan w) (p - 1)) ∷ [])) j 0) z
      ∙ onto-behind d w (plan w) (arc_in (word_at (plan w) (p - 1)) ∷ []) 0
      ∙ ap arc_in (word-at w (p - 1) h)

-- ---- what the code asks

pub record Fits (w : List ℕ) (d p slot : ℕ) : Type 0 where
  pub long : turns_end ≤ length w
  pub depth : d < 255
  pub some : 0 < p
  pub place : p - 1 < 1024
  pub inside : slot < 16

pub fits : (w : List ℕ) (c : Cursor) (slot : ℕ) → Keeps w c slot → Fits w c.depth c.place slot
fits w c slot K =
    let O = K.ready.on in
    let z : suc (c.place - 1) ≡ c.place = omega (arith, K.taken) in
    let r = read K.ready.of K.ready.weight K.ready.seed (plan w) O.planned c.pin (c.place - 1) O.placed.pin (omega (arith, K.taken)) (omega (arith, O.placed.high)) in
    record {
      long = O.long;
      depth = omega (arith, O.placed.deep, r.falls, length-turns c.depth w);
      some = omega (arith, K.taken);
      place = r.at;
      inside = K.inside;
    }

-- ---- writing

pub aside_none : (slot : ℕ) (w : List ℕ) → Aside slot w w
aside_none slot w = record { long = refl; others = λ i h. refl }

aside-set : (slot : ℕ) (w₀ w : List ℕ) (i x : ℕ) → Aside slot w₀ w → slot_at slot ≤ i → i < slot_at (slot + 1) → Aside slot w₀ (set w i x)
aside-set slot w₀ w i x A h l =
    record {
      long = length-set w i x ∙ A.long;
      others = λ j o. get_or-set_other w i j x 0 (λ e. ⊎_elim (λ b. omega arith) (λ b. omega arith) o) ∙ A.others j o;
    }

module _ (slot : ℕ) (w₀ : List ℕ) (d p : ℕ) (F : Fits w₀ d p slot) where
  pub keeping_none : Keeping slot w₀ d p 0 w₀
  keeping_none = record { aside = aside_none slot w₀; arcs = λ i h. absurd (omega arith) }

  -- what is read stands outside the slots
  pub same : (n : ℕ) (w : List ℕ) → Keeping slot w₀ d p n w → (i : ℕ) → arcs_at ≤ i → get_or w i 0 ≡ get_or w₀ i 0
  same n w K i h = K.aside.others i (inr (omega (arith, F.inside)))

  more : (n x : ℕ) (w : List ℕ) → Keeping slot w₀ d p n w → n < 255 → x ≡ get_or (walk_at w₀ d p) n 0 → Keeping slot w₀ d p (n + 1) (set w (slot_at slot + 1 + n) x)
  more n x w K h e =
      record {
        aside = aside-set slot w₀ w (slot_at slot + 1 + n) x K.aside (omega arith) (omega arith);
        arcs = λ i l. elim (ℕ_discrete i n) [
          | yes z ↦ rw z (get_or-set_same w (slot_at slot + 1 + n) x 0 (omega (arith, K.aside.long, F.long, F.inside)) ∙ e)
          | no z ↦ get_or-set_other w (slot_at slot + 1 + n) (slot_at slot + 1 + i) x 0 (λ q. z (omega arith)) ∙ K.arcs i (omega arith)
        ];
      }

  -- an arc of a turn
  pub keeping-more : (n : ℕ) (w : List ℕ) → Keeping slot w₀ d p n w → n < d
      → Keeping slot w₀ d p (n + 1) (set w (slot_at slot + 1 + n) (arc_in (get_or w (arcs_at + place_in (get_or w (turns_at + n) 0)) 0)))
  keeping-more n w K h =
      more n _ w K (omega (arith, F.depth))
      (rw (same n w K (turns_at + n) (omega arith), same n w K (arcs_at + place_in (get_or w₀ (turns_at + n) 0)) (omega arith)) (sym (walk-at w₀ d p n h)))

  -- the last arc, and how many there are
  pub keeping_all : (n : ℕ) (w : List ℕ) → Keeping slot w₀ d p n w → n ≡ d
      → Kept slot w₀ d p (set (set w (slot_at slot + 1 + d) (arc_in (get_or w (arcs_at + (p - 1)) 0))) (slot_at slot) (d + 1))
  keeping_all n w K e =
      let J : Keeping slot w₀ d p d w = rw e at K in
      let x = arc_in (get_or w (arcs_at + (p - 1)) 0) in
      let v = set w (slot_at slot + 1 + d) x in
      let M : Keeping slot w₀ d p (d + 1) v =
      more d x w J F.depth (rw (same d w J (arcs_at + (p - 1)) (omega arith)) (sym (walk-last w₀ d p F.place))) in
      let len = walk-length w₀ d p in
      record {
        aside = aside-set slot w₀ v (slot_at slot) (d + 1) M.aside (omega arith) (omega arith);
        stands = record {
          count = get_or-set_same v (slot_at slot) (d + 1) 0 (omega (arith, M.aside.long, F.long, F.inside)) ∙ sym len;
          few = omega (arith, F.depth);
          arcs = λ i h. get_or-set_other v (slot_at slot) (slot_at slot + 1 + i) (d + 1) 0 (λ q. omega arith) ∙ M.arcs i (omega arith);
        };
      }

-- ---- what slots and turns leave of the work area

pub still-none : (w : List ℕ) → Still w w
still-none w = record { long = refl; same = λ i a b. refl }

pub still-then : (u v w : List ℕ) → Still u v → Still v w → Still u w
still-then u v w k l = record { long = l.long ∙ k.long; same = λ i a b. l.same i a b ∙ k.same i a b }

pub still-turns : (w v : List ℕ) → area.Kept w v → Still w v
still-turns w v k = record { long = k.long; same = λ i a b. k.front i b }

pub still-slot : (slot : ℕ) (w v : List ℕ) → slot < 16 → Aside slot w v → Still w v
still-slot slot w v h A = record { long = A.long; same = λ i a b. A.others i (inr (omega arith)) }

-- a walk that stands in a slot stays while turns are written
pub stands-turns : (slot : ℕ) (w v u : List ℕ) → slot < 16 → area.Kept w v → Stands w slot u → Stands v slot u
stands-turns slot w v u h K S =
    record {
      count = K.front (slot_at slot) (omega arith) ∙ S.count;
      few = S.few;
      arcs = λ i l. K.front (slot_at slot + 1 + i) (omega (arith, S.few)) ∙ S.arcs i l;
    }

-- and the cursor stays where it is while a slot is written
module _ (slot : ℕ) (w v : List ℕ) (inside : slot < 16) (A : Aside slot w v) where
  there : (i : ℕ) → arcs_at ≤ i → get_or v i 0 ≡ get_or w i 0
  there i h = A.others i (inr (omega arith))

  pub plan-aside : plan v ≡ plan w
  plan-aside = plan-same v w A.long (λ i l h. there i l)

  turns-aside : (d : ℕ) → turns d v ≡ turns d w
  unfolding turns
  turns-aside zero = refl
  turns-aside (suc d) = ap₂ (λ (a : ℕ) (l : List ℕ). a ∷ l) (there (turns_at + d) (omega arith)) (turns-aside d)

  pub coming-aside : (s : Structure) (c : Cursor) → coming s v c ≡ coming s w c
  unfolding coming
  coming-aside s c = rw (plan-aside, turns-aside c.depth) refl

  pub on-aside : (s : Structure) (weight seed : ℕ → ℕ) (c : Cursor) → On s weight seed w c → On s weight seed v c
  on-aside s weight seed c O =
      let P = O.planned in
      let L = O.lower in
      let same : (q : ℕ) → least_at v q ≡ least_at w q = λ q. there (leasts_at + q) (omega arith) in
      record {
        planned = rw plan-aside P;
        lower = record {
          most = λ q h. rw (same q) (L.most q h);
          start = λ q h e. rw (same q) (L.start q h e);
          over = λ a h e. rw (same (enters s a), same (leaves s a)) (L.over a h e);
        };
        long = omega (arith, O.long, A.long);
        placed = rw (plan-aside, turns-aside c.depth) O.placed;
        turned = rw (plan-aside, turns-aside c.depth) O.turned;
        sum = rw (plan-aside, turns-aside c.depth) O.sum;
      }
