-- The plan of a work area: what stands in it, and what leaves it as it is.
-- Assumes nothing.
use Rattle.std.specs.Prelude.{◌≡◌, List, ◌++◌, get_or}
use Rattle.std.proofs.Math.Path.{sym, ap}
use Rattle.std.proofs.Common.{◌∙◌, arith, length-drop, get_or-take, get_or-drop, ext_get_or, take-add}
use Prim.Native.Nat.{ℕ, ◌+◌, ◌-◌, ◌≤◌, ◌<◌, min}
use Rattle.std.proofs.Math.ListN.{length, take, drop, length-take}
use Rattle.std.proofs.Math.Seq.{drop-append_seam, length-take-le}
use Rattle.timing.specs.Limits.{most_pins, most_arcs}
use Rattle.area.specs.Area.{plan, plan_length, word_at, first_at, seed_at, arcs_at, firsts_at, seeds_at, credits_at}

pub plan-at : (w : List ℕ) (i : ℕ) → i < plan_length → get_or (plan w) i 0 ≡ get_or w (arcs_at + i) 0
unfolding plan
plan-at w i h = get_or-take plan_length (drop arcs_at w) i 0 h ∙ get_or-drop arcs_at w i 0

pub word-at : (w : List ℕ) (i : ℕ) → i < 1024 → word_at (plan w) i ≡ get_or w (arcs_at + i) 0
word-at w i h = plan-at w i (omega arith)

pub first-at : (w : List ℕ) (v : ℕ) → v ≤ 256 → first_at (plan w) v ≡ get_or w (firsts_at + v) 0
first-at w v h = let z : arcs_at + (most_arcs + v) ≡ firsts_at + v = omega arith in rw (← z) (plan-at w (most_arcs + v) (omega arith))

pub seed-at : (w : List ℕ) (v : ℕ) → v < 256 → seed_at (plan w) v ≡ get_or w (seeds_at + v) 0
seed-at w v h =
    let z : arcs_at + (most_arcs + (most_pins + 1) + v) ≡ seeds_at + v = omega arith in
    rw (← z) (plan-at w (most_arcs + (most_pins + 1) + v) (omega arith))

-- ---- two work areas with one plan

-- the numbers of the plan are the same
pub plan-same : (w w₀ : List ℕ) → length w ≡ length w₀ → ((i : ℕ) → arcs_at ≤ i → i < credits_at → get_or w i 0 ≡ get_or w₀ i 0) → plan w ≡ plan w₀
plan-same w w₀ n same =
    ext_get_or 0 (plan w) (plan w₀) same_length
    (λ i l. let h : i < plan_length = omega (arith, short w, l) in plan-at w i h ∙ same (arcs_at + i) (omega arith) (omega arith) ∙ sym (plan-at w₀ i h))
  where
    same_length : length (plan w) ≡ length (plan w₀)
    same_length = unfold plan in simp (length-take, length-drop) (ap (λ (k : ℕ). min plan_length (k - arcs_at)) n)

    short : (u : List ℕ) → length (plan u) ≤ plan_length
    short u = unfold plan in omega (arith, length-take plan_length (drop arcs_at u))

-- all numbers before its end are
pub plan-kept : (w w₀ : List ℕ) → arcs_at ≤ length w → arcs_at ≤ length w₀ → take credits_at w ≡ take credits_at w₀ → plan w ≡ plan w₀
plan-kept w w₀ h k e = plan-front w h ∙ ap (drop arcs_at) e ∙ sym (plan-front w₀ k)
  where
    plan-front : (w : List ℕ) → arcs_at ≤ length w → plan w ≡ drop arcs_at (take credits_at w)
    plan-front w h = unfold plan in
        let n : length (take arcs_at w) ≡ arcs_at = length-take-le arcs_at w h in
        sym (drop-append_seam (take arcs_at w) (take plan_length (drop arcs_at w)))
        ∙ ap (λ (k : ℕ). drop k (take arcs_at w ++ take plan_length (drop arcs_at w))) n
        ∙ ap (drop arcs_at) (sym (take-add arcs_at plan_length w))
