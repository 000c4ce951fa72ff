-- A walk read backwards behind the head of its row, arc by arc.
-- Assumes nothing.
use Rattle.std.specs.Prelude.{ℕ, zero, suc, ◌+◌, ◌-◌, ◌≤◌, ◌<◌, ◌≡◌, List, [], ◌∷◌, ◌++◌, get_or, length, set, take, drop, reverse, replicate, ℤ, pos}
use Rattle.std.proofs.Common.{refl, sym, ap, ap₂, ◌∙◌, arith, zero-add, length-append, length-drop, length-take, append-nil, take_at, drop_of_length-le}
use Rattle.std.proofs.Math.Seq.{paste, drop-append-add}
use Rattle.std.specs.List.{enumerate_from}
use Rattle.std.proofs.lemmas.List.{length-reverse, length-replicate, get_or-reverse, get_or_default, drop-replicate}
use Rattle.std.proofs.lemmas.List.FromFn.{length-enumerate_from, get_or-enumerate_from}
use Rattle.std.proofs.lemmas.List.Edits.{paste_more, paste_all}
use borrow.Rule.Slice.PartMut.{put_mid}
use mir.Syntax.{w64}
use mir.Val.{to_z}
use mir.ValLaws.{to_z_pos}
use Rattle.lists.specs.Parts.{each}
use Rattle.lists.proofs.Laws.Member.{length-each}
use Rattle.report.specs.Row.{signed, arc_places}

-- the arcs from the start on
abbrev pub arcs : List ℕ → List ℤ
arcs walk = each pos (reverse walk)

length-arcs : (walk : List ℕ) → length (arcs walk) ≡ length walk
length-arcs walk = length-each pos (reverse walk) ∙ length-reverse walk

-- place k of them
each-at : (xs : List ℕ) (k d : ℕ) → get_or (each pos xs) k (pos d) ≡ pos (get_or xs k d)
unfolding each
each-at [] k d = refl
each-at (x ∷ xs) zero d = refl
each-at (x ∷ xs) (suc k) d = each-at xs k d

module _ (walk : List ℕ) (k i a : ℕ)
    (t : (k < length (enumerate_from 0 (reverse walk))) × (◌≡◌ {A = ℕ × ℕ} (i, a) (get_or (enumerate_from 0 (reverse walk)) k (i, a)))) where
  -- the loop's turn k has the arc of place k
  here : k < length (reverse walk)
  here = omega (arith, t.0, length-enumerate_from 0 (reverse walk))

  index : i ≡ k
  index = ap (λ (p : ℕ × ℕ). p.0) t.1 ∙ ap (λ (p : ℕ × ℕ). p.0) (get_or-enumerate_from 0 (reverse walk) k (i, a) here) ∙ zero-add k

  arc : a ≡ get_or (reverse walk) k a
  arc = ap (λ (p : ℕ × ℕ). p.1) t.1 ∙ ap (λ (p : ℕ × ℕ). p.1) (get_or-enumerate_from 0 (reverse walk) k (i, a) here)

  -- which is stored behind those before it
  pub one_more : (row₀ row : List ℤ) → row ≡ paste row₀ 5 (arcs walk) k → length walk + 5 ≤ length row₀ → ((j : ℕ) → j < length walk → get_or walk j 0 < signed)
      → set row (5 + i) (to_z w64 a) ≡ paste row₀ 5 (arcs walk) (k + 1)
  one_more row₀ row e room small =
      let inside : k < length walk = omega (arith, here, length-reverse walk) in
      let low : a < signed = rw (arc ∙ get_or-reverse walk k a inside ∙ get_or_default walk (length walk - 1 - k) a 0 (omega arith)) (small (length walk - 1 - k) (omega arith)) in
      let stored : to_z w64 a ≡ get_or (arcs walk) k (pos a) = to_z_pos w64 a low ∙ ap pos arc ∙ sym (each-at (reverse walk) k a) in
      ap₂ (λ (r : List ℤ) (j : ℕ). set r (5 + j) (to_z w64 a)) e index
      ∙ ap (λ (z : ℤ). set (paste row₀ 5 (arcs walk) k) (5 + k) z) stored
      ∙ paste_more row₀ 5 (arcs walk) k (pos a) (omega arith) (omega (arith, length-arcs walk))

-- the head, then p zeros
abbrev pub begun : List ℤ → ℕ → List ℤ
begun head p = head ++ replicate p (pos 0)

pub length-begun : (head : List ℤ) (p n : ℕ) → length head ≡ 5 → p ≡ n - 5 → 5 ≤ n → length (begun head p) ≡ n
length-begun head p n h e r = omega (arith, length-append head (replicate p (pos 0)), length-replicate {A = ℤ} p (pos 0))

-- as they are written
pub headed : (head front row zeros : List ℤ) (k : ℕ) → length head ≡ 5 → 5 ≤ length row → front ≡ head → k ≡ length (front ++ drop 5 row) - 5
    → zeros ≡ replicate (length (take k (drop 5 (front ++ drop 5 row)))) (pos 0) → put_mid 5 k (front ++ drop 5 row) zeros ≡ begun head (length row - 5)
headed head front row zeros k h room f e z =
    let rest = drop 5 (front ++ drop 5 row) in
    let whole : length (front ++ drop 5 row) ≡ length row = omega (arith, length-append front (drop 5 row), length-drop 5 row, ap length f) in
    let first : take 5 (front ++ drop 5 row) ≡ head = take_at front (drop 5 row) 5 (ap length f ∙ h) ∙ f in
    let none : drop k rest ≡ [] = drop_of_length-le rest {i = k} (omega (arith, length-drop 5 (front ++ drop 5 row))) in
    let many : length (take k rest) ≡ length row - 5 = omega (arith, length-take k rest, length-drop 5 (front ++ drop 5 row)) in
    rw (first, none, z, many, append-nil (replicate (length row - 5) (pos 0))) refl

-- all of them
pub finish : (head : List ℤ) (walk : List ℕ) (p : ℕ) → length head ≡ 5 → length walk ≤ p
    → paste (begun head p) 5 (arcs walk) (length walk) ≡ head ++ arc_places p walk
unfolding arc_places
finish head walk p h r =
    let zeros = replicate p (pos 0) in
    let rest : drop (5 + length walk) (head ++ zeros) ≡ replicate (p - length walk) (pos 0) =
    ap (λ (n : ℕ). drop (n + length walk) (head ++ zeros)) (sym h) ∙ drop-append-add head zeros (length walk) ∙ drop-replicate (length walk) p (pos 0) in
    paste_all (head ++ zeros) 5 (arcs walk) (length walk) (sym (length-arcs walk))
    ∙ ap₂ (λ (x y : List ℤ). x ++ (arcs walk ++ y)) (take_at head zeros 5 h) rest
