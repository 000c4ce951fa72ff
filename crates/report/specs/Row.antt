-- A row of the answer as it is written: its head of five numbers, then the arcs of a walk turned round, then zeros.
-- Assumes nothing.
use Rattle.std.specs.Prelude.{◌≡◌, ℕ, suc, ◌+◌, ◌-◌, ◌≤◌, ◌<◌, length, get_or, take, drop, replicate, ℤ, pos}
use Rattle.std.proofs.Common.{sym, ap, ap₂, ◌∙◌, not-suc-le-zero, arith, length-drop, length-append, length-take-le, get_or-append-add}
use mathlib.Core.List.{List, [], ◌∷◌, ◌++◌, reverse, reverse-cons}
use Rattle.std.proofs.Math.Decide.{dec_lt}
use Rattle.std.proofs.lemmas.List.{length-replicate, length-reverse, get_or-replicate, get_or_at}
use Rattle.std.proofs.Math.ListN.{get_or-append}
use Rattle.lists.specs.Parts.{each}
use Rattle.lists.proofs.Laws.Member.{length-each}
use Rattle.lists.proofs.Laws.Join.{each-join}

-- 2 ^ 63: what is below it fits a signed number of 64 bits
abbrev pub signed : ℕ
signed = 9223372036854775808

-- slack, credit, test, start pin, arc count: as many numbers stand before the arcs
abbrev pub head_length : ℕ
head_length = 5

abbrev pub head_of : ℤ → ℕ → ℕ → ℕ → ℕ → List ℤ
head_of slack credit test start n = slack ∷ pos credit ∷ pos test ∷ pos start ∷ pos n ∷ []

-- the arcs of a walk from the start on, then zeros, p places in all
unfoldable pub arc_places : ℕ → List ℕ → List ℤ
arc_places p walk = each pos (reverse walk) ++ replicate (p - length walk) (pos 0)

-- the whole row
abbrev pub row_of : ℕ → ℤ → ℕ → ℕ → ℕ → List ℕ → List ℤ
row_of p slack credit test start walk = head_of slack credit test start (length walk) ++ arc_places p walk

-- what is written fits a signed number
pub record Fits (credit test start n : ℕ) : Type 0 where
  pub credit-fits : credit < signed
  pub test_fits : test < signed
  pub start_fits : start < signed
  pub arcs-fit : n < signed

-- n arcs stand at a place of the work area, and each fits a signed number
pub record Backwards (w : List ℕ) (at n : ℕ) : Type 0 where
  pub inside : at + n ≤ length w
  pub small : (j : ℕ) → j < n → get_or w (at + j) 0 < signed

-- and a row of some places has room for them
pub record Puts (w : List ℕ) (at credit test start n places : ℕ) : Type 0 where
  pub fits : Fits credit test start n
  pub walk : Backwards w at n
  pub room : n + head_length ≤ places

-- ---- laws

-- the walk that stands at a place
pub walk-length : (w : List ℕ) (at n : ℕ) → at + n ≤ length w → length (take n (drop at w)) ≡ n
walk-length w at n h = length-take-le n (drop at w) (omega (arith, length-drop at w))

turned-length : (walk : List ℕ) → length (each pos (reverse walk)) ≡ length walk
turned-length walk = length-each pos (reverse walk) ∙ length-reverse walk

pub length-places : (p : ℕ) (walk : List ℕ) → length walk ≤ p → length (arc_places p walk) ≡ p
unfolding arc_places
length-places p walk h =
    length-append (each pos (reverse walk)) (replicate (p - length walk) (pos 0))
    ∙ ap₂ (λ (a b : ℕ). a + b) (turned-length walk) (length-replicate (p - length walk) (pos 0)) ∙ omega arith

-- the last arc of the walk comes first
turned-at : (walk : List ℕ) (i : ℕ) → i < length walk → get_or (each pos (reverse walk)) i (pos 0) ≡ pos (get_or walk (length walk - 1 - i) 0)
unfolding each
turned-at [] i h = absurd (not-suc-le-zero h)
turned-at (a ∷ walk) i h =
    ap (λ (l : List ℕ). get_or (each pos l) i (pos 0)) (reverse-cons a walk)
    ∙ ap (λ (l : List ℤ). get_or l i (pos 0)) (each-join pos (reverse walk) (a ∷ []))
    ∙ elim (dec_lt i (length walk)) [
      | yes l ↦
          let e : suc (length walk) - 1 - i ≡ suc (length walk - 1 - i) = omega arith in
          get_or-append (each pos (reverse walk)) (pos a ∷ []) (pos 0) i (rw turned-length l) ∙ turned-at walk i l
          ∙ ap (λ (n : ℕ). pos (get_or (a ∷ walk) n 0)) (sym e)
      | no l ↦
          let e : suc (length walk) - 1 - i ≡ 0 = omega arith in
          get_or_at (each pos (reverse walk)) (pos a) [] (pos 0) i (turned-length walk ∙ omega arith)
          ∙ ap (λ (n : ℕ). pos (get_or (a ∷ walk) n 0)) (sym e)
    ]

pub place-arc : (p : ℕ) (walk : List ℕ) (i : ℕ) → i < length walk → get_or (arc_places p walk) i (pos 0) ≡ pos (get_or walk (length walk - 1 - i) 0)
unfolding arc_places
place-arc p walk i h =
    get_or-append (each pos (reverse walk)) (replicate (p - length walk) (pos 0)) (pos 0) i (rw turned-length h) ∙ turned-at walk i h

pub place-zero : (p : ℕ) (walk : List ℕ) (i : ℕ) → length walk ≤ i → i < p → get_or (arc_places p walk) i (pos 0) ≡ pos 0
unfolding arc_places
place-zero p walk i h k =
    let turned = each pos (reverse walk) in
    let e : i ≡ length turned + (i - length walk) = omega (arith, turned-length walk) in
    ap (λ (n : ℕ). get_or (turned ++ replicate (p - length walk) (pos 0)) n (pos 0)) e
    ∙ get_or-append-add turned (replicate (p - length walk) (pos 0)) (i - length walk) (pos 0)
    ∙ get_or-replicate (p - length walk) (i - length walk) (pos 0) (pos 0) (omega arith)
