-- Line n of a text is a part of it: the bytes that stand at its start. And the table of a text has the length that the first line tells.
-- Assumes nothing.
use Rattle.std.specs.Prelude.{◌≡◌, refl, Bool, true, false, List, [], ◌∷◌, ℕ, zero, suc, ◌+◌, ◌*◌, ◌≤◌, length, get_or, take, drop, eqb, ltb}
use Rattle.std.proofs.Common.{ap, ◌∙◌, add-zero, add-suc, add-one, arith, lt-ltb, le-ltb, length-append}
use Rattle.lists.specs.Choice.{pick}
use Rattle.lists.specs.Parts.{below, sum, gather, onto, split}
use Rattle.lists.proofs.Laws.Sum.{sum_more, sum-cong}
use Rattle.lists.proofs.Laws.Count.{length-gather}
use Rattle.timing.specs.Field.{Bytes}
use Rattle.timing.specs.Line.{four_of, pin_of}
use Rattle.timing.specs.Text.{parts, line_of, behind, line_start, pins_of, arcs_of, tests_of, lines_due, table_length, due_of, table_of}

-- ---- where a line stands

part_of : (x : Bytes) (n : ℕ) → take (length (get_or (split 10 x) n [])) (drop (behind x n) x) ≡ get_or (split 10 x) n []
unfolding split onto behind pick
part_of [] zero = refl
part_of [] (suc n) = refl
part_of (b ∷ x) zero = first (eqb b 10) (split 10 x) (at_zero x (part_of x zero))
  where
    at_zero : (y : Bytes) → take (length (get_or (split 10 y) 0 [])) (drop (behind y 0) y) ≡ get_or (split 10 y) 0 [] → take (length (get_or (split 10 y) 0 [])) y ≡ get_or (split 10 y) 0 []
    at_zero [] e = e
    at_zero (c ∷ y) e = e

    first : (c : Bool) (ps : List Bytes) → take (length (get_or ps 0 [])) x ≡ get_or ps 0 []
        → take (length (get_or (pick c ([] ∷ ps) (onto b ps)) 0 [])) (b ∷ x) ≡ get_or (pick c ([] ∷ ps) (onto b ps)) 0 []
    first true ps e = refl
    first false [] e = refl
    first false (p ∷ ps) e = ap (λ (l : Bytes). b ∷ l) e
part_of (b ∷ x) (suc n) = rest (eqb b 10) (split 10 x) (part_of x n) (part_of x (suc n))
  where
    rest : (c : Bool) (ps : List Bytes) → take (length (get_or ps n [])) (drop (behind x n) x) ≡ get_or ps n []
        → take (length (get_or ps (suc n) [])) (drop (behind x (suc n)) x) ≡ get_or ps (suc n) []
        → take (length (get_or (pick c ([] ∷ ps) (onto b ps)) (suc n) [])) (drop (behind x (pick c n (suc n))) x) ≡ get_or (pick c ([] ∷ ps) (onto b ps)) (suc n) []
    rest true ps e f = e
    rest false [] e f = f
    rest false (p ∷ ps) e f = f

-- the line is what stands at its start
pub line-own : (x : Bytes) (n : ℕ) → take (length (line_of x n)) (drop (line_start x n) x) ≡ line_of x n
unfolding line_of line_start parts
line-own x zero = refl
line-own x (suc n) = part_of x n

-- and its start is within the text
behind-in : (x : Bytes) (n : ℕ) → behind x n ≤ length x
unfolding behind
behind-in [] n = omega arith
behind-in (b ∷ x) zero = omega arith
behind-in (b ∷ x) (suc n) = omega (arith, behind-in x (pick (eqb b 10) n (suc n)))

pub line-in : (x : Bytes) (n : ℕ) → line_start x n ≤ length x
unfolding line_start
line-in x zero = omega arith
line-in x (suc n) = behind-in x n

-- ---- how long the table is
-- three numbers of a pin, four of an arc or a test
abbrev due_count : ℕ → ℕ → ℕ
due_count p i = pick (ltb i p) 3 4

due-length : (p i : ℕ) (l : Bytes) → length (due_of p i l) ≡ due_count p i
unfolding due_of pin_of four_of pick
due-length p i l = go (ltb i p)
  where
    go : (c : Bool) → length (pick c (pin_of l) (four_of l)) ≡ pick c 3 4
    go true = refl
    go false = refl

due-more : (p n : ℕ) → sum (due_count p) (below (suc n)) ≡ sum (due_count p) (below n) + due_count p n
due-more p n = rw add-one at (sum_more (due_count p) n)

due-pins : (p n : ℕ) → n ≤ p → sum (due_count p) (below n) ≡ 3 * n
unfolding below sum pick
due-pins p zero h = omega arith
due-pins p (suc n) h =
    let three : due_count p n ≡ 3 = rw (lt-ltb n p h) in
    omega (arith, due-more p n, three, due-pins p n (omega arith))

due_all : (p n : ℕ) → sum (due_count p) (below (p + n)) ≡ 3 * p + 4 * n
unfolding pick
due_all p zero = rw (add-zero p) (omega (arith, due-pins p p (omega arith)))
due_all p (suc n) =
    let four : due_count p (p + n) ≡ 4 = rw (le-ltb (p + n) p (omega arith)) in
    rw (add-suc p n) (omega (arith, due-more p (p + n), four, due_all p n))

-- the table has as many numbers as the first line tells
pub table-length : (x : Bytes) → length (table_of x) ≡ table_length x
unfolding table_of table_length lines_due four_of
table-length x =
    let p = pins_of x in
    let n = arcs_of x + tests_of x in
    let due : ℕ → List ℕ = λ i. due_of p i (line_of x (2 + i)) in
    let lines : p + arcs_of x + tests_of x ≡ p + n = omega arith in
    let count : length (gather due (below (p + arcs_of x + tests_of x))) ≡ 3 * p + 4 * n =
    length-gather due (below (p + arcs_of x + tests_of x))
    ∙ sum-cong (λ (i : ℕ). length (due i)) (due_count p) (below (p + arcs_of x + tests_of x)) (λ i h. due-length p i (line_of x (2 + i)))
    ∙ ap (λ (k : ℕ). sum (due_count p) (below k)) lines
    ∙ due_all p n in
    omega (arith, length-append (four_of (line_of x 1)) (gather due (below (p + arcs_of x + tests_of x))), count)
