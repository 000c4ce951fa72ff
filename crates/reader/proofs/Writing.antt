-- The loops that write the table. Assumes nothing.
use Rattle.std.proofs.Common.{◌≡◌, ℕ, zero, suc, ◌+◌, ◌-◌, ◌*◌, ◌<◌, ◌≤◌, min, Bool, true, false, ltb, List, length, sym, refl, ap, ◌∙◌, add-one, arith, length-append, ltb-false, ltb-true}
use Rattle.lists.specs.Choice.{pick}
use Rattle.lists.specs.Parts.{below, gather}
use Rattle.timing.specs.Field.{Bytes}
use Rattle.timing.specs.Line.{four_of, pin_of}
use Rattle.timing.specs.Text.{line_of, due_of}
use Rattle.reader.specs.Cut.{start_of}
use Rattle.lists.specs.Laws.Write.{sets}
use Rattle.lists.proofs.Laws.Write.{length-sets, sets-join, gather-more}
use Rattle.reader.specs.Scan.{due_in}
use Rattle.reader.specs.declared.Taken.{Taken}
use Rattle.reader.specs.Answer.{due_numbers, table_to, DueTo}

-- ---- the lines due

-- the numbers before line i of those due, of which the first p are pins
abbrev pub width : ℕ → ℕ → ℕ
width p i = 4 + 3 * min i p + 4 * (i - p)

due-long : (p i : ℕ) (l : Bytes) → width p i + length (due_of p i l) ≡ width p (i + 1)
unfolding due_of pin_of four_of pick
due-long p i l = by_width (ltb i p) refl
  where
    by_width : (b : Bool) → ltb i p ≡ b → width p i + length (pick b (pin_of l) (four_of l)) ≡ width p (i + 1)
    by_width true e = let h = ltb-true i p e in omega arith
    by_width false e = let h = ltb-false i p e in omega arith

gather-long : (x : Bytes) (p i : ℕ) → 4 + length (gather (due_numbers x p) (below i)) ≡ width p i
unfolding gather below
gather-long x p zero = omega arith
gather-long x p (suc i) =
    let e = ap length (gather-more (due_numbers x p) i) ∙ length-append (gather (due_numbers x p) (below i)) (due_numbers x p i) in
    let f : 4 + length (gather (due_numbers x p) (below (i + 1))) ≡ width p (i + 1) = omega (arith, e, gather-long x p i, due-long p i (line_of x (2 + i))) in
    rw add-one at f

pub table-long : (x : Bytes) (p n : ℕ) → length (table_to x p n) ≡ width p n
unfolding table_to four_of
table-long x p n = omega (arith, gather-long x p n, length-append (four_of (line_of x 1)) (gather (due_numbers x p) (below n)))

-- the numbers of the first i lines due are written
pub record Filling (x : Bytes) (p : ℕ) (t₀ t : List ℕ) (here w i : ℕ) : Type 0 where
  pub wrote : t ≡ sets t₀ 4 (gather (due_numbers x p) (below i))
  pub at : here ≡ start_of 10 x (i + 1)
  pub wide : w ≡ width p i
  pub len : length t ≡ length t₀

pub filling-first : (x : Bytes) (p here w : ℕ) (t : List ℕ) → here ≡ start_of 10 x 1 → w ≡ 4 → Filling x p t t here w 0
unfolding gather below sets
filling-first x p here w t h e = record { wrote = refl; at = h; wide = omega arith; len = refl }

pub fits : (x : Bytes) (p n : ℕ) (t₀ t : List ℕ) (here w i : ℕ) (vs : List ℕ) (l : Bytes) → Filling x p t₀ t here w i → i < n → p ≤ n → width p n ≤ length t₀
    → vs ≡ due_of p i l → w + length vs ≤ length t
fits x p n t₀ t here w i vs l s h q k e = rw e (omega (arith, due-long p i l, s.wide, s.len))

-- the numbers vs of line i, written at w
pub filling-more : (x : Bytes) (p a : ℕ) (t₀ t u : List ℕ) (here w v i : ℕ) (d : Taken (List ℕ)) → Filling x p t₀ t here w i → DueTo x p a i d
    → u ≡ sets t w (due_in p i d.value) → v ≡ w + length (due_in p i d.value) → Filling x p t₀ u d.next v (i + 1)
filling-more x p a t₀ t u here w v i d s e r q =
    let vs = due_in p i d.value in
    let j : w ≡ 4 + length (gather (due_numbers x p) (below i)) = s.wide ∙ sym (gather-long x p i) in
    let k : i + 2 ≡ i + 1 + 1 = omega arith in
    record {
      wrote = r ∙ rw (s.wrote, j, ← sets-join (gather (due_numbers x p) (below i)) (due_in p i d.value) t₀ 4, e.says) (ap (sets t₀ 4) (sym (gather-more (due_numbers x p) i)));
      at = e.behind ∙ ap (start_of 10 x) k;
      wide = q ∙ rw e.says (ap (λ (y : ℕ). y + length (due_numbers x p i)) s.wide ∙ due-long p i (line_of x (2 + i)));
      len = ap length r ∙ length-sets (due_in p i d.value) t w ∙ s.len;
    }

-- the first line and the lines due, one behind the other
pub filled-all : (x : Bytes) (p n : ℕ) (t vs : List ℕ) → vs ≡ four_of (line_of x 1)
    → sets (sets t 0 vs) 4 (gather (due_numbers x p) (below n)) ≡ sets t 0 (table_to x p n)
unfolding table_to four_of
filled-all x p n t vs d = rw d (sym (sets-join (four_of (line_of x 1)) (gather (due_numbers x p) (below n)) t 0))
