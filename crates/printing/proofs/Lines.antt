-- What is printed, made of its parts from the front to the end, as the code puts them.
-- Assumes nothing.
use Prim.Native.Nat.{ℕ, suc, ◌+◌}
use mathlib.Core.Path.{◌≡◌, ap, ◌∙◌}
use mathlib.Core.List.{List, [], ◌∷◌, ◌++◌, append_assoc, append-nil}
use native.Mathlib.Omega.{arith}
use native.Mathlib.Nat.{add-zero}
use lib.ListN.{length, take}
use lib.IntN.{ℤ, pos}
use Rattle.lists.specs.Parts.{gather}
use Rattle.lists.proofs.Laws.Join.{gather-join}
use Rattle.timing.specs.Field.{Bytes, bytes}
use Rattle.timing.specs.Printed.{tab, printed_line, row_arcs, row_numbers, row_lines}

-- ---- numbers

-- one number more
pub gather-last : {A B : Type 0} (f : A → List B) (xs : List A) (x : A) → gather f (xs ++ (x ∷ [])) ≡ gather f xs ++ f x
unfolding gather
gather-last {B = B} f xs x = gather-join f xs (x ∷ []) ∙ ap (λ (l : List B). gather f xs ++ l) (append-nil (f x))

-- ---- lines

-- of two numbers
pub pair_line : (word : Bytes) (a b : ℤ) → ((word ++ tab a) ++ tab b) ++ (10 ∷ []) ≡ printed_line word (a ∷ b ∷ [])
unfolding printed_line gather
pair_line word a b = simp (append_assoc, append-nil)

-- of a row
pub row_line : (n : ℕ) (row : List ℤ)
    → (((bytes "path" ++ tab (pos n)) ++ gather tab (take 4 row)) ++ gather tab (row_arcs row)) ++ (10 ∷ []) ≡ printed_line (bytes "path") (row_numbers n row)
unfolding printed_line row_numbers gather
row_line n row = simp (append_assoc, gather-join)

-- one row more
pub lines-last : (n : ℕ) (rs : List (List ℤ)) (r : List ℤ)
    → row_lines n (rs ++ (r ∷ [])) ≡ row_lines n rs ++ printed_line (bytes "path") (row_numbers (n + length rs) r)
unfolding row_lines
lines-last n [] r = rw add-zero (append-nil (printed_line (bytes "path") (row_numbers n r)))
lines-last n (x ∷ rs) r =
    let k : (n + 1) + length rs ≡ n + suc (length rs) = omega arith in
    rw (lines-last (n + 1) rs r, k, append_assoc)
