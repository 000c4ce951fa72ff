-- Sums: over lists joined, compared member by member, and over distinct numbers below n, which come to no more than the sum over
-- all numbers below n. The last bounds a sum along a way that passes no number twice, whatever the way.
-- Assumes nothing.
use Rattle.std.specs.Prelude.{◌≢◌, ℕ}
use mathlib.Core.List.{List}
use Rattle.lists.specs.Laws.Member.{Pairs}

-- ---- distinct numbers
-- no number stands twice
abbrev pub Distinct : List ℕ → Type 0
Distinct = Pairs (λ (x y : ℕ). x ≢ y)
