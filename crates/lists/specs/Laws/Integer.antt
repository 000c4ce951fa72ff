-- The order of ℤ said in ℕ, where `omega` works: z is `up z` less `down z`. Keys are differences of two naturals (`sub_is`), moved by
-- a natural (`plus-is`), so no other law of ℤ is needed.
-- Assumes nothing.
use Rattle.std.specs.Prelude.{ℕ, suc, ◌+◌, ◌≤◌, ◌<◌, ℤ, pos, negsuc}

-- what z has above zero
abbrev pub up : ℤ → ℕ
up (pos n) = n
up (negsuc n) = 0

-- what z has below zero
abbrev pub down : ℤ → ℕ
down (pos n) = 0
down (negsuc n) = suc n

-- x ≤ y + w
abbrev pub Within : ℕ → ℤ → ℤ → Type 0
Within w x y = up x + down y ≤ up y + down x + w

-- x < y
abbrev pub Less : ℤ → ℤ → Type 0
Less x y = up x + down y < up y + down x
