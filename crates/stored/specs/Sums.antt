-- A sum that depends on order and on every place.
-- Assumes nothing.
use Rattle.std.specs.Prelude.{ℕ, ◌+◌, ◌*◌, ◌%◌, ◌≡◌, ℤ}
use Rattle.lists.specs.Laws.Integer.{up, down}

-- one number more
abbrev pub mixed : ℕ → ℕ → ℕ
mixed total value = (total % 1000003 * 131 + value % 1000003 + 1) % 1000003

-- a signed number more: what it has above zero, then what it has below
abbrev pub mixed_signed : ℕ → ℤ → ℕ
mixed_signed total value = mixed (mixed total (up value)) (down value)

-- from one sum to the next, by a value that counts as some number
abbrev pub mixes : {T : Type 0} → (T → ℕ → Type 0) → ℕ → T → ℕ → Type 0
mixes Counts total x next = (value : ℕ) × Counts x value × (next ≡ mixed total value)
