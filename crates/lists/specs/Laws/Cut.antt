-- Texts: `split` by places, and `same`. The definition of `split` speaks of parts, a loop over a text of the place where part m begins:
-- its invariant is `drop m (split b x) ≡ split b (drop here x)`, so no part is ever built.
-- Assumes nothing.
use Rattle.std.specs.Prelude.{ℕ, suc, ◌+◌, ◌≤◌, ◌≡◌, List, [], ◌∷◌, eqb, length, drop}
use Rattle.lists.specs.Choice.{pick}
use Rattle.lists.specs.Parts.{split}

-- ---- the first part, and what stands behind it

-- the place of the first byte b, or the length if there is none
unfoldable pub reach : ℕ → List ℕ → ℕ
reach b [] = 0
reach b (x ∷ xs) = pick (eqb x b) 0 (suc (reach b xs))

-- ---- where a part begins and ends
-- part m begins at `here`: the parts from m on are those of the text from `here` on
pub record At (b : ℕ) (x : List ℕ) (m here : ℕ) : Type 0 where
  pub inside : here ≤ length x
  pub rest : drop m (split b x) ≡ split b (drop here x)

-- the first byte b at or behind a, or the length if there is none
abbrev pub end_at : ℕ → List ℕ → ℕ → ℕ
end_at b x a = a + reach b (drop a x)

-- ---- a walk over the parts
-- part m begins at a and ends at e
pub record Part (b : ℕ) (x : List ℕ) (m a e : ℕ) : Type 0 where
  pub here : At b x m a
  pub end : e ≡ end_at b x a
  pub few : m ≤ a
  pub most : e ≤ length x
  pub after : a ≤ e
