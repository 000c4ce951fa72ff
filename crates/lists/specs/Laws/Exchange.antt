-- Two items of a list change places: it is a rearrangement, and what stands before both stays.
-- Assumes nothing.
use Rattle.std.specs.Prelude.{List, ℕ, get_or, set}

module _ {A : Type 0} (d : A) where
  -- l with what stood at i and at m exchanged
  abbrev pub exchanged : List A → ℕ → ℕ → List A
  exchanged l i m = set (set l m (get_or l i d)) i (get_or l m d)
