-- Members: what is in a list made by `below`, `those`, `each` or `gather`, and what `any` and `every` say of members; a property
-- of every member, and of every two. Proofs about lists go by members rather than by places: most are then a line or two.
-- Assumes nothing.
use Rattle.std.specs.Prelude.{◌≡◌, ◌⊎◌}
use mathlib.Core.List.{List, [], ◌∷◌}

module _ {A : Type 0} where
  -- x is a member
  abbrev pub In : A → List A → Type 0
  In x [] = ⊥
  In x (y ∷ l) = (x ≡ y) ⊎ In x l

  -- every member has P
  abbrev pub All : (A → Type 0) → List A → Type 0
  All P [] = Unit {0}
  All P (x ∷ l) = P x × All P l

  -- R holds of every two, the earlier first
  abbrev pub Pairs : (A → A → Type 0) → List A → Type 0
  Pairs R [] = Unit {0}
  Pairs R (x ∷ l) = All (R x) l × Pairs R l
