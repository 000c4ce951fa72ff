-- Lists without repeats: two with the same members are as long as one another, so "how many there are" does not depend on how they are listed.
-- Assumes nothing.
use Rattle.std.specs.Prelude.{◌≢◌, List}
use Rattle.lists.specs.Laws.Member.{Pairs}

module _ {A : Type 0} where
  -- no member twice
  abbrev pub Once : List A → Type 0
  Once l = Pairs (λ (x y : A). x ≢ y) l
