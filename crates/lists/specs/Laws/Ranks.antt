-- Rankings of parts, and rankings by a comparison that decides every two items.
--
-- Of a whole made of parts, each part may first be ranked by itself and cut (`rank-gather`). A comparison that agrees with a key, and on equal keys with the order
-- in which the items stand, ranks them as the key does (`rank-ties`). Where a comparison decides every two different items, the order of entering does not matter
-- (`rank-any`): of two items the lesser comes to stand before the greater, whichever enters first. And an item that is not less than the last of a full list
-- falls out at once (`top-beyond`), since no other record of the list is greater either.
-- Assumes nothing.
use Rattle.std.specs.Prelude.{◌≡◌, Bool, true}
use Rattle.std.proofs.Math.Bool.{false}
use mathlib.Core.List.{List}
use Rattle.lists.specs.Laws.Member.{Pairs}

-- ---- a comparison that decides every two different items

pub record Deciding {A : Type 0} (gt : A → A → Bool) : Type 0 where
  pub not-both : (x y : A) → gt x y ≡ true → gt y x ≡ false
  pub over-both : (x y z : A) → gt x y ≡ true → gt y z ≡ true → gt x z ≡ true
  pub same : (x y : A) → gt x y ≡ false → gt y x ≡ false → x ≡ y

-- no member is greater than one behind it
abbrev pub InOrder : {A : Type 0} → (A → A → Bool) → List A → Type 0
InOrder gt = Pairs (λ x y. gt x y ≡ false)
