-- A word of the area as an Option: which words are given.
-- Assumes nothing.
use Rattle.std.specs.Prelude.{◌≡◌, refl, Bool, true, false, ℕ, ◌≤◌, ◌<◌, ltb, None, Some}
use Rattle.std.specs.Option.{is_some}
use borrow.Author.Tests.{ltb-true, ltb-false}
use Rattle.area.specs.Area.{given, none}

pub given-below : (x : ℕ) → is_some (given x) ≡ true → x < none
given-below x e = go (ltb x none) refl
  where
    go : (b : Bool) → ltb x none ≡ b → x < none
    go true f = ltb-true x none f
    go false f = let g = rw f at e in cc

pub none-given : (x : ℕ) → is_some (given x) ≡ false → none ≤ x
none-given x e = go (ltb x none) refl
  where
    go : (b : Bool) → ltb x none ≡ b → none ≤ x
    go true f = let g = rw f at e in cc
    go false f = ltb-false x none f

-- which word is given
pub given-is : (x v : ℕ) → given x ≡ Some v → (x ≡ v) × (x < none)
given-is x v e = go (ltb x none) refl
  where
    go : (b : Bool) → ltb x none ≡ b → (x ≡ v) × (x < none)
    go true f = let g = rw f at e in (cc, ltb-true x none f)
    go false f = let g = rw f at e in cc

pub given-not : (x : ℕ) → given x ≡ None → none ≤ x
given-not x e = go (ltb x none) refl
  where
    go : (b : Bool) → ltb x none ≡ b → none ≤ x
    go true f = let g = rw f at e in cc
    go false f = ltb-false x none f
