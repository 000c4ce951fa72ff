-- A word of the area that is not `none`, as an Option. Assumes nothing.
use mathlib.Core.Path.{◌≡◌, refl}
use mathlib.Core.Bool.{Bool, true, false}
use Prim.Native.Nat.{ℕ, ◌<◌}
use borrow.Author.Tests.{lt-ltb}
use lib.Dec.{ltb}
use Rattle.std.specs.Prelude.{Some}
use Rattle.std.specs.Bool.{then_some}
use Rattle.std.specs.Option.{unwrap_or}
use Rattle.lists.specs.Choice.{pick}
use Rattle.area.specs.Area.{given}
use Rattle.area.specs.Area as area

pub given-some : (x : ℕ) → x < area.none → given x ≡ Some x
given-some x l = rw (lt-ltb x area.none l)

-- it, or another in its place
pub given-or : (x y : ℕ) → unwrap_or (given x) y ≡ pick (ltb x area.none) x y
unfolding pick
given-or x y = go (ltb x area.none)
  where
    go : (b : Bool) → unwrap_or (then_some b x) y ≡ pick b x y
    go true = refl
    go false = refl
