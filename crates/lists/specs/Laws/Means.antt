-- Tests and what they mean: a test passes exactly when a sentence holds. Put together by `not`, `||` and `&&` they mean what these words say.
-- Assumes nothing.
use Rattle.std.specs.Prelude.{◌≡◌, ◌↔◌, Bool, true}

-- the test passes exactly when P holds
abbrev pub Means : Bool → Type 0 → Type 0
Means b P = (b ≡ true) ↔ P
