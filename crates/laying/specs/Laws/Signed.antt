-- The difference of two small natural numbers, as a signed number of 64 bits.
-- Assumes nothing.
use Rattle.std.specs.Prelude.{◌≡◌, refl, ℕ, zero, suc, ◌≤◌, ◌<◌, pos, ◌-ℤ◌}
use Rattle.std.proofs.Common.{ap, zero-le, arith, lt-ltb, le-ltb}
use Rattle.std.proofs.Math.Decide.{dec_lt}
use Rattle.std.proofs.Math.IntN.{sub_ℕ}
use Rattle.std.specs.Int.Signed.{mag}

pub small-difference : (a b : ℕ) → a < 4611686018427387904 → b < 4611686018427387904 → mag (sub_ℕ a b) < 9223372036854775808
small-difference a b h k = elim (dec_lt a b) [
  | yes p ↦ rw (lt-ltb _ _ p) (omega arith)
  | no p ↦ let q : b ≤ a = omega arith in rw (le-ltb _ _ q) (omega arith)
]

pub minus : (a b : ℕ) → pos a -ℤ pos b ≡ sub_ℕ a b
minus a zero = rw (le-ltb a 0 zero-le) (ap pos (omega arith))
minus a (suc b) = refl
