-- `report::room_bad` meets its contract: within the limits the product does not wrap. Assumes nothing.
use Prim.Native.Nat.{◌+◌}
use native.Mathlib.Nat.{mul-le-mul_right}
use native.Mathlib.Omega.{arith}
use Rattle.report.proofs.room_bad.Goals as goal

pub overflow_mul-k : goal.overflow_mul-k
overflow_mul-k c = omega (arith, mul-le-mul_right (c.args.pins + 5) c.requires.1)
