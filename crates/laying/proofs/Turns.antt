-- How far the loop over the tests has come: the bounds found.
-- Assumes nothing.
use mathlib.Core.Path.{◌≡◌, ◌∙◌}
use mathlib.Core.List.{List}
use Prim.Native.Nat.{ℕ, ◌<◌, ◌+◌}
use native.Mathlib.Omega.{arith}
use native.Mathlib.Decide.{ℕ_discrete}
use lib.ListN.{length, get_or, set, length-set}
use lib.Seq.{get_or-set_same, get_or-set_other}
use Rattle.timing.specs.Table.{Table, test_count, test_data}
use Rattle.timing.specs.Check.{table_fault}
use Rattle.std.proofs.Math.Option.{none}
use Rattle.clocks.specs.Small.{few-pins}
use Rattle.clocks.specs.Known.{test-data}
use Rattle.laying.specs.Bounds.{Bounds}

-- each test passed has its bound
pub record Bounding (t : Table) (mode test : ℕ) (bounds : List ℕ) : Type 0 where
  pub len : length bounds ≡ 64
  pub so_far : (j : ℕ) → j < test → Bounds t mode j (get_or bounds j 0)

pub one_more : (t : Table) (mode test x : ℕ) (bounds : List ℕ) → Bounding t mode test bounds → test < 64 → Bounds t mode test x → Bounding t mode (test + 1) (set bounds test x)
one_more t mode test x bounds s h b =
    record {
      len = length-set bounds test x ∙ s.len;
      so_far = λ j k. elim (ℕ_discrete j test) [
        | yes e ↦ rw (e, get_or-set_same bounds test x 0 (omega (arith, s.len))) b
        | no e ↦ rw (get_or-set_other bounds test j x 0 (λ q. e (omega arith))) (s.so_far j (omega arith))
      ];
    }

-- the data pin of a test is a pin
pub low-data : (t : Table) → table_fault t ≡ none → (test : ℕ) → test < test_count t → (pin : ℕ) → pin ≡ test_data t test → pin < 256
low-data t h test k pin d = rw d (omega (arith, test-data t h test k, few-pins t h))
