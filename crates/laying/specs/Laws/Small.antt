-- How much is added to the values of a test, and taken from them.
-- Assumes nothing.
use Rattle.std.proofs.Common.{subst}
use Rattle.std.specs.Prelude.{List, ℕ, ◌≤◌, ◌<◌}
use Rattle.timing.specs.Table.{Table}
use Rattle.timing.specs.Structure.{tests, structure, times}
use Rattle.timing.specs.Value.{raise, lower}
use Rattle.timing.specs.Rows.{mode_of}
use Rattle.timing.proofs.Laws.Accepted.{accepted, accepted-level}
use Rattle.timing.proofs.Laws.Columns.{tests-is}
use Rattle.timing.proofs.Laws.Valued.{raise-most, lower-most}
use Rattle.clocks.specs.Clocked.{Tested}
use Rattle.laying.specs.Standing.{level}

module _ (t : Table) (mode j : ℕ) (w : List ℕ) (T : Tested t w j) where
  place : j < tests (structure t)
  place = rw (tests-is t) T.inside

  pub raise-small : raise (mode_of mode) (structure t) (times t) j ≤ 257000000
  raise-small =
      let a = accepted t T.clocked.ready.checked in
      raise-most (structure t) a.sound (times t) a.ranged (mode_of mode) j place

  pub lower-small : lower (mode_of mode) level (structure t) (times t) j ≤ 512000000
  lower-small =
      let h = T.clocked.ready.checked in
      let a = accepted t h in
      subst (λ (f : ℕ → ℕ). lower (mode_of mode) f (structure t) (times t) j ≤ 512000000) (accepted-level t h)
      (lower-most (structure t) a.sound (times t) a.ranged (mode_of mode) j place)
