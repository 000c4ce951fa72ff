-- What the tests of a text's lines and fields mean: each passes exactly when the sentence of 01 holds.
-- Assumes nothing.
use Rattle.std.specs.Prelude.{◌≡◌, true, false, eqb}
use Rattle.timing.specs.Kinds.{has_times}
use Rattle.timing.specs.Field.{Bytes, no_kind, letter}
use Rattle.demands.specs.TextConditions.{TimedLetter, BareLetter}

-- ---- letters
-- a field is the letter of a kind with times, of one without, or no letter
pub data Letter (f : Bytes) : Type 0 where
  timed : TimedLetter f → (BareLetter f → ⊥) → has_times (letter f) ≡ true → eqb (letter f) no_kind ≡ false → Letter f
  bare : BareLetter f → (TimedLetter f → ⊥) → has_times (letter f) ≡ false → eqb (letter f) no_kind ≡ false → Letter f
  unknown : (TimedLetter f → ⊥) → (BareLetter f → ⊥) → has_times (letter f) ≡ false → eqb (letter f) no_kind ≡ true → Letter f
