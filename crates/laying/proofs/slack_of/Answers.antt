-- `laying::slack_of` meets its contract: value, raise and lower are small, so nothing wraps.
-- Assumes nothing.
use mathlib.Core.Path.{ap₂, ◌∙◌}
use Prim.Native.Nat.{◌+◌, ◌<◌}
use native.Mathlib.Omega.{arith}
use lib.IntN.{ℤ, ◌-ℤ◌}
use mir.Syntax.{w64}
use mir.ValLaws.{to_z-of_z, to_z_pos}
use Rattle.std.proofs.lemmas.Int.{ints}
use Rattle.laying.specs.Laws.Signed.{small-difference, minus}
use Rattle.laying.specs.Laws.Small.{raise-small, lower-small}
use Rattle.laying.proofs.slack_of.Goals as goal

pub overflow_add-result : goal.overflow_add-result
overflow_add-result c = omega (arith, c.raise_of-raise.ensures, raise-small _ c.args.mode _ _ c.requires.0, c.requires.1)

pub overflow_cast-result : goal.overflow_cast-result
overflow_cast-result c = omega (arith, ints, c.raise_of-raise.ensures, raise-small _ c.args.mode _ _ c.requires.0, c.requires.1)

pub overflow_cast-result-2 : goal.overflow_cast-result-2
overflow_cast-result-2 c = omega (arith, ints, c.lower_of-lower.ensures, lower-small _ c.args.mode _ _ c.requires.0)

pub overflow_sub-result : goal.overflow_sub-result
overflow_sub-result c =
    let a : c.args.value + c.raise_of-raise.result < 4611686018427387904 = omega (arith, c.raise_of-raise.ensures, raise-small _ c.args.mode _ _ c.requires.0, c.requires.1) in
    let b : c.lower_of-lower.result < 4611686018427387904 = omega (arith, c.lower_of-lower.ensures, lower-small _ c.args.mode _ _ c.requires.0) in
    rw (to_z_pos w64 (c.args.value + c.raise_of-raise.result) (omega arith), to_z_pos w64 c.lower_of-lower.result (omega arith), minus)
    (record { sfits = small-difference _ _ a b })

pub returns : goal.returns
returns c =
    let a = c.args.value + c.raise_of-raise.result in
    let b = c.lower_of-lower.result in
    let k : a < 4611686018427387904 = omega (arith, c.raise_of-raise.ensures, raise-small _ c.args.mode _ _ c.requires.0, c.requires.1) in
    let h : b < 4611686018427387904 = omega (arith, c.lower_of-lower.ensures, lower-small _ c.args.mode _ _ c.requires.0) in
    let e =
    to_z-of_z w64 _ (overflow_sub-result c) ∙ ap₂ (λ (x y : ℤ). x -ℤ y) (to_z_pos w64 a (omega arith)) (to_z_pos w64 b (omega arith)) ∙ minus a b in
    rw (e, c.raise_of-raise.ensures, c.lower_of-lower.ensures)
