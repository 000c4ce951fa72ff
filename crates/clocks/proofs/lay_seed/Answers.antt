-- `clocks::lay_seed` meets its contract, by whether a pin drives p. Assumes nothing.
use mathlib.Core.Path.{refl, sym, ap, ◌∙◌}
use Rattle.clocks.specs.Route.{driver_in, credit_down}
use Rattle.area.specs.Laws.Given.{given-is, given-not}
use Rattle.clocks.proofs.Handing.{turn-driven, turn-free}
use Rattle.clocks.proofs.lay_seed.Goals as goal

pub returns-in-Some : goal.returns-in-Some
returns-in-Some c =
    let d = given-is (driver_in c.args.work.now c.args.p) c.in-Some.driver (sym c.in-Some.ensures) in
    turn-driven c.args.work.now c.args.p (driver_in c.args.work.now c.args.p) refl _ _ _ d.1
    (c.credit_down-credit.ensures ∙ ap (credit_down c.args.work.now c.args.p) (sym d.0)) refl c.seed_with.ensures

pub returns-in_default : goal.returns-in_default
returns-in_default c =
    turn-free c.args.work.now c.args.p (driver_in c.args.work.now c.args.p) refl _ (given-not _ (sym c.in_default.ensures)) refl
