-- `walker::least_at` meets its contract.
-- Assumes nothing.
use Rattle.std.proofs.Common.{sym}
use Rattle.area.specs.Laws.Given.{given-is, given-not}
use Rattle.walker.specs.Laws.Leasts.{at-start, at_other}
use Rattle.walker.proofs.least_at.Goals as goal

pub returns-in-Some : goal.returns-in-Some
returns-in-Some c =
    let g = given-is _ c.in-Some.seed (sym c.in-Some.ensures) in
    rw (← g.0) (at-start _ _ c.requires.pin g.1)

pub returns-in-None : goal.returns-in-None
returns-in-None c =
    at_other _ _ _ c.requires.pin (given-not _ (sym c.in-None.ensures)) c.least_into.ensures
