-- `clocks::credit_down` meets its contract, by whether the pin has a credit. Assumes nothing.
use Rattle.clocks.specs.Route.{credit_down}
use Rattle.clocks.proofs.Words.{given-or}
use Rattle.clocks.proofs.credit_down.Goals as goal

pub returns : goal.returns
unfolding credit_down
returns c = rw (c.unwrap_or.ensures, c.given.ensures) (given-or _ _)
