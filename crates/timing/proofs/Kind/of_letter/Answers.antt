-- `Kind::of_letter` meets its contract. One return for each letter. Assumes nothing.
use Rattle.std.proofs.Common.{refl, ne_eqb}
use Rattle.lists.specs.Choice.{pick}
use Rattle.timing.proofs.Kind.of_letter.Goals as goal

pub returns-in-82 : goal.returns-in-82
unfolding pick
returns-in-82 c = rw c.in-82.is refl

pub returns-in-66 : goal.returns-in-66
unfolding pick
returns-in-66 c = rw c.in-66.is refl

pub returns-in-75 : goal.returns-in-75
unfolding pick
returns-in-75 c = rw c.in-75.is refl

pub returns-in-73 : goal.returns-in-73
unfolding pick
returns-in-73 c = rw c.in-73.is refl

pub returns-in-68 : goal.returns-in-68
unfolding pick
returns-in-68 c = rw c.in-68.is refl

pub returns-in_default : goal.returns-in_default
unfolding pick
returns-in_default c = let (((((_, r), b), k), i), d) = c.in_default.in_default-own.rest in rw (ne_eqb _ _ r, ne_eqb _ _ b, ne_eqb _ _ k, ne_eqb _ _ i, ne_eqb _ _ d) refl
