-- The clock tree: the way from a pin up to R, the clock arrival, the common pin and the credit of a clock pin (004, Definition 2).
-- Assumes nothing.
use Rattle.std.specs.Prelude.{ℕ, zero, suc, ◌+◌, ◌-◌, List, [], ◌∷◌, get_or, eqb}
use Rattle.lists.specs.Parts.{below, those, any, sum, each}
use Rattle.timing.specs.Kinds.{R}
use Rattle.timing.specs.Table.{Edge, early, late}
use Rattle.timing.specs.Structure.{Structure, pins, arcs, kind, leaves, enters, Times}

-- the arcs into a pin, ascending
unfoldable pub into : Structure → ℕ → List ℕ
into s v = those (λ (a : ℕ). eqb (enters s a) v) (below (arcs s))

-- f at the first of a list; nothing where there is none
unfoldable pub at_first : (ℕ → List ℕ) → List ℕ → List ℕ
at_first f [] = []
at_first f (a ∷ more) = f a

-- the arcs from a pin up to R, the pin's own first; n bounds the steps
unfoldable pub climb_by : Structure → ℕ → ℕ → List ℕ
climb_by s zero p = []
climb_by s (suc n) p = at_first (λ (a : ℕ). a ∷ climb_by s n (leaves s a)) (into s p)

-- as many steps as there are pins are enough
unfoldable pub climb : Structure → ℕ → List ℕ
climb s p = climb_by s (pins s) p

-- a pin and its ancestors, "a pin being its own ancestor": the pin, and what each arc of its climb leaves
unfoldable pub route : Structure → ℕ → List ℕ
route s p = p ∷ each (leaves s) (climb s p)

-- "There is exactly one R."
unfoldable pub root : Structure → ℕ
root s = get_or (those (λ (p : ℕ). eqb (kind s p) R) (below (pins s))) 0 0

-- "Clock arrival: early (late) of R plus the early (late) delays down to the pin."
unfoldable pub clock_arrival : Edge → Structure → Times → ℕ → ℕ
clock_arrival e s x p = x.arrival e (root s) + sum (x.delay e) (climb s p)

-- the lowest common ancestor: the first pin of p's route that is on q's
unfoldable pub common : Structure → ℕ → ℕ → ℕ
common s p q = get_or (those (λ (y : ℕ). any (eqb y) (route s q)) (route s p)) 0 0

-- "Credit of a clock pin: its late arrival minus its early."
unfoldable pub pin_credit : Structure → Times → ℕ → ℕ
pin_credit s x p = clock_arrival late s x p - clock_arrival early s x p
