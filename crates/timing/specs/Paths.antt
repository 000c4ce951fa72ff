-- "A path runs over arcs from a K or an I to the test's data pin."
--
-- A walk is a path's arcs read backwards from the data pin. At a pin the arcs into it are taken in ascending number; an arc that leaves a start ends
-- the walk. Listed so, walks stand in the order of the tie rule: read backwards, at the first difference the smaller arc number comes first.
-- Nothing here uses the order of the pins.
-- Assumes nothing.
use Rattle.std.specs.Prelude.{ℕ, zero, suc, Bool, ◌||◌, List, [], ◌∷◌, eqb}
use Rattle.lists.specs.Choice.{pick}
use Rattle.lists.specs.Parts.{below, each, gather, last}
use Rattle.timing.specs.Kinds.{K, I}
use Rattle.timing.specs.Structure.{Structure, pins, tests, kind, leaves, data_pin}
use Rattle.timing.specs.Clock.{into}

-- a path starts at a K or an I
unfoldable pub is_start : Structure → ℕ → Bool
is_start s p = eqb (kind s p) K || eqb (kind s p) I

-- the walks from pin v; n bounds their arcs
unfoldable pub walks_by : Structure → ℕ → ℕ → List (List ℕ)
walks_by s zero v = []
walks_by s (suc n) v =
    gather
    (λ (a : ℕ).
    pick (is_start s (leaves s a)) ((a ∷ []) ∷ []) (each (λ (w : List ℕ). a ∷ w) (walks_by s n (leaves s a))))
    (into s v)

-- as many arcs as there are pins are enough
unfoldable pub walks : Structure → ℕ → List (List ℕ)
walks s v = walks_by s (pins s) v

-- a path: its test, and its walk
pub record Path : Type 0 where
  pub test : ℕ
  pub walk : List ℕ

-- the path of test j with the walk w
abbrev pub path : ℕ → List ℕ → Path
path j w = record { test = j; walk = w }

-- the pin that a path starts at
unfoldable pub start : Structure → Path → ℕ
start s p = leaves s (last 0 p.walk)

-- the paths of test j
unfoldable pub test_paths : Structure → ℕ → List Path
test_paths s j = each (path j) (walks s (data_pin s j))

-- every path of every test, tests ascending
unfoldable pub paths : Structure → List Path
paths s = gather (test_paths s) (below (tests s))
