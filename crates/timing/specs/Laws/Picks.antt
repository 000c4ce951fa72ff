-- What is counted in a slack: the walk, and of the two clock routes the arcs below the common pin; from an I, its own arrival and R's. Each arc and each
-- pin is counted once, at one end of its range. The slack after credit is the sum of these picks (`Cancel`), and demand 3 rests on that.
-- Assumes nothing.
use Rattle.std.specs.Prelude.{◌≡◌, ◌⊎◌, ◌≢◌, List, [], ◌∷◌, ◌++◌, ℕ, ◌-◌, ◌≤◌, ◌<◌, take, eqb}
use Rattle.std.proofs.Math.ListN.{length}
use Rattle.lists.specs.Choice.{pick}
use Rattle.lists.specs.Laws.Member.{In}
use Rattle.lists.specs.Laws.Sum.{Distinct}
use Rattle.timing.specs.Kinds.{R, K, I}
use Rattle.timing.specs.Structure.{Structure, pins, arcs, tests, kind, clock_pin, data_pin}
use Rattle.timing.specs.Clock.{climb, root, common}
use Rattle.timing.specs.Paths.{Path, start}
use Rattle.timing.specs.Laws.Walked.{Walk}

-- what is counted beside the walk: on the launch side and on the capture side, the arrivals of pins and the delays of arcs
pub record Picks : Type 0 where
  pub launch-pins : List ℕ
  pub capture-pins : List ℕ
  pub launch-arcs : List ℕ
  pub capture-arcs : List ℕ

-- the arcs of p's climb below its ancestor y
unfoldable pub under : Structure → ℕ → ℕ → List ℕ
under s p x = take (length (climb s p) - length (climb s x)) (climb s p)

unfoldable pub picks_k : Structure → Path → Picks
picks_k s p =
    record {
      launch-pins = [];
      capture-pins = [];
      launch-arcs = under s (start s p) (common s (start s p) (clock_pin s p.test));
      capture-arcs = under s (clock_pin s p.test) (common s (start s p) (clock_pin s p.test));
    }

unfoldable pub picks_i : Structure → Path → Picks
picks_i s p = record { launch-pins = start s p ∷ []; capture-pins = root s ∷ []; launch-arcs = []; capture-arcs = climb s (clock_pin s p.test) }

unfoldable pub picks : Structure → Path → Picks
picks s p = pick (eqb (kind s (start s p)) K) (picks_k s p) (picks_i s p)

-- from a K both climbs are cut at the common pin, and R's arrival cancels; from an I nothing does
pub record FromK (s : Structure) (p : Path) (o : Picks) : Type 0 where
  pub is : kind s (start s p) ≡ K
  pub own : climb s (start s p) ≡ o.launch-arcs ++ climb s (common s (start s p) (clock_pin s p.test))
  pub other : climb s (clock_pin s p.test) ≡ o.capture-arcs ++ climb s (common s (start s p) (clock_pin s p.test))
  pub no_start : o.launch-pins ≡ []
  pub no-root : o.capture-pins ≡ []

pub record FromI (s : Structure) (p : Path) (o : Picks) : Type 0 where
  pub is-not : kind s (start s p) ≢ K
  pub none : o.launch-arcs ≡ []
  pub all : climb s (clock_pin s p.test) ≡ o.capture-arcs
  pub at-start : o.launch-pins ≡ start s p ∷ []
  pub at-root : o.capture-pins ≡ root s ∷ []

abbrev pub Fits : Structure → Path → Picks → Type 0
Fits s p o = FromK s p o ⊎ FromI s p o

pub record Once (s : Structure) (p : Path) (o : Picks) : Type 0 where
  pub fits : Fits s p o
  pub test_in : p.test < tests s
  pub walk_of : Walk s (data_pin s p.test) p.walk
  pub run-once : Distinct (o.launch-arcs ++ p.walk)
  pub run_in : (a : ℕ) → In a (o.launch-arcs ++ p.walk) → a < arcs s
  pub run_short : length (o.launch-arcs ++ p.walk) < pins s
  pub capture-once : Distinct o.capture-arcs
  pub capture-in : (a : ℕ) → In a o.capture-arcs → a < arcs s
  pub capture-short : length o.capture-arcs < pins s
  pub start-once : Distinct o.launch-pins
  pub start-in : (x : ℕ) → In x o.launch-pins → (x < pins s) × ((kind s x ≡ R) ⊎ (kind s x ≡ I))
  pub start-short : length o.launch-pins ≤ 1
  pub root-once : Distinct o.capture-pins
  pub root_in : (x : ℕ) → In x o.capture-pins → (x < pins s) × ((kind s x ≡ R) ⊎ (kind s x ≡ I))
  pub root-short : length o.capture-pins ≤ 1
