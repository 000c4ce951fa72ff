-- What the clock side's part of the work area holds of a table; what its functions ask, and what they answer.
-- Assumes nothing.
use Rattle.std.specs.Prelude.{◌≡◌, ◌⊎◌, ◌||◌, List, ℕ, ◌+◌, ◌-◌, ◌*◌, ◌≤◌, ◌<◌, length, get_or, eqb, ltb}
use Rattle.std.proofs.Math.Option.{none}
use Rattle.lists.specs.Choice.{pick}
use Rattle.timing.specs.Limits.{most_time, work_length}
use Rattle.timing.specs.Kinds.{R, B, K, I}
use Rattle.timing.specs.Table.{Table, Edge, early, late, pin_count, test_count}
use Rattle.timing.specs.Structure.{arcs, kind, leaves, enters, structure, times}
use Rattle.timing.specs.Clock.{into, climb, common, clock_arrival}
use Rattle.timing.specs.Slack.{Mode, for_setup, for_hold, start_arrival}
use Rattle.timing.specs.Value.{base, credit_from, seed_of}
use Rattle.timing.specs.Check.{table_fault}
use Rattle.area.specs.Area.{seeds_at, arrivals_at, parents_at, depths_at, drivers_at, bases_at}
use Rattle.area.specs.Area as area

-- ---- what is asked

-- a table that passed its check, and a work area of the length that is named for it
pub record Ready (t : Table) (w : List ℕ) : Type 0 where
  pub checked : table_fault t ≡ none
  pub room : work_length ≤ length w

-- a pin of the clock tree: R, a B or a K
pub record ClockPin (t : Table) (p : ℕ) : Type 0 where
  pub inside : p < pin_count t
  pub clock : (kind (structure t) p ≡ R) ⊎ ((kind (structure t) p ≡ B) ⊎ (kind (structure t) p ≡ K))

-- ---- what the area holds

-- at each B and K the one arc that comes into it
pub record Parented (t : Table) (w : List ℕ) : Type 0 where
  pub parent : (a : ℕ) → a < arcs (structure t) → (kind (structure t) (enters (structure t) a) ≡ B) ⊎ (kind (structure t) (enters (structure t) a) ≡ K)
      → get_or w (parents_at + enters (structure t) a) 0 ≡ a

-- the pin that drives a B or a K, which the one arc into it leaves; none at any other pin
unfoldable pub driver_for : Table → ℕ → ℕ
driver_for t p =
    pick (eqb (kind (structure t) p) B || eqb (kind (structure t) p) K) (leaves (structure t) (get_or (into (structure t) p) 0 0)) area.none

-- at each pin of the clock tree below n its arrivals and its depth; at each pin below n its driver
pub record ClockedTo (t : Table) (n : ℕ) (w : List ℕ) : Type 0 where
  pub arrival : (e : Edge) (p : ℕ) → p < n → ClockPin t p → get_or w (arrivals_at e + p) 0 ≡ clock_arrival e (structure t) (times t) p
  pub depth : (p : ℕ) → p < n → ClockPin t p → get_or w (depths_at + p) 0 ≡ length (climb (structure t) p)
  pub driver : (p : ℕ) → p < n → get_or w (drivers_at + p) 0 ≡ driver_for t p

-- parents, arrivals, depths and drivers of all
pub record Clocked (t : Table) (w : List ℕ) : Type 0 where
  pub ready : Ready t w
  pub parents : Parented t w
  pub pins : ClockedTo t (pin_count t) w

-- two pins of the clock tree, over a clocked area
pub record Two (t : Table) (w : List ℕ) (p q : ℕ) : Type 0 where
  pub clocked : Clocked t w
  pub one : ClockPin t p
  pub other : ClockPin t q

-- a test's clock pin and a pin that may be a start
pub record Asks (t : Table) (w : List ℕ) (c p : ℕ) : Type 0 where
  pub clocked : Clocked t w
  pub clock : ClockPin t c
  pub inside : p < pin_count t

-- a pin over a clocked area
pub record Starts (t : Table) (w : List ℕ) (p : ℕ) : Type 0 where
  pub clocked : Clocked t w
  pub inside : p < pin_count t

-- a test over a clocked area
pub record Tested (t : Table) (w : List ℕ) (j : ℕ) : Type 0 where
  pub clocked : Clocked t w
  pub inside : j < test_count t

-- ---- what is answered

-- the common pin, which is of the clock tree
pub record Common (t : Table) (p q r : ℕ) : Type 0 where
  pub is : r ≡ common (structure t) p q
  pub pin : ClockPin t r

-- a pin's place has an early arrival and a late one, not before it
pub record Spans (w : List ℕ) (p : ℕ) : Type 0 where
  pub room : arrivals_at late + p < length w
  pub order : get_or w (arrivals_at early + p) 0 ≤ get_or w (arrivals_at late + p) 0

-- what lies between them
abbrev pub credit_in : List ℕ → ℕ → ℕ
credit_in w p = get_or w (arrivals_at late + p) 0 - get_or w (arrivals_at early + p) 0

-- the credit of a path from p to a test with the clock pin c, in either mode
pub record Credited (t : Table) (c p r : ℕ) : Type 0 where
  pub is : (m : Mode) → r ≡ credit_from m (structure t) (times t) c p

-- which arrival of a start counts: the late one in setup, the early one in hold
abbrev pub launched : Mode → Edge
launched for_setup = late
launched for_hold = early

-- what a start brings before credit: its arrival; in setup values count down from a height that grows with the pin's number
unfoldable pub base_of : Mode → Table → ℕ → ℕ
base_of for_setup t p = p * most_time + (base - start_arrival late (structure t) (times t) p)
base_of for_hold t p = start_arrival early (structure t) (times t) p

-- that of a K or an I; none at any other pin
unfoldable pub base_for : Mode → Table → ℕ → ℕ
base_for m t p = pick (eqb (kind (structure t) p) K || eqb (kind (structure t) p) I) (base_of m t p) area.none

-- at each pin its base
pub record Based (m : Mode) (t : Table) (w : List ℕ) : Type 0 where
  pub base : (p : ℕ) → p < pin_count t → get_or w (bases_at + p) 0 ≡ base_for m t p

-- the seed of a K or an I; none at any other pin
unfoldable pub seed_for : Mode → Table → ℕ → ℕ → ℕ
seed_for m t c p =
    pick (eqb (kind (structure t) p) K || eqb (kind (structure t) p) I) (seed_of m (λ q. q) (structure t) (times t) c p) area.none

-- the seed that a base and a credit make: none where there is no base
unfoldable pub seed_with : ℕ → ℕ → ℕ
seed_with b x = pick (ltb b area.none) (b + x) area.none

-- at each pin below n its seed
pub record Seeded (m : Mode) (t : Table) (c n : ℕ) (w : List ℕ) : Type 0 where
  pub seed : (p : ℕ) → p < n → get_or w (seeds_at + p) 0 ≡ seed_for m t c p
