-- The work area: a lent list of 64-bit numbers, and where each part of it begins. Each part begins where the one before it ends.
--     0      slots    the walks of the ranked list, 256 numbers for each record: how many arcs, and the arcs, read backwards from the data pin
--     4,096  arcs     a word for each arc, sorted by the pin that the arc enters, ascending within a pin
--     5,120  firsts   where the arcs into each pin begin, and behind the last pin where they end
--     5,377  seeds    what a start brings to the test at hand; `none` at any other pin
--     5,633  credits, counts, leasts  a number for each pin, one after the other: while the seeds are laid its credit against the test's clock, then the
--                     number of walks from it, or the least value of a walk from it
--     5,889  early    the early clock arrival, in picoseconds
--     6,145  late     the late clock arrival
--     6,401  parents  the arc that comes into a clock pin
--     6,657  depths   how many arcs lead from R to it
--     6,913  drivers  the pin that drives it; `none` at R and on the data side
--     7,169  bases    what a start brings before credit; `none` at any other pin
--     7,425  turns    the turns of the walk at hand
--     7,681           not used
-- The arcs, firsts and seeds are what the walks of a test are gone through by: its plan.
-- Assumes nothing.
use Rattle.std.specs.Prelude.{◌≡◌, List, ℕ, ◌+◌, ◌*◌, ◌/◌, ◌%◌, ◌≤◌, ◌<◌, length, get_or, take, drop, ltb, Option}
use Rattle.std.specs.Bool.{then_some}
use Rattle.timing.specs.Limits.{most_pins, most_arcs, most_k}
use Rattle.timing.specs.Table.{Edge, early, late}

-- no start, no driver, no walk: 2 ^ 60, above every value
abbrev pub none : ℕ
none = 1152921504606846976

-- a word of the area, where it is not `none`
abbrev pub given : ℕ → Option ℕ
given x = then_some (ltb x none) x

-- ---- where the parts begin

abbrev pub slot_at : ℕ → ℕ
slot_at n = n * most_pins

abbrev pub arcs_at : ℕ
arcs_at = slot_at most_k

abbrev pub firsts_at : ℕ
firsts_at = arcs_at + most_arcs

abbrev pub seeds_at : ℕ
seeds_at = firsts_at + most_pins + 1

abbrev pub credits_at : ℕ
credits_at = seeds_at + most_pins

abbrev pub counts_at : ℕ
counts_at = credits_at

abbrev pub leasts_at : ℕ
leasts_at = credits_at

-- the clock side's own part: early, late, parents, depths, drivers, bases
abbrev pub clocks_at : ℕ
clocks_at = counts_at + most_pins

abbrev pub arrivals_at : Edge → ℕ
arrivals_at early = clocks_at
arrivals_at late = clocks_at + most_pins

abbrev pub parents_at : ℕ
parents_at = arrivals_at late + most_pins

abbrev pub depths_at : ℕ
depths_at = parents_at + most_pins

abbrev pub drivers_at : ℕ
drivers_at = depths_at + most_pins

abbrev pub bases_at : ℕ
bases_at = drivers_at + most_pins

abbrev pub turns_at : ℕ
turns_at = bases_at + most_pins

abbrev pub turns_end : ℕ
turns_end = turns_at + most_pins

-- ---- what a write leaves

-- after a write the area is as long as before, and as it was before place `from` and from place `end` on
pub record Kept (from end : ℕ) (before after : List ℕ) : Type 0 where
  pub long : length after ≡ length before
  pub front : (i : ℕ) → i < from → get_or after i 0 ≡ get_or before i 0
  pub back : (i : ℕ) → end ≤ i → get_or after i 0 ≡ get_or before i 0

-- ---- the plan

abbrev pub plan_length : ℕ
plan_length = most_arcs + (most_pins + 1) + most_pins

unfoldable pub plan : List ℕ → List ℕ
plan w = take plan_length (drop arcs_at w)

-- the arc at place i
abbrev pub word_at : List ℕ → ℕ → ℕ
word_at m i = get_or m i 0

-- the place of the first arc into pin v
abbrev pub first_at : List ℕ → ℕ → ℕ
first_at m v = get_or m (most_arcs + v) 0

abbrev pub seed_at : List ℕ → ℕ → ℕ
seed_at m v = get_or m (most_arcs + (most_pins + 1) + v) 0

-- ---- an arc in one word: the pin that it leaves in the lowest 8 bits, which is what is read most, then its number, then its weight

abbrev pub packed : ℕ → ℕ → ℕ → ℕ
packed weight from arc = weight * 262144 + arc * 256 + from

abbrev pub weight_in : ℕ → ℕ
weight_in x = x / 262144

abbrev pub from_in : ℕ → ℕ
from_in x = x % 256

abbrev pub arc_in : ℕ → ℕ
arc_in x = x / 256 % 1024
