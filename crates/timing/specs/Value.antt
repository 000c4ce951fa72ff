-- The form in which a slack is computed. For one test and one mode every path has a value, a natural number: what its start brings, and what each of its arcs
-- adds. Within one test the order of the values is the order of the slacks (`Laws.Valued`), so an engine ranks values.
--
-- In hold a value is the early arrival of the start, with its credit, and the early delays. In setup the latest path is the worst, so values count down: every
-- walk to a pin is raised by the same height, a step for each level, and the late delays are taken from it. No promise rests on this page.
-- Assumes nothing.
use Rattle.std.specs.Prelude.{ℕ, ◌+◌, ◌-◌, ◌*◌, List, [], eqb, pos}
use Rattle.lists.specs.Choice.{pick}
use Rattle.lists.specs.Parts.{sum, last}
use Rattle.lists.specs.Rank.{rank, by}
use Rattle.timing.specs.Limits.{most_time}
use Rattle.timing.specs.Kinds.{K}
use Rattle.timing.specs.Table.{early, late}
use Rattle.timing.specs.Structure.{Structure, kind, leaves, enters, clock_pin, data_pin, Times}
use Rattle.timing.specs.Clock.{clock_arrival, common, pin_credit}
use Rattle.timing.specs.Paths.{walks}
use Rattle.timing.specs.Slack.{Mode, for_setup, for_hold, start_arrival}

-- ---- for any weights and seeds

-- the value of a walk: the seed of the pin that it starts at, and the weight of each arc
unfoldable pub value_of : Structure → (ℕ → ℕ) → (ℕ → ℕ) → List ℕ → ℕ
value_of s weight seed w = seed (leaves s (last 0 w)) + sum weight w

-- the walks from a pin, least value first, equal ones in the order of the tie rule
unfoldable pub ranked_walks : Structure → (ℕ → ℕ) → (ℕ → ℕ) → ℕ → List (List ℕ)
ranked_walks s weight seed v = rank (by (λ (w : List ℕ). pos (value_of s weight seed w))) [] (walks s v)

-- ---- those of a mode and a test's clock pin

-- the most that a start's arrival can be
abbrev pub base : ℕ
base = 256000000

-- the credit of a path from pin p to a test with the clock pin c
unfoldable pub credit_from : Mode → Structure → Times → ℕ → ℕ → ℕ
credit_from m s x c p = pick (eqb (kind s p) K) (pin_credit s x (common s p c)) 0

-- level gives each pin its place in the order of processing
unfoldable pub weight_of : Mode → (ℕ → ℕ) → Structure → Times → ℕ → ℕ
weight_of for_setup level s x a = (level (enters s a) - level (leaves s a)) * most_time - x.delay late a
weight_of for_hold level s x a = x.delay early a

unfoldable pub seed_of : Mode → (ℕ → ℕ) → Structure → Times → ℕ → ℕ → ℕ
seed_of for_setup level s x c p = level p * most_time + (base + credit_from for_setup s x c p - start_arrival late s x p)
seed_of for_hold level s x c p = start_arrival early s x p + credit_from for_hold s x c p

-- what is added to a value, and taken from it, to give the slack
unfoldable pub raise : Mode → Structure → Times → ℕ → ℕ
raise for_setup s x j = clock_arrival early s x (clock_pin s j) + x.period
raise for_hold s x j = 0

unfoldable pub lower : Mode → (ℕ → ℕ) → Structure → Times → ℕ → ℕ
lower for_setup level s x j = x.setup j + level (data_pin s j) * most_time + base
lower for_hold level s x j = clock_arrival late s x (clock_pin s j) + x.hold j

-- the value of a walk to a test with the clock pin c
abbrev pub value : Mode → (ℕ → ℕ) → Structure → Times → ℕ → List ℕ → ℕ
value m level s x c w = value_of s (weight_of m level s x) (seed_of m level s x c) w
