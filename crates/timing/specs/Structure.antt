-- A design apart from the layout of its table: its structure, which says what is joined to what, and its times. Clock tree, paths and common pins
-- are defined over the structure alone, so two designs of equal structure have the same paths; arrival, credit and slack take the times beside it.
-- Assumes nothing.
use Rattle.std.specs.Prelude.{ℕ, List, length, get_or}
use Rattle.lists.specs.Parts.{below, each}
use Rattle.timing.specs.Table.{Table, pin_count, arc_count, test_count, period_of, Edge, pin_kind, pin_time, arc_from, arc_to, arc_time, test_clock, test_data, test_setup, test_hold}

-- ---- the structure

-- the kind of each pin, the ends of each arc, the pins of each test, by number
pub record Structure : Type 0 where
  pub kinds : List ℕ
  pub froms : List ℕ
  pub tos : List ℕ
  pub clocks : List ℕ
  pub datas : List ℕ

unfoldable pub pins : Structure → ℕ
pins s = length s.kinds

unfoldable pub arcs : Structure → ℕ
arcs s = length s.tos

unfoldable pub tests : Structure → ℕ
tests s = length s.datas

-- the kind of pin p
unfoldable pub kind : Structure → ℕ → ℕ
kind s p = get_or s.kinds p 0

-- the pin that arc a leaves
unfoldable pub leaves : Structure → ℕ → ℕ
leaves s a = get_or s.froms a 0

-- the pin that arc a enters
unfoldable pub enters : Structure → ℕ → ℕ
enters s a = get_or s.tos a 0

-- the clock pin of test j
unfoldable pub clock_pin : Structure → ℕ → ℕ
clock_pin s j = get_or s.clocks j 0

-- the data pin of test j
unfoldable pub data_pin : Structure → ℕ → ℕ
data_pin s j = get_or s.datas j 0

-- ---- the times

-- arrivals of R and I, delays of arcs, setup and hold of tests, in picoseconds
pub record Times : Type 0 where
  pub arrival : Edge → ℕ → ℕ
  pub delay : Edge → ℕ → ℕ
  pub setup : ℕ → ℕ
  pub hold : ℕ → ℕ
  pub period : ℕ

-- ---- those of a table

unfoldable pub structure : Table → Structure
structure t =
    record {
      kinds = each (pin_kind t) (below (pin_count t));
      froms = each (arc_from t) (below (arc_count t));
      tos = each (arc_to t) (below (arc_count t));
      clocks = each (test_clock t) (below (test_count t));
      datas = each (test_data t) (below (test_count t));
    }

unfoldable pub times : Table → Times
times t =
    record { arrival = pin_time t; delay = arc_time t; setup = test_setup t; hold = test_hold t; period = period_of t }
