-- What an accepted table holds: each condition of 6 to 13 fails at each place, so its structure is sound and its times are within the limits.
-- Assumes nothing.
use Rattle.std.specs.Prelude.{◌≡◌, false, ℕ, ◌≤◌, ◌<◌}
use Rattle.std.proofs.Math.ListN.{length}
use Rattle.timing.specs.Limits.{most_pins, most_arcs, most_tests, most_time}
use Rattle.timing.specs.Kinds.{K, D}
use Rattle.timing.specs.Table.{Table, pin_count, arc_count, test_count, period_of, length_for, pin_kind, test_clock, test_data, test_setup, test_hold}
use Rattle.timing.specs.Structure.{structure, times}
use Rattle.timing.specs.Check.{header_bad, pin_bad, roots_bad, ends_bad, kinds_bad, delay_bad, into_bad, test_bad}
use Rattle.timing.specs.Laws.Sound.{Sound}
use Rattle.timing.specs.Laws.Ranged.{Ranged}

-- ---- no ground is met: each condition fails at each place

pub record Clear (t : Table) : Type 0 where
  pub header : header_bad t ≡ false
  pub pin : (p : ℕ) → p < pin_count t → pin_bad t p ≡ false
  pub roots : roots_bad t ≡ false
  pub ends : (a : ℕ) → a < arc_count t → ends_bad t a ≡ false
  pub pair : (a : ℕ) → a < arc_count t → kinds_bad t a ≡ false
  pub range : (a : ℕ) → a < arc_count t → delay_bad t a ≡ false
  pub ins : (p : ℕ) → p < pin_count t → into_bad t p ≡ false
  pub test : (j : ℕ) → j < test_count t → test_bad t j ≡ false

-- ---- what each condition says where it fails
pub record HeaderFits (t : Table) : Type 0 where
  pub some-pins : 1 ≤ pin_count t
  pub few-pins : pin_count t ≤ most_pins
  pub few-arcs : arc_count t ≤ most_arcs
  pub few-tests : test_count t ≤ most_tests
  pub some-period : 1 ≤ period_of t
  pub short-period : period_of t ≤ most_time
  pub whole : length t ≡ length_for (pin_count t) (arc_count t) (test_count t)

pub record TestFits (t : Table) (j : ℕ) : Type 0 where
  pub clock : (test_clock t j < pin_count t) × (pin_kind t (test_clock t j) ≡ K)
  pub data-pin : (test_data t j < pin_count t) × (pin_kind t (test_data t j) ≡ D)
  pub setup : test_setup t j ≤ most_time
  pub hold : test_hold t j ≤ most_time

-- ---- an accepted table
-- the header fits, the structure is sound, the times are within the limits
pub record Accepted (t : Table) : Type 0 where
  pub header : HeaderFits t
  pub sound : Sound (structure t)
  pub ranged : Ranged (structure t) (times t)
