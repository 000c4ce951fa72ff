-- What a start brings to a test, and what is common to the test's paths: the definitions, by the cases of the code. Assumes nothing.
use mathlib.Core.Path.{◌≡◌, refl, sym, ◌∙◌}
use mathlib.Core.Logic.{◌≢◌}
use mathlib.Core.List.{List}
use Prim.Native.Nat.{ℕ, zero, suc, ◌+◌, ◌*◌, ◌≤◌, ◌<◌}
use native.Mathlib.Omega.{arith}
use borrow.Author.Tests.{eq-eqb, ne_eqb}
use lib.ListN.{get_or}
use Rattle.lists.specs.Choice.{pick}
use Rattle.timing.specs.Kinds.{K}
use Rattle.timing.specs.Table.{Table, Edge, early, late, pin_count, test_count, period_of, pin_kind, pin_time, test_clock, test_data, test_setup, test_hold}
use Rattle.timing.specs.Structure.{kind, clock_pin, structure, times}
use Rattle.timing.specs.Clock.{common, clock_arrival, pin_credit}
use Rattle.timing.specs.Slack.{Mode, for_setup, for_hold, start_arrival}
use Rattle.timing.specs.Rows.{mode_of}
use Rattle.timing.specs.Value.{credit_from, raise, lower}
use Rattle.timing.proofs.Laws.Columns.{tests-is, kind-is, clock-is, data_is}
use Rattle.timing.proofs.Laws.Accepted.{accepted}
use Rattle.area.specs.Area.{arrivals_at}
use Rattle.clocks.specs.Clocked.{Clocked}
use Rattle.clocks.specs.Small.{few-pins, arrival-most}
use Rattle.clocks.specs.Known.{test-clock}

-- ---- the mode: 0 is setup, any other hold

pub mode-setup : (m : ℕ) → m ≡ 0 → mode_of m ≡ for_setup
unfolding mode_of
mode-setup m e = rw e

pub mode-hold : (m : ℕ) → m ≢ 0 → mode_of m ≡ for_hold
unfolding mode_of
mode-hold zero n = absurd (n refl)
mode-hold (suc m) n = refl

-- ---- credit and arrival of a start, from a K and from another

module _ (t : Table) (p : ℕ) (l : p < pin_count t) where
  pub credit-some : (m : Mode) (c : ℕ) → pin_kind t p ≡ K → credit_from m (structure t) (times t) c p ≡ pin_credit (structure t) (times t) (common (structure t) p c)
  unfolding credit_from pick
  credit-some m c e = rw (eq-eqb (kind (structure t) p) K (kind-is t p l ∙ e))

  pub credit-none : (m : Mode) (c : ℕ) → pin_kind t p ≢ K → credit_from m (structure t) (times t) c p ≡ 0
  unfolding credit_from pick
  credit-none m c n = rw (ne_eqb (kind (structure t) p) K (λ e. n (sym (kind-is t p l) ∙ e)))

  pub start-some : (e : Edge) → pin_kind t p ≡ K → start_arrival e (structure t) (times t) p ≡ clock_arrival e (structure t) (times t) p
  unfolding start_arrival pick
  start-some e k = rw (eq-eqb (kind (structure t) p) K (kind-is t p l ∙ k))

  pub start-own : (e : Edge) → pin_kind t p ≢ K → start_arrival e (structure t) (times t) p ≡ pin_time t e p
  unfolding start_arrival pick times
  start-own e n = rw (ne_eqb (kind (structure t) p) K (λ k. n (sym (kind-is t p l) ∙ k)))

-- ---- a test

module _ (t : Table) (w : List ℕ) (k : Clocked t w) (j : ℕ) (l : j < test_count t) where
  -- the arrival of its clock
  pub test-arrival : (e : Edge) (q : ℕ) → q ≡ test_clock t j → get_or w (arrivals_at e + q) 0 ≡ clock_arrival e (structure t) (times t) (clock_pin (structure t) j)
  test-arrival e q z =
      let p = test-clock t k.ready.checked j l in
      rw (z, clock-is t j l) (k.pins.arrival e (test_clock t j) p.inside p)

  pub clock-few : (q : ℕ) → q ≡ test_clock t j → q < 256
  clock-few q z = omega (arith, z, (test-clock t k.ready.checked j l).inside, few-pins t k.ready.checked)

  pub clock-most : (e : Edge) (q : ℕ) → q ≡ test_clock t j → get_or w (arrivals_at e + q) 0 ≤ 256000000
  clock-most e q z =
      let h = k.ready.checked in
      let p = test-clock t h j l in
      rw (z, k.pins.arrival e (test_clock t j) p.inside p) (arrival-most t h e (test_clock t j) p.inside)

  pub hold-most : test_hold t j ≤ 1000000
  unfolding times
  hold-most = (accepted t k.ready.checked).ranged.hold-most j (rw (tests-is t) l)

  pub raise-setup : (v q d : ℕ) → q ≡ test_clock t j → v ≡ get_or w (arrivals_at early + q) 0 → d ≡ period_of t → v + d ≡ raise for_setup (structure t) (times t) j
  unfolding raise times
  raise-setup v q d z e f = rw (e, f, test-arrival early q z)

  pub raise-hold : 0 ≡ raise for_hold (structure t) (times t) j
  unfolding raise
  raise-hold = refl

  pub lower-setup : (v d : ℕ) → v ≡ test_setup t j → d ≡ test_data t j * 1000000 → v + d + 256000000 ≡ lower for_setup (λ q. q) (structure t) (times t) j
  unfolding lower times
  lower-setup v d e f = rw (e, f, data_is t j l)

  pub lower-hold : (v q d : ℕ) → q ≡ test_clock t j → v ≡ get_or w (arrivals_at late + q) 0 → d ≡ test_hold t j → v + d ≡ lower for_hold (λ q. q) (structure t) (times t) j
  unfolding lower times
  lower-hold v q d z e f = rw (e, f, test-arrival late q z)
