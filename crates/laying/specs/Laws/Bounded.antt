-- Bounds for all tests from one pass. What a start has in common with a pin that is on the clock route of a test, it has in common with the test's clock pin,
-- and credits grow down the tree; so values against such a pin are at most those against the clock pin. The least value against a pin that is on all routes gives
-- each test a bound. Its own least value is a bound too, and a closer one.
-- Assumes nothing.
use Rattle.std.specs.Prelude.{◌≡◌, ℕ, ◌+◌, ◌≤◌, ◌<◌, get_or}
use Rattle.std.proofs.Common.{sym, subst, arith}
use mathlib.Core.List.{List, []}
use Rattle.std.proofs.Math.Option.{none}
use Rattle.std.proofs.Math.Decide.{dec_lt}
use Rattle.lists.specs.Laws.Member.{In}
use Rattle.lists.proofs.Laws.Pieces.{in_place}
use Rattle.timing.specs.Table.{Table, pin_count, test_count, test_clock, test_data}
use Rattle.timing.specs.Structure.{pins, tests, clock_pin, data_pin, structure, times}
use Rattle.timing.specs.Paths.{walks}
use Rattle.timing.specs.Value.{value, value_of, seed_of}
use Rattle.timing.specs.Rows.{mode_of}
use Rattle.timing.specs.Check.{table_fault}
use Rattle.timing.proofs.Laws.Routes.{common-on, self-route}
use Rattle.timing.proofs.Laws.Accepted.{accepted, accepted-level}
use Rattle.timing.proofs.Laws.Columns.{pins-is, tests-is, clock-is, data_is}
use Rattle.timing.proofs.Laws.Counted.{walks_some}
use Rattle.timing.proofs.Laws.Walked.{walks-sound}
use Rattle.timing.proofs.Laws.Least.{route-up, value-above}
use Rattle.area.specs.Area.{Kept, plan, seeds_at, clocks_at}
use Rattle.clocks.specs.Clocked.{ClockPin, Common, Seeded}
use Rattle.clocks.specs.Known.{test-clock}
use Rattle.arcs.specs.Laid as sorted
use Rattle.arcs.specs.Sorting.{weighing}
use Rattle.walker.specs.Cursors.{Lower, least_at}
use Rattle.walker.specs.Leasts.{Laid, AllLeasts}
use Rattle.walker.specs.Laws.Least.{lower-walk}
use Rattle.laying.specs.Standing.{level, test_seed, Prepared, Walks}
use Rattle.laying.specs.Bounds.{Bounds, Above, Shared}
use Rattle.laying.specs.Laws.Prepared.{test-small, seeds-prepared, seeds-laid}
use Rattle.laying.specs.Laws.Laid.{planned-of, laid_of, prepared-beside}
use Rattle.laying.specs.Laws.Totals.{data-other}

-- ---- a pin on all clock routes

module _ (t : Table) (h : table_fault t ≡ none) where
  -- the clock pin of the first test is on its own route
  pub above-first : 0 < test_count t → (y : ℕ) → y ≡ test_clock t 0 → Above t 1 y
  above-first l y e =
      record {
        pin = rw e (test-clock t h 0 l);
        above = λ j k.
            let z : j ≡ 0 = omega arith in
            rw (z, clock-is t 0 l, e) (self-route (structure t) (test_clock t 0));
      }

  -- the pin in common with one more
  pub above_more : (n y c z : ℕ) → n < test_count t → c ≡ test_clock t n → Above t n y → Common t y c z → Above t (n + 1) z
  above_more n y c z l e a k =
      let s = structure t in
      let ok = (accepted t h).sound in
      let kc : ClockPin t c = rw e (test-clock t h n l) in
      let on = common-on s ok y c (rw (pins-is t) a.pin.inside) (rw (pins-is t) kc.inside) a.pin.clock kc.clock in
      record {
        pin = k.pin;
        above = λ j m. elim (dec_lt j n) [
          | yes q ↦ route-up s ok z y (clock_pin s j) (ok.clock-in j (rw (tests-is t) (omega arith))) (a.above j q) (rw k.is on.0)
          | no q ↦
              let i : j ≡ n = omega arith in
              rw (i, clock-is t n l, ← e, k.is) on.1
        ];
      }

  module _ (mode y : ℕ) (a : Above t (test_count t) y) where
    -- values against it are at most those of each test
    value-shared : (j : ℕ) → j < test_count t → (v : ℕ) (w : List ℕ) → In w (walks (structure t) v)
        → value (mode_of mode) level (structure t) (times t) y w ≤ value (mode_of mode) level (structure t) (times t) (clock_pin (structure t) j) w
    value-shared j l v w i =
        let s = structure t in
        let x = times t in
        let m = mode_of mode in
        let c = clock_pin s j in
        let b = accepted t h in
        let d : j < tests s = rw (tests-is t) l in
        subst (λ (f : ℕ → ℕ). value m f s x y w ≤ value m f s x c w) (accepted-level t h)
        (value-above s b.sound x b.ranged m y c v (b.sound.clock-in j d) (b.sound.clock-kind j d) (a.above j l) w i)

    shared-small : 0 < test_count t → sorted.Small (structure t) (weighing t mode) (seed_of (mode_of mode) level (structure t) (times t) y)
    unfolding weighing
    shared-small l v w k i = omega (arith, value-shared 0 l v w i, test-small t mode 0 l h v w k i)

  -- ---- a number that is at most each value is a bound

  pub bounds_of : (mode j : ℕ) → j < test_count t → (n : ℕ)
      → ((u : List ℕ) → In u (walks (structure t) (data_pin (structure t) j)) → n ≤ value (mode_of mode) level (structure t) (times t) (clock_pin (structure t) j) u) → Bounds t mode j n
  unfolding weighing
  bounds_of mode j l n f =
      let S = structure t in
      let ok = (accepted t h).sound in
      let d : j < tests S = rw (tests-is t) l in
      let W = walks S (data_pin S j) in
      let i : In (get_or W 0 []) W = in_place [] W 0 (walks_some S ok (data_pin S j) (ok.data-in j d) (ok.data-kind j d)) in
      record { small = omega (arith, f (get_or W 0 []) i, test-small t mode j l h (data_pin S j) (get_or W 0 []) (ok.data-in j d) i); least = f }

  -- the least value at a test's data pin is at most the value of each of its walks, whatever the seeds
  pub least-walks : (mode j : ℕ) → j < test_count t → (seed f : ℕ → ℕ) → Lower (structure t) (weighing t mode) seed f
      → (u : List ℕ) → In u (walks (structure t) (data_pin (structure t) j)) → f (test_data t j) ≤ value_of (structure t) (weighing t mode) seed u
  unfolding walks
  least-walks mode j l seed f L u i =
      let S = structure t in
      rw (← data_is t j l)
      (lower-walk S (weighing t mode) seed (accepted t h).sound.from_in f L (data_pin S j) u (rw (data_is t j l) (data-other t h j l)) (walks-sound S (pins S) (data_pin S j) u i))

-- ---- the least values against it

module _ (t : Table) (mode y : ℕ) (w v : List ℕ) (p : Prepared t mode w) (l : 0 < test_count t) (a : Above t (test_count t) y) (k : Kept seeds_at clocks_at w v)
    (s : Seeded (mode_of mode) t y (pin_count t) v) where
  shared-laid : sorted.Laid (structure t) (weighing t mode) (seed_of (mode_of mode) level (structure t) (times t) y) (plan v)
  shared-laid = seeds-laid t mode y a.pin (shared-small t p.clocked.ready.checked mode y a l) v (seeds-prepared t mode w v p k) s

  pub shared-ready : Laid v (pin_count t)
  shared-ready = laid_of t mode (seed_of (mode_of mode) level (structure t) (times t) y) v (seeds-prepared t mode w v p k) shared-laid

  -- they are bounds
  pub shared-bounds : (u : List ℕ) → AllLeasts v u (pin_count t) → Shared t mode u
  unfolding weighing
  shared-bounds u r =
      let S = structure t in
      let q = seeds-prepared t mode w v p k in
      let h = p.clocked.ready.checked in
      let seed = seed_of (mode_of mode) level S (times t) y in
      let L = r.lower S (weighing t mode) seed (planned-of t mode seed v q shared-laid) (sym (pins-is t)) in
      record {
        prepared = prepared-beside t mode v u r.beside q;
        bounds = λ j i.
            bounds_of t h mode j i (least_at u (test_data t j))
            (λ b n. omega (arith, least-walks t h mode j i seed (least_at u) L b n, value-shared t h mode y a j i (data_pin S j) b n));
      }

-- ---- the least values of a test by its own seeds

pub own-bounds : (t : Table) (mode j : ℕ) (w : List ℕ) → Walks t mode j w → Bounds t mode j (least_at w (test_data t j))
unfolding weighing
own-bounds t mode j w k =
    let h = k.sown.prepared.clocked.ready.checked in
    bounds_of t h mode j k.test (least_at w (test_data t j)) (least-walks t h mode j k.test (test_seed t mode j) (least_at w) k.lower)
