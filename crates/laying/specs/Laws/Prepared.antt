-- What each step leaves of the work area: the arcs and the clock side stay, the seeds are laid.
-- Assumes nothing.
use Rattle.std.specs.Prelude.{◌≡◌, List, length, get_or, drop}
use Rattle.std.proofs.Common.{sym, ap, ◌∙◌, arith, length-drop, ext_get_or}
use Rattle.std.proofs.Math.Path.{subst}
use Rattle.std.proofs.Math.Option.{none}
use Prim.Native.Nat.{ℕ, ◌+◌, ◌-◌, ◌≤◌, ◌<◌, min}
use Rattle.std.proofs.Math.ListN.{length-take}
use Rattle.lists.specs.Choice.{pick}
use Rattle.timing.specs.Table.{Table, pin_count, test_count, test_clock}
use Rattle.timing.specs.Structure.{pins, tests, leaves, enters, clock_pin, structure, times}
use Rattle.timing.specs.Paths.{is_start}
use Rattle.timing.specs.Value.{weight_of, seed_of, value_of}
use Rattle.timing.specs.Rows.{mode_of}
use Rattle.timing.specs.Check.{table_fault}
use Rattle.timing.proofs.Laws.Accepted.{accepted, accepted-level}
use Rattle.timing.proofs.Laws.Columns.{pins-is, arcs-is, tests-is, clock-is}
use Rattle.timing.proofs.Laws.Valued.{value-most}
use Rattle.clocks.specs.Clocked.{ClockPin, Clocked, Based, Seeded, seed_for}
use Rattle.clocks.specs.Kept.{clocked-same, clocked-behind, based-same}
use Rattle.clocks.specs.Known.{test-clock}
use Rattle.clocks.specs.Small.{seed-small}
use Rattle.area.specs.Area.{Kept, plan, plan_length, arcs_at, seeds_at, counts_at, clocks_at, bases_at, turns_at}
use Rattle.arcs.specs.Laid.{Ordered, Arcs, Small, Laid, Ready}
use Rattle.arcs.specs.Sorting.{weighing}
use Rattle.area.specs.Laws.Plan.{plan-at}
use Rattle.arcs.specs.Laws.Kept.{arcs-same, seeds-are}
use Rattle.laying.specs.Standing.{level, test_seed, Prepared, Sown}

-- the plan stands before the counts
pub plan-same : (w v : List ℕ) → length v ≡ length w → ((i : ℕ) → i < counts_at → get_or v i 0 ≡ get_or w i 0) → plan v ≡ plan w
plan-same w v n same =
    ext_get_or 0 (plan v) (plan w) same_length
    (λ i l. let h : i < plan_length = omega (arith, short v, l) in plan-at v i h ∙ same (arcs_at + i) (omega arith) ∙ sym (plan-at w i h))
  where
    same_length : length (plan v) ≡ length (plan w)
    same_length = unfold plan in simp (length-take, length-drop) (ap (λ (n : ℕ). min plan_length (n - arcs_at)) n)

    short : (u : List ℕ) → length (plan u) ≤ plan_length
    short u = unfold plan in omega (arith, length-take plan_length (drop arcs_at u))

module _ (t : Table) (h : table_fault t ≡ none) where
  pub few-pins : pins (structure t) ≤ 256
  few-pins = (accepted t h).sound.few-pins

  ordered : Ordered (structure t)
  ordered =
      record {
        few-pins = few-pins;
        few-arcs = rw (arcs-is t) (accepted t h).header.few-arcs;
        up = λ a l. subst (λ (f : ℕ → ℕ). f (leaves (structure t) a) < f (enters (structure t) a)) (accepted-level t h) ((accepted t h).sound.rises a l);
      }

module _ (t : Table) (mode : ℕ) where
  -- the clock side and the bases are written behind the arcs
  pub clocks-prepared : (w u v : List ℕ) → Arcs (structure t) (weighing t mode) (plan w) → Clocked t u → Kept clocks_at turns_at w u → Based (mode_of mode) t v → Kept bases_at turns_at u v
      → Prepared t mode v
  clocks-prepared w u v a c k b l =
      record {
        clocked = clocked-behind t bases_at turns_at u v (omega arith) l c;
        based = b;
        by-arcs = arcs-same (structure t) (weighing t mode) (plan v) (plan w) (few-pins t c.ready.checked)
            (λ i h.
            plan-at v i (omega arith) ∙ l.front (arcs_at + i) (omega arith) ∙ k.front (arcs_at + i) (omega arith) ∙ sym (plan-at w i (omega arith)))
            a;
      }

  -- they stay where nothing is written there
  pub prepared-same : (w v : List ℕ) → length v ≡ length w → ((i : ℕ) → arcs_at ≤ i → i < seeds_at → get_or v i 0 ≡ get_or w i 0)
      → ((i : ℕ) → clocks_at ≤ i → i < turns_at → get_or v i 0 ≡ get_or w i 0) → Prepared t mode w → Prepared t mode v
  prepared-same w v n arcs clocks p =
      let h = p.clocked.ready.checked in
      record {
        clocked = clocked-same t w v n clocks p.clocked;
        based = based-same (mode_of mode) t w v h (λ i a b. clocks i (omega arith) b) p.based;
        by-arcs = arcs-same (structure t) (weighing t mode) (plan v) (plan w) (few-pins t h)
            (λ i l. plan-at v i (omega arith) ∙ arcs (arcs_at + i) (omega arith) (omega arith) ∙ sym (plan-at w i (omega arith)))
            p.by-arcs;
      }

  -- seeds are written between the arcs and the clock side
  pub seeds-prepared : (w v : List ℕ) → Prepared t mode w → Kept seeds_at clocks_at w v → Prepared t mode v
  seeds-prepared w v p k = prepared-same w v k.long (λ i a b. k.front i b) (λ i a b. k.back i a) p

  -- the seeds of clock pin y make the area laid, where no value against y is large
  pub seeds-laid : (y : ℕ) → ClockPin t y → Small (structure t) (weighing t mode) (seed_of (mode_of mode) level (structure t) (times t) y) → (w : List ℕ) → Prepared t mode w
      → Seeded (mode_of mode) t y (pin_count t) w → Laid (structure t) (weighing t mode) (seed_of (mode_of mode) level (structure t) (times t) y) (plan w)
  unfolding seed_for is_start pick
  seeds-laid y c f w p s =
      let h = p.clocked.ready.checked in
      record {
        ordered = ordered t h;
        by-arcs = p.by-arcs;
        by-seeds = seeds-are (structure t) (seed_of (mode_of mode) level (structure t) (times t) y) w (few-pins t h)
            (λ q k b. let i : q < pin_count t = rw (pins-is t) at k in (s.seed q i ∙ rw b, seed-small t h (mode_of mode) y q c i))
            (λ q k b. let i : q < pin_count t = rw (pins-is t) at k in s.seed q i ∙ rw b);
        small = f;
      }

  module _ (j : ℕ) (l : j < test_count t) where
    -- no value of a test is large
    pub test-small : table_fault t ≡ none → Small (structure t) (weighing t mode) (test_seed t mode j)
    unfolding weighing
    test-small h p w k i =
        let s = structure t in
        let x = times t in
        let m = mode_of mode in
        let c = clock_pin s j in
        let a = accepted t h in
        let d : j < tests s = rw (tests-is t) l in
        subst (λ (f : ℕ → ℕ). value_of s (weight_of m f s x) (seed_of m f s x c) w < 1073741824) (accepted-level t h)
        (value-most s a.sound x a.ranged m c p (a.sound.clock-in j d) (a.sound.clock-kind j d) k w i)

    pub sown : (w v : List ℕ) → Prepared t mode w → Kept seeds_at clocks_at w v → Seeded (mode_of mode) t (test_clock t j) (pin_count t) v → Sown t mode j v
    sown w v p k s =
        let q = seeds-prepared w v p k in
        let h = q.clocked.ready.checked in
        let e : clock_pin (structure t) j ≡ test_clock t j = clock-is t j l in
        record { prepared = q; laid = seeds-laid (clock_pin (structure t) j) (rw e (test-clock t h j l)) (test-small h) v q (rw e s) }

  -- the rows of the first n pins can be made
  pub laid-ready : (seed : ℕ → ℕ) (w : List ℕ) → Prepared t mode w → Laid (structure t) (weighing t mode) seed (plan w) → (n : ℕ) → n ≤ pin_count t → Ready w n
  laid-ready seed w p l n k =
      record {
        of = structure t;
        weight = weighing t mode;
        seed = seed;
        laid = l;
        size = rw (pins-is t) k;
        long = omega (arith, p.clocked.ready.room);
      }
