-- The total, from what is counted at the data pins of the tests.
-- Assumes nothing.
use Rattle.std.specs.Prelude.{◌≡◌, false, List, length, get_or}
use Rattle.std.proofs.Common.{sym, ◌∙◌, arith, get_or-take, get_or-drop}
use Rattle.std.proofs.Math.Path.{ap}
use Rattle.std.proofs.Math.Option.{none}
use Prim.Native.Nat.{ℕ, ◌+◌, ◌-◌, ◌≤◌, ◌<◌, min}
use Rattle.lists.proofs.Laws.Member.{length-each}
use Rattle.lists.specs.Laws.Count.{count_to}
use Rattle.lists.proofs.Laws.Count.{count_to-none, count_to-gather}
use Rattle.timing.specs.Limits.{most_total}
use Rattle.timing.specs.Table.{Table, pin_count, test_count, test_data}
use Rattle.timing.specs.Structure.{tests, data_pin, structure}
use Rattle.timing.specs.Paths.{is_start, walks, test_paths, paths, path}
use Rattle.timing.specs.Rows.{total}
use Rattle.timing.specs.Check.{table_fault}
use Rattle.timing.proofs.Laws.Accepted.{accepted}
use Rattle.timing.proofs.Laws.Columns.{pins-is, tests-is, data_is}
use Rattle.timing.proofs.Laws.Counted.{total-capped}
use Rattle.clocks.specs.Known.{test-data}
use Rattle.area.specs.Area.{counts_at, clocks_at}
use Rattle.arcs.specs.Counting.{Counted}
use Rattle.arcs.specs.Sorting.{weighing}
use Rattle.laying.specs.Standing.{test_seed, Prepared, Sown}
use Rattle.laying.specs.Bounds.{count_at}
use Rattle.laying.specs.Laws.Prepared.{prepared-same}

module _ (t : Table) where
  -- a test's data pin is no start
  pub data-other : table_fault t ≡ none → (j : ℕ) → j < test_count t → is_start (structure t) (test_data t j) ≡ false
  unfolding is_start
  data-other h j l =
      let d : j < tests (structure t) = rw (tests-is t) l in
      rw (sym (data_is t j l), (accepted t h).sound.data-kind j d)

  -- with no test there is no path
  pub total-none : test_count t ≡ 0 → 0 ≡ total (structure t)
  total-none e =
      let z : tests (structure t) ≡ 0 = tests-is t ∙ e in
      sym (count_to-none most_total (λ (j : ℕ). min most_total (length (walks (structure t) (data_pin (structure t) j))))) ∙ rw z at (total-capped (structure t))

  module _ (mode j : ℕ) (w v : List ℕ) (p : Sown t mode j w) (c : Counted w v (pin_count t)) where
    -- the counts are written between the arcs and the clock side
    pub counts-prepared : length v ≡ length w → Prepared t mode v
    counts-prepared n = prepared-same t mode w v n (λ i h l. before i (omega arith)) (λ i h l. behind i h) p.prepared
      where
        before : (i : ℕ) → i < counts_at → get_or v i 0 ≡ get_or w i 0
        before i l = sym (get_or-take counts_at v i 0 l) ∙ ap (λ (a : List ℕ). get_or a i 0) c.front ∙ get_or-take counts_at w i 0 l

        behind : (i : ℕ) → clocks_at ≤ i → get_or v i 0 ≡ get_or w i 0
        behind i h =
            let q : clocks_at + (i - clocks_at) ≡ i = omega arith in
            ap (λ (j : ℕ). get_or v j 0) (sym q) ∙ sym (get_or-drop clocks_at v (i - clocks_at) 0)
            ∙ ap (λ (a : List ℕ). get_or a (i - clocks_at) 0) c.back
            ∙ get_or-drop clocks_at w (i - clocks_at) 0 ∙ ap (λ (j : ℕ). get_or w j 0) q

    -- the counts of all tests, whatever test is laid: a count knows no seed
    pub counts-total : count_to most_total (count_at t v) (test_count t) ≡ total (structure t)
    unfolding total paths test_paths
    counts-total =
        let s = structure t in
        let h = p.prepared.clocked.ready.checked in
        count_to-gather most_total (count_at t v) (test_paths s) (test_count t)
        (λ i l.
        let k : test_data t i < pin_count t = test-data t h i l in
        c.walks s (weighing t mode) (test_seed t mode j) p.laid (test_data t i) k (rw (pins-is t) k) (data-other h i l)
        ∙ ap (λ (q : ℕ). min most_total (length (walks s q))) (sym (data_is t i l))
        ∙ ap (min most_total) (sym (length-each (path i) (walks s (data_pin s i)))))
        ∙ rw (sym (tests-is t))
