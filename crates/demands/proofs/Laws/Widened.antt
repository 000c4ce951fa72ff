-- From the contract of the asking to demand 3: two tables of the same structure, number by number, and the slack of a rank in the room.
-- Assumes nothing.
use Rattle.std.specs.Prelude.{◌≡◌, ◌⊎◌, List, [], ℕ, ◌-◌, ◌*◌, ◌<◌, length, get_or, take, drop, ℤ, pos, ◌+ℤ◌, ◌≤ℤ◌}
use Rattle.std.proofs.Common.{sym, ap, ◌∙◌, add-zero, arith, get_or-take, get_or-drop}
use Rattle.std.proofs.Math.Option.{none}
use Rattle.lists.specs.Parts.{below, each}
use Rattle.lists.proofs.Laws.Member.{in-below, each-cong}
use Rattle.lists.proofs.Laws.Column.{column-at}
use Rattle.lists.proofs.Laws.Sum.{sum-plus}
use Rattle.lists.proofs.Laws.Integer.{within-le, within-plus}
use Rattle.timing.specs.Kinds.{R, I}
use Rattle.timing.specs.Table.{Table, pin_count, arc_count, test_count, early, late, pin_kind, pin_time, arc_from, arc_to, arc_time, test_clock, test_data, test_setup, test_hold}
use Rattle.timing.specs.Structure.{pins, kind, structure, times}
use Rattle.timing.specs.Rows.{mode_of, row_length, rows}
use Rattle.timing.specs.Check.{table_fault}
use Rattle.timing.specs.Asked.{table_rows}
use Rattle.timing.proofs.Laws.Columns.{pins-is, arcs-is, tests-is, kind-is}
use Rattle.timing.proofs.Laws.Accepted.{accepted}
use Rattle.timing.specs.Laws.Ranged.{Ranged}
use Rattle.timing.specs.Laws.Wider.{Wider as WiderTimes, above, moved as moved_times}
use Rattle.timing.proofs.Laws.Wider.{ranked-falls, ranked-near}
use Rattle.timing.specs.Laws.Written.{slack_at as slack_of_row}
use Rattle.timing.proofs.Laws.Written.{rows_both}
use Rattle.printing.specs.Room.{room_rows}
use Rattle.demands.specs.Definitions.{Answered}
use Rattle.demands.specs.Wider.{SameStructure, Wider, moved}
use Rattle.demands.specs.Laws.Granted.{Granted}

-- ---- the same structure

column : (f g : ℕ → ℕ) (n m : ℕ) → n ≡ m → ((i : ℕ) → i < n → f i ≡ g i) → each f (below n) ≡ each g (below m)
column f g n m e h = rw (← e) (each-cong f g (below n) (λ i k. h i (in-below i n k)))

pub same-structure : (t u : Table) → SameStructure t u → structure t ≡ structure u
unfolding structure
same-structure t u h =
    λ i. record {
      kinds = column (pin_kind t) (pin_kind u) (pin_count t) (pin_count u) h.pins h.kinds i;
      froms = column (arc_from t) (arc_from u) (arc_count t) (arc_count u) h.arcs h.froms i;
      tos = column (arc_to t) (arc_to u) (arc_count t) (arc_count u) h.arcs h.tos i;
      clocks = column (test_clock t) (test_clock u) (test_count t) (test_count u) h.tests h.clocks i;
      datas = column (test_data t) (test_data u) (test_count t) (test_count u) h.tests h.datas i;
    }

-- ---- wider, and by how much
pub wider-times : (t u : Table) → Wider t u → WiderTimes (structure t) (times t) (times u)
unfolding times
wider-times t u w =
    record {
      pin-early = λ p l k. (w.arrivals p (pin p l) (kinds p l k)).0;
      pin-late = λ p l k. (w.arrivals p (pin p l) (kinds p l k)).1;
      arc-early = λ a l. (w.delays a (rw (arcs-is t) at l)).0;
      arc-late = λ a l. (w.delays a (rw (arcs-is t) at l)).1;
      setups = λ j l. w.setups j (rw (tests-is t) at l);
      holds = λ j l. w.holds j (rw (tests-is t) at l);
      shorter = w.period;
    }
  where
    pin : (p : ℕ) → p < pins (structure t) → p < pin_count t
    pin p l = rw (pins-is t) at l

    kinds : (p : ℕ) → p < pins (structure t) → (kind (structure t) p ≡ R) ⊎ (kind (structure t) p ≡ I) → (pin_kind t p ≡ R) ⊎ (pin_kind t p ≡ I)
    kinds p l k = rw (kind-is t p (pin p l)) at k

pub moved-is : (t u : Table) → moved_times (structure t) (times t) (times u) ≡ moved t u
unfolding moved_times moved above times
moved-is t u =
    rw (pins-is t, arcs-is t, tests-is t)
    (omega (
      arith,
      sum-plus (λ (p : ℕ). pin_time t early p - pin_time u early p) (λ (p : ℕ). pin_time u late p - pin_time t late p) (below (pin_count t)),
      sum-plus (λ (a : ℕ). arc_time t early a - arc_time u early a) (λ (a : ℕ). arc_time u late a - arc_time t late a) (below (arc_count t)),
      sum-plus (λ (j : ℕ). test_setup u j - test_setup t j) (λ (j : ℕ). test_hold u j - test_hold t j) (below (test_count t)),
    ))

-- the rows of the two tables
pub rows-move : (t u : Table) → table_fault t ≡ none → table_fault u ≡ none → structure t ≡ structure u → WiderTimes (structure t) (times t) (times u)
    → (mode k : ℕ)
    → (length (table_rows t mode k) ≡ length (table_rows u mode k))
    × ((r : ℕ) → r < length (table_rows t mode k)
    → (slack_of_row (table_rows u mode k) r ≤ℤ slack_of_row (table_rows t mode k) r)
    × (slack_of_row (table_rows t mode k) r ≤ℤ (slack_of_row (table_rows u mode k) r +ℤ pos (moved_times (structure t) (times t) (times u)))))
unfolding table_rows
rows-move t u ft fu e w mode k =
    let m = mode_of mode in
    let s = structure t in
    let x = times t in
    let y = times u in
    let ok = (accepted t ft).sound in
    let rx = (accepted t ft).ranged in
    let ry : Ranged s y = rw e (accepted u fu).ranged in
    let down = rows_both m s y x k 0 (ranked-falls s ok x y rx ry w m) in
    let near = rows_both m s x y k (moved_times s x y) (ranked-near s ok x y rx ry w m) in
    let same : length (rows m s x k) ≡ length (rows m s y k) = near.0 in
    rw (← e) (
      same,
      λ r l. (
        within-le (slack_of_row (rows m s y k) r) (slack_of_row (rows m s x k) r) (down.1 r (rw (← same) l)),
        within-plus (moved_times s x y) (slack_of_row (rows m s x k) r) (slack_of_row (rows m s y k) r) (near.1 r l),
      ),
    )

-- ---- the slack of a rank
pub slack-place : (t : Table) (mode k : ℕ) (a : Answered t mode k) → Granted t mode k a → (r : ℕ) → r < a.rows
    → get_or a.room' (r * row_length (pin_count t)) (pos 0) ≡ slack_of_row (table_rows t mode k) r
unfolding slack_of_row room_rows
slack-place t mode k a g r h =
    let w = row_length (pin_count t) in
    let row : ℕ → List ℤ = λ i. take w (drop (i * w) a.room') in
    sym
    (ap (λ (l : List (List ℤ)). get_or (get_or l r []) 0 (pos 0)) (sym g.stand)
    ∙ ap (λ (l : List ℤ). get_or l 0 (pos 0)) (column-at row [] a.rows r h)
    ∙ get_or-take w (drop (r * w) a.room') 0 (pos 0) (omega arith)
    ∙ get_or-drop (r * w) a.room' 0 (pos 0)
    ∙ ap (λ (n : ℕ). get_or a.room' n (pos 0)) (add-zero (r * w)))
