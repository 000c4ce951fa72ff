-- The answer to an asking that is not refused: the list tells the first k paths, and their rows are the rows of the table.
-- Assumes nothing.
use Rattle.std.specs.Prelude.{◌≡◌, false, ◌||◌, ℕ, ◌*◌, ◌≤◌, ◌<◌, eqb, ltb, length, take, drop, replicate, Result, Ok, Err}
use Rattle.std.proofs.Math.Path.{sym}
use Rattle.std.proofs.Common.{ap, ap₂, ◌∙◌, mul-le-mul_right, arith, ltb-false, drop_of_length-le, length-take-le, get_or-take}
use mathlib.Core.List.{List, [], ◌∷◌, ◌++◌, append-nil}
use Rattle.std.proofs.Math.Option.{Option, none, some}
use Rattle.std.proofs.lemmas.Bool.{eqb-false}
use Rattle.std.proofs.Math.ListN.{get_or}
use Rattle.std.proofs.lemmas.List.{length-replicate}
use Rattle.std.proofs.Math.IntN.{ℤ}
use Rattle.lists.specs.Choice.{ground}
use Rattle.lists.specs.Parts.{below, each, gather, written}
use Rattle.lists.proofs.Laws.Cases.{or-none}
use Rattle.lists.proofs.Laws.Member.{in-below, in_take, each-cong, length-each}
use Rattle.lists.proofs.Laws.Pieces.{in_place, each-each, each-place}
use Rattle.lists.proofs.Laws.Ranking.{both_at}
use Rattle.lists.specs.Laws.Unmet.{Unmet}
use Rattle.lists.proofs.Laws.Unmet.{unmet-none, unmet-first, unmet-rest, unmet-left, unmet-right}
use Rattle.timing.specs.Limits.{most_k, work_length}
use Rattle.timing.specs.Table.{Table, pin_count, test_count}
use Rattle.timing.specs.Structure.{structure, times}
use Rattle.timing.specs.Paths.{Path, path}
use Rattle.timing.specs.Slack.{ranked}
use Rattle.timing.specs.Rows.{mode_of, row_length, row, first_paths, rows, total}
use Rattle.timing.specs.Check.{table_grounds, table_fault}
use Rattle.timing.specs.Asked.{asking_bad, room_bad, asking_grounds, asking_fault, table_rows, answer_of, answer, room_of, room_after, work_of, work_after}
use Rattle.timing.specs.declared.Answer.{Answer}
use Rattle.timing.specs.declared.Candidate.{Candidate}
use Rattle.timing.specs.declared.Refusal.{Refusal}
use Rattle.timing.specs.declared.Refusal.TheVariants.{ModeOrK, RowRoom}
use Rattle.timing.proofs.Laws.Order.{ranked-paths}
use Rattle.winners.specs.Held.{slack_in, Told, nobody}
use Rattle.winners.specs.Stored.{no_path}
use Rattle.winners.specs.Finding.{Won}
use Rattle.report.specs.Rowed.{walk_in, path_in, row_in, Tells, walk_is, row_is}
use Rattle.report.specs.Writing.{Writes, rows_in}

-- ---- what is asked and answered

-- an asking that is not refused: a checked table, k within its limits, room for k rows, and the work area
pub record Granted (t : Table) (k room work : ℕ) : Type 0 where
  pub checked : table_fault t ≡ none
  pub some : 0 < k
  pub few : k ≤ most_k
  pub places : k * row_length (pin_count t) ≤ room
  pub area : work_length ≤ work

-- rows given and total, the rows at the front of the room, and the work area all zero
pub record Answers (t : Table) (mode k : ℕ) (room₀ room : List ℤ) (work : List ℕ) (r : Answer) : Type 0 where
  pub told : r ≡ record { rows = length (table_rows t mode k); total = total (structure t) }
  pub rows-stand : room ≡ written (gather (λ (l : List ℤ). l) (table_rows t mode k)) room₀
  pub cleared : work ≡ replicate work_length 0

-- ---- laws

-- no ground is met
pub granted : (t : Table) (mode k room work : ℕ) → asking_fault t mode k room work ≡ none → Granted t k room work
unfolding asking_fault asking_grounds table_fault
granted t mode k room work h =
    let from15 = ground (room_bad (pin_count t) k room work) RowRoom ∷ [] in
    let from14 = ground (asking_bad mode k) ModeOrK ∷ from15 in
    let all = (unmet-none (table_grounds t ++ from14)).0 h in
    let r : Unmet from14 = unmet-right (table_grounds t) from14 all in
    let b14 : asking_bad mode k ≡ false = unmet-first (asking_bad mode k) ModeOrK from15 r in
    let b15 : room_bad (pin_count t) k room work ≡ false = unmet-first (room_bad (pin_count t) k room work) RowRoom [] (unmet-rest r) in
    let two = or-none (ltb room (k * row_length (pin_count t))) (ltb work work_length) b15 in
    let out = or-none (ltb 1 mode || eqb k 0) (ltb most_k k) b14 in
    let not_None = eqb-false k 0 (or-none (ltb 1 mode) (eqb k 0) out.0).1 in
    record {
      checked = (unmet-none (table_grounds t)).1 (unmet-left (table_grounds t) from14 all);
      some = omega arith;
      few = ltb-false most_k k out.1;
      places = ltb-false room (k * row_length (pin_count t)) two.0;
      area = ltb-false work work_length two.1;
    }

module _ (t : Table) (mode k : ℕ) (w : List ℕ) (list : List Candidate) (count : ℕ) (slots : List ℕ) (few : k ≤ most_k) (W : Won t mode k w list count slots) where
  -- the first k paths
  abbrev first : List Path
  first = first_paths (mode_of mode) (structure t) (times t) k

  long : work_length ≤ length w
  long = W.prepared.clocked.ready.room

  module _ (i : ℕ) (l : i < count) where
    -- the record at place i and its slot
    abbrev c : Candidate
    c = get_or list i nobody

    abbrev n : ℕ
    n = get_or slots i 0

    told : Told (slack_in t mode) (test_count t) W.serial c (get_or first i no_path)
    told =
        let H = W.holds in
        let e : length (take count list) ≡ count = length-take-le count list (omega (arith, H.places, H.counted, H.few)) in
        rw (get_or-take count list i nobody l) at (both_at (Told (slack_in t mode) (test_count t) W.serial) (take count list) first H.both i (rw e l) nobody no_path)

    inside : n < most_k
    inside = W.shelf.inside i (omega (arith, W.holds.counted, W.holds.few))

    walk : walk_in w n ≡ (get_or first i no_path).walk
    walk = walk_is w n (get_or first i no_path).walk long inside (W.stored i (omega (arith, W.holds.counted)))

    -- they tell the path at place i
    path-is : path_in w c n ≡ get_or first i no_path
    path-is = ap₂ path told.of walk

    tells_at : Tells t w c n
    unfolding first_paths
    tells_at =
        let m = mode_of mode in
        let R = ranked m (structure t) (times t) in
        record {
          inside = inside;
          stands = rw walk (W.stored i (omega (arith, W.holds.counted)));
          is-path = rw path-is (ranked-paths m (structure t) (times t) (get_or first i no_path) (in_take (get_or first i no_path) k R (in_place no_path first i (omega (arith, W.holds.counted)))));
        }

  -- there is room for their rows
  pub won-writes : (places : ℕ) → k * row_length (pin_count t) ≤ places → Writes t w list slots count places
  won-writes places r =
      let q : count ≤ k = omega (arith, W.holds.counted, W.holds.few) in
      record {
        clocked = W.prepared.clocked;
        few = omega arith;
        tells = tells_at;
        room = omega (arith, mul-le-mul_right (row_length (pin_count t)) q);
      }

  -- which are those of the table
  pub rows_are : rows_in t w list slots count ≡ table_rows t mode k
  unfolding rows_in table_rows rows
  rows_are =
      let m = mode_of mode in
      let f : Path → List ℤ = row m (structure t) (times t) in
      each-cong (λ (i : ℕ). row_in t w (get_or list i nobody) (get_or slots i 0)) (λ (i : ℕ). f (get_or first i no_path)) (below count)
      (λ i h. let l = in-below i count h in row_is t m w (c i l) (n i l) (get_or first i no_path) (path-is i l) (told i l).slack)
      ∙ sym (each-each f (λ (i : ℕ). get_or first i no_path) (below count))
      ∙ rw W.holds.counted (ap (each f) (each-place no_path first))

  -- as many as are given
  pub rows-count : count ≡ length (table_rows t mode k)
  unfolding table_rows rows
  rows-count = W.holds.counted ∙ sym (length-each (row (mode_of mode) (structure t) (times t)) first)

-- ---- the memory

-- zeros over the whole of a list
pub cleared-is : (n : ℕ) (w₀ w : List ℕ) → length w₀ ≡ n → w ≡ written (replicate n 0) w₀ → w ≡ replicate n 0
unfolding written
cleared-is n w₀ w l e =
    let zeros : List ℕ = replicate n 0 in
    let d : drop (length zeros) w₀ ≡ [] = drop_of_length-le w₀ {i = length zeros} (omega (arith, length-replicate {A = ℕ} n 0)) in
    e ∙ ap (λ (r : List ℕ). zeros ++ r) d ∙ append-nil zeros

-- and over the front of a longer one
front-cleared : (n : ℕ) (w y : List ℕ) → y ≡ replicate n 0 → y ++ drop n w ≡ written (replicate n 0) w
unfolding written
front-cleared n w y e = ap₂ (λ (a : List ℕ) (m : ℕ). a ++ drop m w) e (sym (length-replicate n 0))

module _ (t : Table) (mode k : ℕ) (room : List ℤ) (work : List ℕ) where
  -- a refusal: nothing is written
  pub refused_all : (r : Refusal) → asking_fault t mode k (length room) (length work) ≡ some r
      → (Err r ≡ answer t mode k (length room) (length work)) × (room ≡ room_after t mode k room (length work)) × (work ≡ work_after t mode k (length room) work)
  unfolding answer answer_of room_after room_of work_after work_of
  refused_all r h = (
    sym (ap (λ (o : Option Refusal). answer_of o t mode k) h),
    sym (ap (λ (o : Option Refusal). room_of o t mode k room) h),
    sym (ap (λ (o : Option Refusal). work_of o work) h),
  )

  -- an answer
  pub given-all : (r : Answer) (room' : List ℤ) (y : List ℕ) → asking_fault t mode k (length room) (length work) ≡ none → Answers t mode k room room' y r
      → (Ok r ≡ answer t mode k (length room) (length work)) × (room' ≡ room_after t mode k room (length work))
      × (y ++ drop work_length work ≡ work_after t mode k (length room) work)
  unfolding answer answer_of room_after room_of work_after work_of
  given-all r room' y h a = (
    ap Ok a.told ∙ sym (ap (λ (o : Option Refusal). answer_of o t mode k) h),
    a.rows-stand ∙ sym (ap (λ (o : Option Refusal). room_of o t mode k room) h),
    front-cleared work_length work y a.cleared ∙ sym (ap (λ (o : Option Refusal). work_of o work) h),
  )

  -- the contract decides the answer, the room and the work area
  pub ask-decides : (r s : Result Answer Refusal) (x y : List ℤ) (u v : List ℕ)
      → (r ≡ answer t mode k (length room) (length work)) × (x ≡ room_after t mode k room (length work)) × (u ≡ work_after t mode k (length room) work)
      → (s ≡ answer t mode k (length room) (length work)) × (y ≡ room_after t mode k room (length work)) × (v ≡ work_after t mode k (length room) work)
      → (r ≡ s) × (x ≡ y) × (u ≡ v)
  ask-decides r s x y u v e f = (e.0 ∙ sym f.0, e.1 ∙ sym f.1, e.2 ∙ sym f.2)
