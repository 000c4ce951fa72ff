-- One row: what is asked of the work area, and what it tells.
--
-- A record has the slack and the test of a path, its slot the walk. The walk's last arc leaves the start, start and clock pin give the credit: that is the row.
-- Assumes nothing.
use Rattle.std.specs.Prelude.{◌≡◌, refl, List, [], ◌∷◌, ℕ, suc, ◌+◌, ◌-◌, ◌≤◌, ◌<◌, length, take, drop, ℤ}
use Rattle.std.proofs.Math.Path.{sym, ap}
use Rattle.std.proofs.Common.{◌∙◌, not-suc-le-zero, get_or-take, get_or-drop, ext_get_or}
use Rattle.std.proofs.Math.Option.{none}
use native.Mathlib.Omega.{arith}
use Rattle.std.proofs.Math.ListN.{get_or}
use Rattle.lists.specs.Parts.{last}
use Rattle.lists.specs.Laws.Member.{In}
use Rattle.lists.proofs.Laws.Pieces.{in_place}
use Rattle.timing.specs.Limits.{most_k, work_length}
use Rattle.timing.specs.Table.{Table, pin_count, test_count, arc_from, test_clock}
use Rattle.timing.specs.Structure.{Structure, data_pin, structure, times}
use Rattle.timing.specs.Paths.{Path, path, start, paths}
use Rattle.timing.specs.Slack.{Mode, for_setup, path_credit, slack}
use Rattle.timing.specs.Value.{credit_from}
use Rattle.timing.specs.Rows.{row_length, row}
use Rattle.timing.specs.Check.{table_fault}
use Rattle.timing.specs.declared.Candidate.{Candidate}
use Rattle.timing.specs.Laws.Sound.{Sound}
use Rattle.timing.proofs.Laws.Accepted.{accepted}
use Rattle.timing.proofs.Laws.Columns.{pins-is, arcs-is, tests-is, leaves-is, clock-is}
use Rattle.timing.specs.Laws.Walked.{Walk}
use Rattle.timing.proofs.Laws.Walked.{last-arc, walk-rises, walk-arcs}
use Rattle.timing.specs.Laws.Listed.{IsPath}
use Rattle.timing.proofs.Laws.Listed.{in-paths}
use Rattle.area.specs.Area.{slot_at}
use Rattle.clocks.specs.Clocked.{Clocked, Asks, Credited}
use Rattle.clocks.specs.Known.{test-clock}
use Rattle.clocks.specs.Small.{credit-most}
use Rattle.walker.specs.Slots.{Stands}
use Rattle.report.specs.Row.{signed, head_length, arc_places, row_of, Puts, walk-length}

-- the walk in slot n
unfoldable pub walk_in : List ℕ → ℕ → List ℕ
walk_in w n = take (get_or w (slot_at n) 0) (drop (slot_at n + 1) w)

-- the path of a record whose walk stands there
abbrev pub path_in : List ℕ → Candidate → ℕ → Path
path_in w c n = path c.test (walk_in w n)

-- its row, with the slack of the record; the credit is the same in both modes
unfoldable pub row_in : Table → List ℕ → Candidate → ℕ → List ℤ
row_in t w c n =
    row_of (pin_count t) c.slack (path_credit for_setup (structure t) (times t) (path_in w c n)) c.test (start (structure t) (path_in w c n)) (walk_in w n)

-- record and slot tell a path of the table
pub record Tells (t : Table) (w : List ℕ) (c : Candidate) (n : ℕ) : Type 0 where
  pub inside : n < most_k
  pub stands : Stands w n (walk_in w n)
  pub is-path : In (path_in w c n) (paths (structure t))

-- and its row has its places
pub record Rowed (t : Table) (w : List ℕ) (c : Candidate) (n places : ℕ) : Type 0 where
  pub clocked : Clocked t w
  pub tells : Tells t w c n
  pub room : places ≡ row_length (pin_count t)

-- ---- laws

-- the last of a list by its place
last-at : (u : List ℕ) (d : ℕ) → 1 ≤ length u → get_or u (length u - 1) 0 ≡ last d u
unfolding last
last-at [] d h = absurd (not-suc-le-zero h)
last-at (a ∷ []) d h = refl
last-at (a ∷ b ∷ u) d h =
    let e : suc (suc (length u)) - 1 ≡ suc (suc (length u) - 1) = omega arith in
    ap (λ (n : ℕ). get_or (a ∷ b ∷ u) n 0) e ∙ last-at (b ∷ u) a (omega arith)

-- a walk has an arc
some-arcs : (s : Structure) (v : ℕ) (u : List ℕ) → Walk s v u → 1 ≤ length u
some-arcs s v [] k = absurd k
some-arcs s v (a ∷ u) k = omega arith

-- what stands in a slot is what is read from it
pub walk_is : (w : List ℕ) (n : ℕ) (u : List ℕ) → work_length ≤ length w → n < most_k → Stands w n u → walk_in w n ≡ u
unfolding walk_in
walk_is w n u r i S =
    let m = get_or w (slot_at n) 0 in
    let from = slot_at n + 1 in
    let l : length (take m (drop from w)) ≡ m = walk-length w from m (omega (arith, S.count, S.few)) in
    ext_get_or 0 (take m (drop from w)) u (l ∙ S.count)
    (λ j h. get_or-take m (drop from w) j 0 (omega arith) ∙ get_or-drop from w j 0 ∙ S.arcs j (omega (arith, S.count)))

-- the row of a path, where the record has its slack
pub row_is : (t : Table) (m : Mode) (w : List ℕ) (c : Candidate) (n : ℕ) (p : Path) → path_in w c n ≡ p → c.slack ≡ slack m (structure t) (times t) p
    → row_in t w c n ≡ row m (structure t) (times t) p
unfolding row_in row arc_places path_credit
row_is t m w c n p e f =
    let s = structure t in
    let q = path_in w c n in
    rw (← e, pins-is t) (ap (λ (x : ℤ). row_of (pin_count t) x (path_credit m s (times t) q) c.test (start s q) (walk_in w n)) (rw (← e) at f))

module _ (t : Table) (w : List ℕ) (c : Candidate) (n : ℕ) (C : Clocked t w) (T : Tells t w c n) where
  abbrev s : Structure
  s = structure t

  abbrev p : Path
  p = path_in w c n

  fine : table_fault t ≡ none
  fine = C.ready.checked

  abbrev ok : Sound s
  ok = (accepted t fine).sound

  is-path : IsPath s p
  is-path = in-paths s p T.is-path

  -- its test is one of the table
  test_in : c.test < test_count t
  test_in = rw (tests-is t) at is-path.0

  -- the walk has one arc at least
  arcs-some : 1 ≤ length (walk_in w n)
  arcs-some = some-arcs s (data_pin s c.test) (walk_in w n) is-path.1

  -- and fewer than there are pins
  arcs-few : length (walk_in w n) < pin_count t
  arcs-few =
      let r = walk-rises s ok (data_pin s c.test) (walk_in w n) is-path.1 in
      let v = ok.level_in (data_pin s c.test) (ok.data-in c.test is-path.0) in
      omega (arith, r, v, pins-is t)

  -- each with a number below 1,024
  arcs-low : (i : ℕ) → i < length (walk_in w n) → get_or (walk_in w n) i 0 < 1024
  arcs-low i l =
      let a = (walk-arcs s ok (data_pin s c.test) (walk_in w n) is-path.1 (get_or (walk_in w n) i 0) (in_place 0 (walk_in w n) i l)).0 in
      omega (arith, a, arcs-is t, (accepted t fine).header.few-arcs)

  -- slot and number of arcs are within the work area
  slot-in : slot_at n + get_or w (slot_at n) 0 < length w
  slot-in = omega (arith, T.inside, T.stands.count, T.stands.few, C.ready.room)

  -- the last arc read backwards leaves the start
  pub start_is : arc_from t (get_or w (slot_at n + get_or w (slot_at n) 0) 0) ≡ start s p
  unfolding start
  start_is =
      let u = walk_in w n in
      let z : slot_at n + get_or w (slot_at n) 0 ≡ slot_at n + 1 + (length u - 1) = omega (arith, T.stands.count, arcs-some) in
      let a : get_or w (slot_at n + get_or w (slot_at n) 0) 0 ≡ last 0 u = rw z (T.stands.arcs (length u - 1) (omega (arith, arcs-some)) ∙ last-at u 0 arcs-some) in
      ap (arc_from t) a ∙ sym (leaves-is t (last 0 u) (rw (arcs-is t) at (last-arc s u (data_pin s c.test) is-path.1)))

  -- which is a pin
  start-in : start s p < pin_count t
  unfolding start
  start-in = rw (pins-is t) at (ok.from_in (last 0 (walk_in w n)) (last-arc s (walk_in w n) (data_pin s c.test) is-path.1))

  -- so its credit can be asked for
  pub asks : Asks t w (test_clock t c.test) (start s p)
  asks = record { clocked = C; clock = test-clock t fine c.test test_in; inside = start-in }

  module _ (m : ℕ) (k : Credited t (test_clock t c.test) (start s p) m) where
    -- and is that of the path
    credit-is : m ≡ path_credit for_setup s (times t) p
    unfolding credit_from path_credit
    credit-is = k.is for_setup ∙ rw (← (clock-is t c.test test_in))

    -- which fits a signed number
    credit-fits : m < signed
    credit-fits = omega (arith, k.is for_setup, credit-most t fine for_setup (test_clock t c.test) (start s p) (test-clock t fine c.test test_in) start-in)

    module _ (places : ℕ) (room : places ≡ row_length (pin_count t)) where
      -- what is written fits, and there is room for it
      pub puts : Puts w (slot_at n + 1) m c.test (start s p) (get_or w (slot_at n) 0) places
      puts =
          let h = (accepted t fine).header in
          let e = T.stands.count in
          record {
            fits = record {
              credit-fits = credit-fits;
              test_fits = omega (arith, test_in, h.few-tests);
              start_fits = omega (arith, start-in, h.few-pins);
              arcs-fit = omega (arith, T.stands.few);
            };
            room = omega (arith, arcs-few);
            walk = record {
              inside = omega (arith, slot-in);
              small = λ j l. rw (T.stands.arcs j (omega arith)) (omega (arith, arcs-low j (omega arith)));
            };
          }

      -- and what is written is the row
      pub out-is : row_of (places - head_length) c.slack m c.test (start s p) (take (get_or w (slot_at n) 0) (drop (slot_at n + 1) w)) ≡ row_in t w c n
      unfolding row_in walk_in
      out-is = let e : places - head_length ≡ pin_count t = omega arith in rw (e, credit-is)
