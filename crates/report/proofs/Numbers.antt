-- The numbers of a row as they are read: start, clock and credit of a record whose walk stands in slot n.
-- Assumes nothing.
use Rattle.std.specs.Prelude.{ℕ, ◌+◌, ◌-◌, ◌<◌, ◌≤◌, ◌≡◌, List, ◌∷◌, length, get_or, take, drop, ℤ, pos}
use Rattle.std.proofs.Common.{ap, ◌∙◌, arith, get_or-take, get_or-drop}
use mir.Syntax.{w64}
use mir.Val.{SFits, to_z, of_z}
use mir.ValLaws.{to_z-of_z, to_z_pos}
use Rattle.timing.specs.Table.{Table, pin_count, arc_from, test_clock}
use Rattle.timing.specs.Structure.{structure}
use Rattle.timing.specs.Paths.{start}
use Rattle.timing.specs.Rows.{row_length}
use Rattle.timing.specs.declared.Candidate.{Candidate}
use Rattle.area.specs.Area.{slot_at}
use Rattle.clocks.specs.Clocked.{Clocked, Asks, Credited}
use Rattle.report.specs.Row.{signed, head_length, arc_places, row_of, Fits, Puts, walk-length}
use Rattle.report.specs.Rowed.{path_in, row_in, Tells, start_is, asks, puts, out-is}

-- a number that fits a signed one
pub fits : (n : ℕ) → n < signed → SFits w64 (pos n)
fits n h = record { sfits = h }

-- the head is written as it is read back from its bits
pub head_told : (slack : ℤ) (credit test from n : ℕ) (walk : List ℕ) (p : ℕ) (row : List ℤ) → SFits w64 slack → Fits credit test from n → length walk ≡ n
    → row ≡ to_z w64 (of_z w64 slack) ∷ to_z w64 credit ∷ to_z w64 test ∷ to_z w64 from ∷ to_z w64 n ∷ arc_places p walk
    → row ≡ row_of p slack credit test from walk
head_told slack credit test from n walk p row s f l e =
    rw l (rw (to_z-of_z w64 slack s, to_z_pos w64 credit f.credit-fits, to_z_pos w64 test f.test_fits, to_z_pos w64 from f.start_fits, to_z_pos w64 n f.arcs-fit) at e)

-- n arcs of the work area, lent as a part of m numbers: they have room, and each is small
module _ (w : List ℕ) (at m n : ℕ) (e : m ≡ n) (r : at + n ≤ length w) where
  pub lent_room : (places : ℕ) → n + head_length ≤ places → length (take m (drop at w)) + head_length ≤ places
  lent_room places h = rw (e, walk-length w at n r) h

  pub lent-small : ((j : ℕ) → j < n → get_or w (at + j) 0 < signed) → (i : ℕ) → i < length (take m (drop at w)) → get_or (take m (drop at w)) i 0 < signed
  lent-small small i h =
      let l : i < m = omega (arith, walk-length w at n r, ap (λ (k : ℕ). length (take k (drop at w))) e) in
      rw (get_or-take m (drop at w) i 0 l ∙ get_or-drop at w i 0) (small i (omega arith))

module _ (t : Table) (w : List ℕ) (c : Candidate) (n : ℕ) (C : Clocked t w) (T : Tells t w c n) (clock from : ℕ)
    (k : clock ≡ test_clock t c.test) (f : from ≡ arc_from t (get_or w (slot_at n + get_or w (slot_at n) 0) 0)) where
  starts : from ≡ start (structure t) (path_in w c n)
  starts = f ∙ start_is t w c n C T

  -- the credit can be asked for
  pub may_ask : Asks t w clock from
  may_ask = rw (k, starts) (asks t w c n C T)

  module _ (credit places : ℕ) (m : Credited t clock from credit) (room : places ≡ row_length (pin_count t)) where
    credited : Credited t (test_clock t c.test) (start (structure t) (path_in w c n)) credit
    credited = rw (k, starts) at m

    -- all numbers fit, and there is room for them
    pub may_put : Puts w (slot_at n + 1) credit c.test from (get_or w (slot_at n) 0) places
    may_put = rw starts (puts t w c n C T credit credited places room)

    -- and they are the row
    pub row_is : (m : ℕ) → m ≡ get_or w (slot_at n) 0 → row_of (places - head_length) c.slack credit c.test from (take m (drop (slot_at n + 1) w)) ≡ row_in t w c n
    row_is m e = rw (starts, e) (out-is t w c n C T credit credited places room)
