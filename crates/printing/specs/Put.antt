-- Putting bytes into lent bytes: from a place on, as many as fit. Places at and behind the end are nowhere (`sets`), so that what is left out is the
-- end of what is put, and never a part of it. Places are counted as far as a number of 64 bits goes: no lent bytes reach so far, and so it makes no difference
-- to what is written (`put-join`).
-- Assumes nothing.
use Rattle.std.specs.Prelude.{ℕ, ◌+◌, ◌≤◌, ◌<◌, min, ◌≡◌, length}
use Rattle.std.proofs.Math.Path.{refl}
use Rattle.std.proofs.Common.{sym, ap, ◌∙◌, arith, zero-add, length-append}
use mathlib.Core.List.{List, [], ◌∷◌, ◌++◌}
use Rattle.std.proofs.Math.Decide.{dec_le}
use Rattle.std.proofs.Math.Seq.{set_out}
use Rattle.lists.specs.Parts.{written}
use Rattle.lists.specs.Laws.Write.{sets}
use Rattle.lists.proofs.Laws.Write.{sets-join, sets-front, length-sets}
use Rattle.timing.specs.Field.{Bytes}

-- the largest number of 64 bits
abbrev pub most : ℕ
most = 18446744073709551615

-- a number, as far as 64 bits can say it
abbrev pub counted : ℕ → ℕ
counted n = min most n

-- the new bytes put into the old from a place on: what is left behind, and the place behind them
pub record Put (new old : Bytes) (at : ℕ) (left : Bytes) (next : ℕ) : Type 0 where
  pub stands : left ≡ sets old at new
  pub behind : next ≡ counted (at + length new)

-- ---- laws

module _ {A : Type 0} where
  -- nothing is written at or behind the end
  pub sets-past : (vs t : List A) (w : ℕ) → length t ≤ w → sets t w vs ≡ t
  unfolding sets
  sets-past [] t w h = refl
  sets-past (v ∷ vs) t w h = rw (set_out t w v h) (sets-past vs t (w + 1) (omega arith))

  -- a place counted as far as 64 bits go
  sets-counted : (vs t : List A) (w : ℕ) → length t ≤ most → sets t (counted w) vs ≡ sets t w vs
  sets-counted vs t w h = elim (dec_le w most) [
    | yes k ↦ let e : counted w ≡ w = omega arith in rw e
    | no k ↦ sets-past vs t (counted w) (omega arith) ∙ sym (sets-past vs t w (omega arith))
  ]

-- nothing put
pub put-none : (old : Bytes) (at : ℕ) → at ≤ most → Put [] old at old at
unfolding sets
put-none old at h = record { stands = refl; behind = omega arith }

-- as long as before
pub put-length : {new old left : Bytes} {at next : ℕ} → Put new old at left next → length left ≡ length old
put-length {new} {old} {left} {at} p = ap length p.stands ∙ length-sets new old at

-- one behind the other
pub put-join : (a b : Bytes) {old mid left : Bytes} {at to next : ℕ} → length old ≤ most → Put a old at mid to → Put b mid to left next
    → Put (a ++ b) old at left next
put-join a b {old} {mid} {left} {at} {to} {next} h p q =
    record {
      stands = q.stands ∙ rw (p.behind, p.stands, sets-counted b (sets old at a) (at + length a) (omega (arith, length-sets a old at))) (sym (sets-join a b old at));
      behind = simp length-append (omega (arith, p.behind, q.behind));
    }

-- ---- what stands at the front

-- put from the front on
pub put_front : {new old left : Bytes} {next : ℕ} → Put new old 0 left next → (next ≡ counted (length new)) × (left ≡ sets old 0 new)
put_front {new} p = (p.behind ∙ ap counted (zero-add (length new)), p.stands)

-- bytes that fit: they stand at the front, places beyond stay, and they are counted right
pub put-fits : (new old : Bytes) → length new ≤ length old → length old ≤ most → (sets old 0 new ≡ written new old) × (counted (length new) ≡ length new)
put-fits new old h k = (sets-front new old h, omega arith)

-- the count says whether they fit
pub count_fits : (new old : Bytes) → length old < most → counted (length new) ≤ length old → length new ≤ length old
count_fits new old h k = omega arith
