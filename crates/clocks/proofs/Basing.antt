-- What a start brings before credit: the definition, by the cases of the code, and the loop that lays the bases. Assumes nothing.
use mathlib.Core.Path.{◌≡◌, ◌∙◌}
use mathlib.Core.List.{List}
use Prim.Native.Nat.{ℕ, ◌+◌, ◌*◌, ◌-◌, ◌<◌}
use native.Mathlib.Decide.{ℕ_discrete}
use native.Mathlib.Omega.{arith}
use lib.ListN.{get_or, set}
use lib.Seq.{get_or-set_same, get_or-set_other}
use borrow.Author.Tests.{ne_eqb}
use mathlib.Core.Logic.{◌⊎◌, inl, inr, ◌≢◌}
use Rattle.lists.specs.Choice.{pick}
use Rattle.timing.specs.Kinds.{K, I}
use Rattle.timing.specs.Table.{Table, early, late, pin_count, pin_kind}
use Rattle.timing.proofs.Laws.Columns.{kind-is}
use Rattle.area.specs.Area as area
use Rattle.timing.specs.Structure.{structure, times}
use Rattle.timing.specs.Slack.{Mode, for_setup, for_hold, start_arrival}
use Rattle.area.specs.Area.{Kept, bases_at, turns_at}
use Rattle.clocks.specs.Clocked.{Clocked, Starts, base_of, base_for}
use Rattle.clocks.specs.Small.{few-pins}
use Rattle.area.specs.Laws.Kept.{kept_set}
use Rattle.clocks.specs.Kept.{clocked-behind}

module _ (t : Table) (p : ℕ) where
  pub base-setup : (h a : ℕ) → h ≡ p * 1000000 → a ≡ start_arrival late (structure t) (times t) p → h + (256000000 - a) ≡ base_of for_setup t p
  unfolding base_of
  base-setup h a e f = rw (e, f)

  pub base-hold : (a : ℕ) → a ≡ start_arrival early (structure t) (times t) p → a ≡ base_of for_hold t p
  unfolding base_of
  base-hold a e = e

-- of a start, and of any other pin
module _ (m : Mode) (t : Table) (p : ℕ) (l : p < pin_count t) where
  pub base-start : (pin_kind t p ≡ K) ⊎ (pin_kind t p ≡ I) → base_for m t p ≡ base_of m t p
  unfolding base_for pick
  base-start (inl e) = rw (kind-is t p l, e)
  base-start (inr e) = rw (kind-is t p l, e)

  pub base-none : pin_kind t p ≢ K → pin_kind t p ≢ I → base_for m t p ≡ area.none
  unfolding base_for pick
  base-none n o = rw (kind-is t p l, ne_eqb (pin_kind t p) K n, ne_eqb (pin_kind t p) I o)

-- the bases of the pins below p are written
pub record Basing (m : Mode) (t : Table) (p : ℕ) (w₀ w : List ℕ) : Type 0 where
  pub clocked : Clocked t w₀
  pub so_far : (q : ℕ) → q < p → get_or w (bases_at + q) 0 ≡ base_for m t q
  pub kept : Kept bases_at turns_at w₀ w

module _ (m : Mode) (t : Table) (p : ℕ) (w₀ w : List ℕ) (s : Basing m t p w₀ w) (l : p < pin_count t) where
  pub basing-starts : Starts t w p
  basing-starts = record { clocked = clocked-behind t bases_at turns_at w₀ w (omega arith) s.kept s.clocked; inside = l }

  pub basing-step : (v : ℕ) → v ≡ base_for m t p → Basing m t (p + 1) w₀ (set w (bases_at + p) v)
  basing-step v e =
      let few : p < 256 = omega (arith, few-pins t s.clocked.ready.checked) in
      record {
        clocked = s.clocked;
        so_far = λ q g. elim (ℕ_discrete q p) [
          | yes z ↦ rw z (get_or-set_same w (bases_at + p) v 0 (omega (arith, s.kept.long, s.clocked.ready.room)) ∙ e)
          | no z ↦ get_or-set_other w (bases_at + p) (bases_at + q) v 0 (λ y. z (omega arith)) ∙ s.so_far q (omega arith)
        ];
        kept = kept_set _ _ w₀ w (bases_at + p) v s.kept (omega arith) (omega arith);
      }
