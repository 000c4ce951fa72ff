-- What the stages of the check say of the table and of its refusals. Assumes nothing.
use Prim.Native.Nat.{ℕ, ◌+◌, ◌≤◌, ◌<◌}
use mathlib.Core.Path.{◌≡◌, sym, ap, ◌∙◌}
use mathlib.Core.List.{List}
use native.Mathlib.Decide.{ℕ_discrete}
use native.Mathlib.Omega.{arith}
use borrow.Author.Tests.{ne_eqb, eq-eqb}
use lib.ListN.{length, get_or, set, length-set}
use lib.Seq.{get_or-set_same, get_or-set_other}
use Rattle.lists.proofs.Laws.Scan.{tally-none, tally-yes, tally-no, tally-most}
use Rattle.timing.specs.Limits.{most_pins}
use Rattle.timing.specs.Table.{Table, arc_count, arc_to}
use Rattle.tables.specs.Parts.{goes_into, Counted}

-- ---- 12

-- the loop that counts has passed the arcs below a
pub record So (t : Table) (a : ℕ) (counts : List ℕ) : Type 0 where
  pub most : a ≤ arc_count t
  pub so_far : Counted t a counts
  pub len : length counts ≡ most_pins

pub so-none : (t : Table) (counts : List ℕ) → length counts ≡ most_pins → ((p : ℕ) → p < most_pins → get_or counts p 0 ≡ 0) → So t 0 counts
so-none t counts l h =
    record { most = omega arith; so_far = record { counted = λ p g. h p g ∙ sym (tally-none (goes_into t p)) }; len = l }

module _ (t : Table) (a : ℕ) (counts : List ℕ) (s : So t a counts) where
  pub so-most : (p : ℕ) → p < most_pins → get_or counts p 0 ≤ a
  so-most p h = omega (arith, s.so_far.counted p h, tally-most (goes_into t p) a)

  module _ (h : a < arc_count t) (to : ℕ) (e : to ≡ arc_to t a) where
    pub so-hit : (v : ℕ) → to < most_pins → v ≡ get_or counts to 0 + 1 → So t (a + 1) (set counts to v)
    so-hit v l k =
        record {
          most = omega arith;
          so_far = record {
            counted = λ p g. elim (ℕ_discrete p to) [
              | yes q ↦
                  ap (λ (w : ℕ). get_or (set counts to v) w 0) q ∙ get_or-set_same counts to v 0 (omega (arith, s.len))
                  ∙ k ∙ ap (λ (w : ℕ). w + 1) (ap (λ (w : ℕ). get_or counts w 0) (sym q) ∙ s.so_far.counted p g)
                  ∙ sym (tally-yes (goes_into t p) a (eq-eqb _ _ (sym e ∙ sym q)))
              | no q ↦ get_or-set_other counts to p v 0 q ∙ s.so_far.counted p g ∙ sym (tally-no (goes_into t p) a (ne_eqb _ _ (λ r. q (sym r ∙ sym e))))
            ];
          };
          len = length-set counts to v ∙ s.len;
        }

    pub so-miss : most_pins ≤ to → So t (a + 1) counts
    so-miss l =
        record {
          most = omega arith;
          so_far = record { counted = λ p g. s.so_far.counted p g ∙ sym (tally-no (goes_into t p) a (ne_eqb (arc_to t a) p (λ r. omega (arith, e, l, r, g)))) };
          len = s.len;
        }
