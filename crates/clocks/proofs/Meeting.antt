-- The common pin of two clock pins: the deeper is raised until they meet. Assumes nothing.
use mathlib.Core.Path.{◌≡◌, sym, ap, ◌∙◌}
use mathlib.Core.Logic.{◌⊎◌, inl, inr, ⊎_elim, ◌≢◌}
use mathlib.Core.List.{List, []}
use mathlib.Core.Option.{none}
use Prim.Native.Nat.{ℕ, ◌+◌, ◌≤◌, ◌<◌}
use native.Mathlib.Omega.{arith}
use lib.ListN.{length, get_or}
use Rattle.timing.specs.Kinds.{R, B, K}
use Rattle.timing.specs.Table.{Table, arc_from}
use Rattle.timing.specs.Structure.{kind, structure}
use Rattle.timing.specs.Clock.{climb, common}
use Rattle.timing.specs.Check.{table_fault}
use Rattle.timing.specs.Laws.Sound.{Sound}
use Rattle.timing.proofs.Laws.Routes.{root-only}
use Rattle.timing.specs.Laws.Common.{depth}
use Rattle.timing.proofs.Laws.Common.{common-same, common-deeper, common-other}
use Rattle.timing.proofs.Laws.Columns.{kind-is}
use Rattle.timing.proofs.Laws.Accepted.{accepted}
use Rattle.area.specs.Area.{parents_at, depths_at}
use Rattle.clocks.specs.Clocked.{ClockPin, Parented, Clocked, Common}
use Rattle.clocks.specs.Small.{pin-place}
use Rattle.clocks.specs.Tree.{Driven, driven, root-depth}

-- ---- the common pin

-- of two pins, the deeper is no R
deeper-driven : (t : Table) (h : table_fault t ≡ none) (w : List ℕ) → Parented t w → (a b : ℕ) → ClockPin t a → ClockPin t b → a ≢ b
    → length (climb (structure t) b) ≤ length (climb (structure t) a) → (kind (structure t) a ≡ B) ⊎ (kind (structure t) a ≡ K)
deeper-driven t h w par a b ka kb n d = ⊎_elim (λ e. absurd (root e kb.clock)) (λ e. e) ka.clock
  where
    ok : Sound (structure t)
    ok = (accepted t h).sound

    less : (x y z : ℕ) → x ≡ 0 → y ≡ z + 1 → y ≤ x → ⊥
    less x y z e f g = omega arith

    root : kind (structure t) a ≡ R → (kind (structure t) b ≡ R) ⊎ ((kind (structure t) b ≡ B) ⊎ (kind (structure t) b ≡ K)) → ⊥
    root e (inl f) =
        n (root-only (structure t) ok a (pin-place t h a ka.inside) e ∙ sym (root-only (structure t) ok b (pin-place t h b kb.inside) f))
    root e (inr f) = less _ _ _ (root-depth t h a ka.inside (sym (kind-is t a ka.inside) ∙ e)) (driven t h w par b kb.inside f).depth d

-- the two pins that have come up from p and q
pub record Climbing (t : Table) (w : List ℕ) (p q a b : ℕ) : Type 0 where
  pub clocked : Clocked t w
  pub one : ClockPin t a
  pub other : ClockPin t b
  pub same : common (structure t) a b ≡ common (structure t) p q

-- one of them raised
pub record Raised (t : Table) (w : List ℕ) (p q a b v u : ℕ) : Type 0 where
  pub again : Climbing t w p q a b
  pub less : get_or w (depths_at + u) 0 < get_or w (depths_at + v) 0

module _ (t : Table) (w : List ℕ) (p q a b : ℕ) (c : Climbing t w p q a b) (n : a ≢ b) where
  good : table_fault t ≡ none
  good = c.clocked.ready.checked

  deep-a : get_or w (depths_at + a) 0 ≡ length (climb (structure t) a)
  deep-a = c.clocked.pins.depth a c.one.inside c.one

  deep-b : get_or w (depths_at + b) 0 ≡ length (climb (structure t) b)
  deep-b = c.clocked.pins.depth b c.other.inside c.other

  lower-depth : (v u : ℕ) → Driven t v u → get_or w (depths_at + v) 0 ≡ length (climb (structure t) v)
      → get_or w (depths_at + arc_from t u) 0 < get_or w (depths_at + v) 0
  lower-depth v u d e = omega (arith, e, d.depth, c.clocked.pins.depth (arc_from t u) d.clock.inside d.clock)

  pub raise-one : get_or w (depths_at + b) 0 ≤ get_or w (depths_at + a) 0 → (v : ℕ) → v ≡ arc_from t (get_or w (parents_at + a) 0) → Raised t w p q v b a v
  unfolding depth
  raise-one l v z =
      let s = structure t in
      let m : length (climb s b) ≤ length (climb s a) = omega (arith, deep-a, deep-b) in
      let d = driven t good w c.clocked.parents a c.one.inside (deeper-driven t good w c.clocked.parents a b c.one c.other n m) in
      let e =
      common-deeper s (accepted t good).sound a b (get_or w (parents_at + a) 0) [] (pin-place t good a c.one.inside) (pin-place t good b c.other.inside) n m d.into-is in
      rw z
      (record {
        again = record { clocked = c.clocked; one = d.clock; other = c.other; same = ap (λ (y : ℕ). common s y b) (sym d.from) ∙ sym e ∙ c.same };
        less = lower-depth a _ d deep-a;
      })

  pub raise-other : get_or w (depths_at + a) 0 < get_or w (depths_at + b) 0 → (v : ℕ) → v ≡ arc_from t (get_or w (parents_at + b) 0) → Raised t w p q a v b v
  unfolding depth
  raise-other l v z =
      let s = structure t in
      let m : length (climb s a) ≤ length (climb s b) = omega (arith, deep-a, deep-b) in
      let d = driven t good w c.clocked.parents b c.other.inside (deeper-driven t good w c.clocked.parents b a c.other c.one (λ e. n (sym e)) m) in
      let e =
      common-other s (accepted t good).sound a b (get_or w (parents_at + b) 0) [] (pin-place t good a c.one.inside) (pin-place t good b c.other.inside) n m d.into-is in
      rw z
      (record {
        again = record { clocked = c.clocked; one = c.one; other = d.clock; same = ap (common s a) (sym d.from) ∙ sym e ∙ c.same };
        less = lower-depth b _ d deep-b;
      })

pub met : (t : Table) (w : List ℕ) (p q a b : ℕ) → Climbing t w p q a b → a ≡ b → Common t p q a
met t w p q a b c e =
    record {
      is = sym (common-same (structure t) (accepted t c.clocked.ready.checked).sound a) ∙ ap (common (structure t) a) e ∙ c.same;
      pin = c.one;
    }
