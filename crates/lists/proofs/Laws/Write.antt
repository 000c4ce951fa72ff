-- Values written one behind another into a lent list: what a run of stores leaves, and the whole that it comes to. A loop that stores
-- has `sets` in its invariant and joins the next run to it (`sets-join`); at the end `sets-front` says that the new stands at the front.
-- Assumes nothing.
use Prim.Native.Nat.{ℕ, suc, ◌+◌, ◌≤◌, ◌<◌}
use Rattle.std.specs.Prelude.{◌≡◌, set, take, drop}
use Rattle.std.proofs.Math.Path.{refl}
use Rattle.std.proofs.Common.{sym, ◌∙◌, add-zero, add-one, length-append, length-drop, take-append-drop, drop-cons, length-take-le}
use mathlib.Core.List.{List, [], ◌∷◌, ◌++◌, append_assoc, append-nil}
use native.Mathlib.Omega.{arith}
use Rattle.std.proofs.Math.Nat.{zero-add}
use Rattle.std.proofs.Math.ListN.{length, length-set}
use Rattle.std.proofs.Math.Seq.{append_snoc, take-append_seam, drop-append_seam}
use Rattle.std.proofs.lemmas.List.{set_at}
use Rattle.lists.specs.Parts.{written}
use Rattle.lists.specs.Laws.Write.{sets, Wrote}
pub use Rattle.lists.proofs.Laws.Join.{gather-more}

module _ {A : Type 0} where
  -- ---- the new at the front

  -- nothing new
  pub written_none : (l : List A) → written [] l ≡ l
  unfolding written
  written_none l = refl

  -- new that fits: as long as before
  pub length-written : (new old : List A) → length new ≤ length old → length (written new old) ≡ length old
  unfolding written
  length-written new old h = simp (length-append, length-drop) (omega arith)

  -- the front is the new
  pub written-front : (new old : List A) → take (length new) (written new old) ≡ new
  unfolding written
  written-front new old = take-append_seam new (drop (length new) old)

  -- places beyond stay
  pub written-beyond : (new old : List A) → drop (length new) (written new old) ≡ drop (length new) old
  unfolding written
  written-beyond new old = drop-append_seam new (drop (length new) old)

  -- as long as before
  pub length-sets : (vs t : List A) (w : ℕ) → length (sets t w vs) ≡ length t
  unfolding sets
  length-sets [] t w = refl
  length-sets (v ∷ vs) t w = length-sets vs (set t w v) (w + 1) ∙ length-set t w v

  -- one run behind another
  pub sets-join : (a b t : List A) (w : ℕ) → sets t w (a ++ b) ≡ sets (sets t w a) (w + length a) b
  unfolding sets
  sets-join [] b t w = rw (add-zero w)
  sets-join (v ∷ a) b t w =
      let k : (w + 1) + length a ≡ w + suc (length a) = omega arith in
      rw (← k) (sets-join a b (set t w v) (w + 1))

  -- before the first store
  pub wrote_none : (t : List A) → Wrote [] t t 0
  wrote_none t = record { is = refl; so-long = refl }

  -- one store
  pub wrote_one : (p t t₀ : List A) (w : ℕ) (v : A) → Wrote p t t₀ w → w < length t₀ → Wrote (p ++ (v ∷ [])) (set t w v) t₀ (w + 1)
  wrote_one p t t₀ w v s h = record {
    is = rw (s.is, drop-cons t₀ w v h, set_at p _ _ v w (sym s.so-long), append_snoc, add-one);
    so-long = simp length-append (omega (arith, s.so-long));
  }

  -- a run of stores
  pub wrote-more : (vs p t t₀ : List A) (w : ℕ) → Wrote p t t₀ w → w + length vs ≤ length t₀ → Wrote (p ++ vs) (sets t w vs) t₀ (w + length vs)
  unfolding sets
  wrote-more [] p t t₀ w s h = rw (append-nil, add-zero) s
  wrote-more (v ∷ vs) p t t₀ w s h =
      let k : (w + 1) + length vs ≡ w + suc (length vs) = omega arith in
      rw (← k, ← append_assoc p (v ∷ []) vs)
      (wrote-more vs (p ++ (v ∷ [])) (set t w v) t₀ (w + 1) (wrote_one p t t₀ w v s (omega arith)) (omega arith))

  -- a run in the middle: what stands before it and behind it stays
  pub sets-middle : (vs t : List A) (w : ℕ) → w + length vs ≤ length t → sets t w vs ≡ take w t ++ vs ++ drop (w + length vs) t
  sets-middle vs t w h =
      (wrote-more vs (take w t) t t w
      (record { is = sym (take-append-drop w t); so-long = sym (length-take-le w t (omega arith)) }) h).is

  -- a run from the front: the new at the front
  pub sets-front : (vs t : List A) → length vs ≤ length t → sets t 0 vs ≡ written vs t
  unfolding written
  sets-front vs t h = rw zero-add at (sets-middle vs t 0 (omega arith))
