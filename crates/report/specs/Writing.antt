-- The rows of several records, one behind another at the front of a room.
-- Assumes nothing.
use Rattle.std.specs.Prelude.{◌≡◌, List, [], ◌∷◌, ◌++◌, ℕ, ◌+◌, ◌*◌, ◌≤◌, ◌<◌, length, get_or, take, ℤ}
use Rattle.std.proofs.Common.{sym, ap₂, ◌∙◌, append-nil, append_assoc, arith, length-append, take_at, drop_at, drop-drop}
use Rattle.std.proofs.Math.Path.{ap}
use borrow.Rule.Slice.PartMut.{put_mid}
use Rattle.std.proofs.Math.ListN.{drop}
use Rattle.lists.specs.Parts.{below, each, gather, written}
use Rattle.lists.proofs.Laws.Join.{each_more, gather-join}
use Rattle.lists.specs.Laws.Write.{Wrote}
use Rattle.timing.specs.Limits.{most_k}
use Rattle.timing.specs.Table.{Table, pin_count}
use Rattle.timing.specs.Rows.{row_length}
use Rattle.timing.specs.declared.Candidate.{Candidate}
use Rattle.clocks.specs.Clocked.{Clocked}
use Rattle.winners.specs.Held.{nobody}
use Rattle.report.specs.Rowed.{row_in, Tells}

-- the first n records of a list and their slots tell paths of the table, and a room has places for their rows
pub record Writes (t : Table) (w : List ℕ) (list : List Candidate) (slots : List ℕ) (n places : ℕ) : Type 0 where
  pub clocked : Clocked t w
  pub few : n ≤ most_k
  pub tells : (i : ℕ) → i < n → Tells t w (get_or list i nobody) (get_or slots i 0)
  pub room : n * row_length (pin_count t) ≤ places

-- their rows
unfoldable pub rows_in : Table → List ℕ → List Candidate → List ℕ → ℕ → List (List ℤ)
rows_in t w list slots n = each (λ (i : ℕ). row_in t w (get_or list i nobody) (get_or slots i 0)) (below n)

-- ---- laws

module _ {A : Type 0} where
  -- the next part written whole
  pub wrote-part : (p t t₀ : List A) (w k : ℕ) (y : List A) → Wrote p t t₀ w → length y ≡ k → Wrote (p ++ y) (put_mid w k t y) t₀ (w + k)
  wrote-part p t t₀ w k y s e =
      let f : take w t ≡ p = ap (take w) s.is ∙ take_at p (drop w t₀) w (sym s.so-long) in
      let d : drop k (drop w t) ≡ drop (w + k) t₀ =
      ap (λ (l : List A). drop k (drop w l)) s.is ∙ ap (drop k) (drop_at p (drop w t₀) w (sym s.so-long)) ∙ drop-drop k w t₀ in
      record {
        is = ap₂ (λ (a b : List A). a ++ (y ++ b)) f d ∙ sym (append_assoc p y (drop (w + k) t₀));
        so-long = simp length-append (omega (arith, s.so-long));
      }

  -- all that is written
  pub wrote-all : (p t t₀ : List A) (w : ℕ) → Wrote p t t₀ w → t ≡ written p t₀
  unfolding written
  wrote-all p t t₀ w s = s.is ∙ ap (λ (n : ℕ). p ++ drop n t₀) s.so-long

-- one row more
pub rows_more : (t : Table) (w : List ℕ) (list : List Candidate) (slots : List ℕ) (i : ℕ)
    → gather (λ (r : List ℤ). r) (rows_in t w list slots (i + 1)) ≡ gather (λ (r : List ℤ). r) (rows_in t w list slots i) ++ row_in t w (get_or list i nobody) (get_or slots i 0)
unfolding rows_in gather
rows_more t w list slots i =
    let f : ℕ → List ℤ = λ q. row_in t w (get_or list q nobody) (get_or slots q 0) in
    let id : List ℤ → List ℤ = λ r. r in
    ap (gather id) (each_more f i) ∙ gather-join id (each f (below i)) (f i ∷ [])
    ∙ ap (λ (r : List ℤ). gather id (each f (below i)) ++ r) (append-nil (f i))
