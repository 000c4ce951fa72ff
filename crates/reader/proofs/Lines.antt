-- What stands at a place of a text, by line number. Assumes nothing.
use Rattle.std.proofs.Common.{◌≡◌, ℕ, zero, suc, ◌+◌, ◌-◌, ◌<◌, ◌≤◌, Bool, true, false, not, ◌||◌, eqb, ltb, leb, List, [], ◌∷◌, length, get_or, take, drop, sym, refl, ap, ◌∙◌, sub-one, arith, length-drop, length-take-le, ltb-false, ltb-true, le-ltb, lt-ltb, ne_eqb, le-leb}
use mathlib.Core.Option.{some}
use borrow.Author.Tests.{lt-leb}
use Rattle.lists.specs.Choice.{pick, Ground, first_met}
use Rattle.timing.specs.declared.Refusal.{Refusal}
use Rattle.timing.specs.declared.Refusal.TheVariants.{LineNotDue}
use Rattle.timing.specs.Field.{Bytes}
use Rattle.timing.specs.Text.{parts, whole, line_of, behind, line_start, more, line_grounds}
use Rattle.lists.specs.Laws.Cut.{end_at}
use Rattle.lists.proofs.Laws.Cut.{end-most, end-over}
use Rattle.reader.specs.Cut.{start_of, over, next_at, hit-at, miss-at, start-next, part-is, ended, not-ended}

-- ---- the place of the next line

pub over-before : (x : List ℕ) (e : ℕ) → e < length x → over x e ≡ e + 1
unfolding over pick
over-before x e h = rw (lt-ltb _ _ h) refl

pub over-end : (x : List ℕ) (e : ℕ) → length x ≤ e → over x e ≡ e
unfolding over pick
over-end x e h = rw (le-ltb _ _ h) refl

pub next-beyond : (x : List ℕ) (a : ℕ) → length x ≤ a → a ≡ next_at 10 x a
next-beyond x a h =
    let e = end-over 10 x a h in
    sym (over-end x (end_at 10 x a) (omega (arith, e)) ∙ e)

-- the line's end from the place of the next line
module _ (x : List ℕ) (a next : ℕ) (h : a ≤ length x) (g : next ≡ next_at 10 x a) where
  -- the line has its byte 10, or it ends with the text
  by_end : (Q : Type 0) → (end_at 10 x a < length x → next ≡ end_at 10 x a + 1 → Q) → (length x ≤ end_at 10 x a → next ≡ end_at 10 x a → Q) → Q
  by_end Q f k = go (ltb (end_at 10 x a) (length x)) refl
    where
      go : (b : Bool) → ltb (end_at 10 x a) (length x) ≡ b → Q
      go true q = let l = ltb-true (end_at 10 x a) (length x) q in f l (g ∙ over-before x (end_at 10 x a) l)
      go false q = let l = ltb-false (end_at 10 x a) (length x) q in k l (g ∙ over-end x (end_at 10 x a) l)

  pub next-most : next ≤ length x
  next-most = by_end (next ≤ length x) (λ l e. omega arith) (λ l e. omega (arith, end-most 10 x a h))

  pub after-byte : a < next → get_or x (next - 1) 0 ≡ 10 → next - 1 ≡ end_at 10 x a
  after-byte k e = by_end (next - 1 ≡ end_at 10 x a) (λ l i. omega arith) (λ l i. absurd (miss-at 10 x a (next - 1) (omega arith) (omega arith) e))

  pub after-other : a < next → (get_or x (next - 1) 0 ≡ 10 → ⊥) → next ≡ end_at 10 x a
  after-other k n =
      by_end (next ≡ end_at 10 x a)
      (λ l i. let j : next - 1 ≡ end_at 10 x a = omega arith in absurd (n (rw j (hit-at 10 x a l))))
      (λ l i. i)

  pub absent : next ≡ end_at 10 x a → length x ≤ end_at 10 x a
  absent e = by_end (length x ≤ end_at 10 x a) (λ l i. absurd (omega (arith, i, e))) (λ l i. l)

  pub after_none : next ≤ a → next ≡ end_at 10 x a
  after_none k = by_end (next ≡ end_at 10 x a) (λ l i. absurd (omega (arith, i, k))) (λ l i. i)

-- ---- where line n begins

behind-is : (x : Bytes) (m : ℕ) → behind x m ≡ start_of 10 x m
unfolding behind start_of
behind-is [] m = refl
behind-is (b ∷ x) zero = refl
behind-is (b ∷ x) (suc m) = ap suc (behind-is x (pick (eqb b 10) m (suc m)))

pub line-start-zero : (x : Bytes) (n : ℕ) → n ≡ 0 → length x ≡ line_start x n
unfolding line_start
line-start-zero x zero e = refl
line-start-zero x (suc n) e = absurd (omega (arith, e))

pub line-start-more : (x : Bytes) (n : ℕ) → (n ≡ 0 → ⊥) → start_of 10 x (n - 1) ≡ line_start x n
unfolding line_start
line-start-more x zero e = absurd (e refl)
line-start-more x (suc n) e = ap (start_of 10 x) (sub-one (suc n)) ∙ sym (behind-is x n)

pub line-of : (x : Bytes) (n a e : ℕ) → a ≡ line_start x n → e ≡ end_at 10 x a → take (e - a) (drop a x) ≡ line_of x n
unfolding line_of line_start parts
line-of x zero a e h g =
    let z : e - a ≡ 0 = omega (arith, end-over 10 x a (omega (arith, h))) in
    rw z refl
line-of x (suc n) a e h g = sym (part-is 10 x n a e (h ∙ behind-is x n) g)

-- ---- line n, the one behind m others, begins at a and ends at e

module _ (x : Bytes) (m a e n : ℕ) (s : a ≡ start_of 10 x m) (g : e ≡ end_at 10 x a) (k : n ≡ suc m) where
  pub line_at : line_of x n ≡ take (e - a) (drop a x)
  unfolding line_of parts
  line_at = rw k (part-is 10 x m a e s g)

  reaches : e ≡ end_at 10 x (start_of 10 x m)
  reaches = g ∙ ap (end_at 10 x) s

  there : e < length x → n ≤ whole x
  unfolding whole parts
  there h = omega (arith, ended 10 x m (omega (arith, reaches)))

  missing : length x ≤ e → whole x < n
  unfolding whole parts
  missing h = omega (arith, not-ended 10 x m (omega (arith, reaches)))

  pub line-there : (wrong : Bytes → ℕ → List (Ground Refusal)) → e < length x → first_met (line_grounds x n wrong) ≡ first_met (wrong (take (e - a) (drop a x)) n)
  unfolding line_grounds first_met
  line-there wrong h = rw (le-ltb _ _ (there h), line_at) refl

  pub line-absent : (wrong : Bytes → ℕ → List (Ground Refusal)) → length x ≤ e → first_met (line_grounds x n wrong) ≡ some (LineNotDue n)
  unfolding line_grounds first_met
  line-absent wrong h = rw (lt-ltb _ _ (missing h)) refl

  pub next-line-at : next_at 10 x a ≡ start_of 10 x n
  next-line-at = rw (k, start-next 10 x m, s) refl

  pub more-some : a < length x → more x n ≡ true
  unfolding more
  more-some q = by_end (ltb e (length x)) refl
    where
      by_end : (b : Bool) → ltb e (length x) ≡ b → (leb n (whole x) || not (eqb (length (line_of x n)) 0)) ≡ true
      by_end true r = rw (le-leb _ _ (there (ltb-true e (length x) r))) refl
      by_end false r =
          let h = ltb-false e (length x) r in
          let l : e - a ≤ length (drop a x) = omega (arith, length-drop a x, end-most 10 x a (omega arith)) in
          let y : length (line_of x n) ≡ e - a = ap length line_at ∙ length-take-le (e - a) (drop a x) l in
          rw (lt-leb _ _ (missing h), ne_eqb (length (line_of x n)) 0 (λ z. omega (arith, z, y, h, q))) refl

  pub more-none : length x ≤ a → more x n ≡ false
  unfolding more
  more-none q =
      let o = end-over 10 x a q in
      let z : e - a ≡ 0 = omega (arith, o) in
      let y : line_of x n ≡ [] = line_at ∙ rw z refl in
      rw (lt-leb _ _ (missing (omega (arith, o))), y) refl

-- line 0, and any other
pub ruleset line_starts = (line-start-zero, line-start-more)
