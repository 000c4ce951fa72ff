-- Texts: `split` by places, and `same`. The definition of `split` speaks of parts, a loop over a text of the place where part m begins:
-- its invariant is `drop m (split b x) ≡ split b (drop here x)`, so no part is ever built.
-- Assumes nothing.
use Rattle.std.specs.Prelude.{ℕ, suc, ◌+◌, ◌-◌, ◌≤◌, ◌<◌, ◌≡◌, refl, ◌↔◌, true, false, List, [], ◌∷◌, eqb, length, get_or, take, drop}
use Rattle.std.proofs.Common.{sym, ap, ap₂, ◌∙◌, add-zero, add-one, arith, length-drop, drop_of_length-le, drop-cons, get_or-drop, drop-drop, eq-eqb, ne_eqb, eqb-true}
use Rattle.std.proofs.lemmas.Bool.{false≢true, eqb-false}
use Rattle.std.proofs.Math.Decide.{dec_lt}
use Rattle.std.proofs.Math.ListN.{get_or-eq_default}
use Rattle.std.proofs.Math.Seq.{take-length}
use Rattle.lists.specs.Choice.{pick}
use Rattle.lists.specs.Parts.{those, gather, onto, split, same}
use Rattle.lists.proofs.Laws.Cases.{by-test}
use Rattle.lists.specs.Laws.Member.{In, All}
use Rattle.lists.proofs.Laws.Member.{all_of}
use Rattle.lists.specs.Laws.Cut.{reach, At, end_at, Part}

-- no further than the end
pub reach-most : (b : ℕ) (l : List ℕ) → reach b l ≤ length l
unfolding reach pick
reach-most b [] = omega arith
reach-most b (x ∷ l) = by-test (eqb x b) (λ q. rw q (omega arith)) (λ q. rw q (omega (arith, reach-most b l)))

-- no byte b: the whole is the one part
pub split-miss : (b : ℕ) (l : List ℕ) → reach b l ≡ length l → split b l ≡ l ∷ []
unfolding reach split onto pick
split-miss b [] h = refl
split-miss b (x ∷ l) h =
    by-test (eqb x b) (λ q. absurd (omega (arith, rw q at h))) (λ q. rw q (ap (onto x) (split-miss b l (omega (arith, rw q at h)))))

-- a byte b: the first part stands before it, the others are those of what stands behind it
pub split-hit : (b : ℕ) (l : List ℕ) → reach b l < length l → split b l ≡ take (reach b l) l ∷ split b (drop (suc (reach b l)) l)
unfolding reach split onto pick
split-hit b [] h = absurd (omega arith)
split-hit b (x ∷ l) h = by-test (eqb x b) (λ q. rw q) (λ q. rw q (ap (onto x) (split-hit b l (omega (arith, rw q at h)))))

-- one of the two
split-cases : (P : List (List ℕ) → Type 0) (b : ℕ) (l : List ℕ) → (reach b l < length l → P (take (reach b l) l ∷ split b (drop (suc (reach b l)) l)))
    → (reach b l ≡ length l → P (l ∷ [])) → P (split b l)
split-cases P b l f g = elim (dec_lt (reach b l) (length l)) [
  | yes h ↦ rw (split-hit b l h) (f h)
  | no h ↦ let e : reach b l ≡ length l = omega (arith, reach-most b l) in rw (split-miss b l e) (g e)
]

split-head : (b : ℕ) (l : List ℕ) → get_or (split b l) 0 [] ≡ take (reach b l) l
split-head b l = split-cases (λ p. get_or p 0 [] ≡ take (reach b l) l) b l (λ h. refl) (λ e. rw e (sym (take-length l)))

-- there is a part
pub split-some : (b : ℕ) (l : List ℕ) → 1 ≤ length (split b l)
split-some b l = split-cases (λ p. 1 ≤ length p) b l (λ h. omega arith) (λ e. omega arith)

-- ---- what `split` is: the text cut at each byte b, and nowhere else
-- each part behind a byte b is the text behind a byte b
pub split-joined : (b : ℕ) (l : List ℕ) → gather (λ p. b ∷ p) (split b l) ≡ b ∷ l
unfolding gather split pick onto
split-joined b [] = refl
split-joined b (x ∷ l) =
    by-test (eqb x b)
    (λ q. rw (q, split-joined b l) (ap (λ (y : ℕ). b ∷ y ∷ l) (sym (eqb-true x b q))))
    (λ q. rw q (longer (split b l) (split-joined b l)))
  where
    longer : (ps : List (List ℕ)) → gather (λ p. b ∷ p) ps ≡ b ∷ l → gather (λ p. b ∷ p) (onto x ps) ≡ b ∷ x ∷ l
    longer [] e = cc
    longer (p ∷ ps) e = cc

abbrev Free : ℕ → List ℕ → Type 0
Free b p = All (λ y. eqb y b ≡ false) p

all-free : (b : ℕ) (l : List ℕ) → All (Free b) (split b l)
unfolding split pick onto
all-free b [] = (tt, tt)
all-free b (x ∷ l) = by-test (eqb x b) (λ q. rw q (tt, all-free b l)) (λ q. rw q (longer q (split b l) (all-free b l)))
  where
    longer : eqb x b ≡ false → (ps : List (List ℕ)) → All (Free b) ps → All (Free b) (onto x ps)
    longer q [] h = ((q, tt), tt)
    longer q (p ∷ ps) h = ((q, h.0), h.1)

-- no part has a byte b
pub split-free : (b : ℕ) (l p : List ℕ) → In p (split b l) → In b p → ⊥
split-free b l p h k = eqb-false b b (all_of (λ y. eqb y b ≡ false) p (all_of (Free b) (split b l) (all-free b l) p h) b k) refl

-- one part more than there are bytes b
pub split-count : (b : ℕ) (l : List ℕ) → length (split b l) ≡ suc (length (those (λ y. eqb y b) l))
unfolding split those pick onto
split-count b [] = refl
split-count b (x ∷ l) =
    by-test (eqb x b) (λ q. rw q (ap suc (split-count b l))) (λ q. rw q (as_many (split b l) (split-some b l) ∙ split-count b l))
  where
    as_many : (ps : List (List ℕ)) → 1 ≤ length ps → length (onto x ps) ≡ length ps
    as_many [] h = absurd (omega arith)
    as_many (p ∷ ps) h = refl

-- no further than the end of the text
pub end-most : (b : ℕ) (x : List ℕ) (a : ℕ) → a ≤ length x → end_at b x a ≤ length x
end-most b x a h = omega (arith, reach-most b (drop a x), length-drop a x)

-- the first part
pub at_first : (b : ℕ) (x : List ℕ) → At b x 0 0
at_first b x = record { inside = omega arith; rest = refl }

module _ (b : ℕ) (x : List ℕ) (m here : ℕ) (s : At b x m here) where
  -- the part is what stands between its beginning and its end
  pub at_part : get_or (split b x) m [] ≡ take (reach b (drop here x)) (drop here x)
  at_part = rw (← add-zero m, ← get_or-drop, s.rest) (split-head b (drop here x))

  left-parts : length (split b x) - m ≡ length (split b (drop here x))
  left-parts = sym (length-drop m (split b x)) ∙ ap length s.rest

  -- the part ends with a byte b: another part begins behind it
  pub at_next : end_at b x here < length x → At b x (m + 1) (end_at b x here + 1)
  at_next h =
      let k : here + suc (reach b (drop here x)) ≡ end_at b x here + 1 = omega arith in
      record {
        inside = omega arith;
        rest =
            sym (drop-drop 1 m (split b x))
            ∙ ap (drop 1) (s.rest ∙ split-hit b (drop here x) (omega (arith, length-drop here x)))
            ∙ ap (split b) (drop-drop (suc (reach b (drop here x))) here x ∙ ap (λ (j : ℕ). drop j x) k);
      }

  -- and it is not the last
  pub at-whole : end_at b x here < length x → m + 1 ≤ length (split b x) - 1
  at-whole h =
      let e = left-parts ∙ ap length (split-hit b (drop here x) (omega (arith, length-drop here x))) in
      omega (arith, split-some b (drop (suc (reach b (drop here x))) (drop here x)))

  -- the part ends with the text: it is the last
  pub at_last : length x ≤ end_at b x here → length (split b x) ≡ m + 1
  at_last h =
      let e = left-parts ∙ ap length (split-miss b (drop here x) (omega (arith, length-drop here x, reach-most b (drop here x)))) in
      omega arith

-- ---- the search for an end, one byte further

-- what stands at or behind i: the byte at i, and what stands behind it
pub one_on : (l : List ℕ) (i : ℕ) → i < length l → drop i l ≡ get_or l i 0 ∷ drop (i + 1) l
one_on l i h = rw (add-one, drop-cons l i 0)

-- a byte b at i: the end is i
pub end-hit : (b : ℕ) (l : List ℕ) (i : ℕ) → i < length l → get_or l i 0 ≡ b → end_at b l i ≡ i
unfolding reach pick
end-hit b l i h e = rw (one_on l i h, eq-eqb _ _ e) (add-zero i)

-- another byte at i: the end is that from i + 1
pub end-miss : (b : ℕ) (l : List ℕ) (i : ℕ) → i < length l → (get_or l i 0 ≡ b → ⊥) → end_at b l (i + 1) ≡ end_at b l i
unfolding reach pick
end-miss b l i h e = sym (rw (one_on l i h, ne_eqb _ _ e) (omega arith))

-- no byte at i: the end is i
pub end-over : (b : ℕ) (l : List ℕ) (i : ℕ) → length l ≤ i → end_at b l i ≡ i
unfolding reach
end-over b l i h = rw (drop_of_length-le l h) (add-zero i)

-- the first part begins at 0
pub part-first : (b : ℕ) (x : List ℕ) (e : ℕ) → e ≡ end_at b x 0 → Part b x 0 0 e
part-first b x e h = record {
  here = at_first b x;
  end = h;
  few = omega arith;
  most = omega (arith, end-most b x 0 (omega arith));
  after = omega arith;
}

-- the next part begins behind the byte b that ends this one
pub part-next : (b : ℕ) (x : List ℕ) (m a e d : ℕ) → Part b x m a e → e < length x → d ≡ end_at b x (e + 1) → Part b x (m + 1) (e + 1) d
part-next b x m a e d s h k = record {
  here = rw s.end (at_next b x m a s.here (omega (arith, s.end)));
  end = k;
  few = omega arith;
  most = omega (arith, end-most b x (e + 1) (omega arith));
  after = omega arith;
}

module _ (b : ℕ) (x : List ℕ) (m a e : ℕ) where
  -- the part itself
  pub part-is : Part b x m a e → get_or (split b x) m [] ≡ take (e - a) (drop a x)
  part-is s =
      let k : reach b (drop a x) ≡ e - a = omega (arith, s.end) in
      at_part b x m a s.here ∙ ap (λ (n : ℕ). take n (drop a x)) k

  -- the last part ends with the text
  pub part-last : Part b x m a e → length x ≤ e → length (split b x) ≡ m + 1
  part-last s h = at_last b x m a s.here (omega (arith, s.end))

  -- a part before it does not
  pub part-whole : Part b x m a e → e < length x → m + 1 ≤ length (split b x) - 1
  part-whole s h = at-whole b x m a s.here (omega (arith, s.end))

  -- no part behind the last
  pub part_none : (i : ℕ) → Part b x m a e → length x ≤ e → m < i → get_or (split b x) i [] ≡ []
  part_none i s h k = get_or-eq_default (split b x) [] (omega (arith, part-last s h))

-- ---- two texts

-- `same` is true exactly when they are one
pub same-exactly : (xs ys : List ℕ) → (same xs ys ≡ true) ↔ (xs ≡ ys)
unfolding same pick
same-exactly xs ys = (alike xs ys, λ e. rw (← e) (itself xs))
  where
    alike : (xs ys : List ℕ) → same xs ys ≡ true → xs ≡ ys
    alike [] [] e = refl
    alike [] (y ∷ ys) e = cc
    alike (x ∷ xs) [] e = cc
    alike (x ∷ xs) (y ∷ ys) e = by-test (eqb x y)
        (λ q. ap₂ (λ (a : ℕ) (l : List ℕ). a ∷ l) (eqb-true x y q) (alike xs ys (rw q at e)))
        (λ q. absurd (false≢true (rw q at e)))

    itself : (xs : List ℕ) → same xs xs ≡ true
    itself [] = refl
    itself (x ∷ xs) = rw (eq-eqb x x refl) (itself xs)
