-- `split` by places: where a part begins and where it ends. All are total: beyond the last part stands the end.
-- Assumes nothing.
use Rattle.std.specs.Prelude.{◌≡◌, ℕ, zero, suc, ◌+◌, ◌-◌, ◌<◌, ◌≤◌, Bool, true, false, List, [], ◌∷◌, length, take, drop, ◌==◌, ◌≢◌, nat_lt, slice_index, slice_index_or, slice_range, refl}
use Rattle.std.proofs.Common.{sym, ap, ◌∙◌, not-suc-le-zero, sub-one, arith, length-drop, drop_of_length-le, get_or-drop, eq-eqb, ne_eqb, eqb-true, lt-ltb, le-ltb, ltb-true, ltb-false}
use Rattle.std.proofs.lemmas.Bool.{eqb-false}
use Rattle.lists.specs.Choice.{pick}
use Rattle.lists.specs.Parts.{split, onto}
use Rattle.lists.specs.Laws.Cut.{reach, end_at}
use Rattle.lists.proofs.Laws.Cut.{split-some, one_on}

-- where part m begins, counted from 0; the end where there are fewer
unfoldable pub start_of : ℕ → List ℕ → ℕ → ℕ
start_of b [] m = 0
start_of b (y ∷ x) zero = 0
start_of b (y ∷ x) (suc m) = suc (start_of b x (pick (y == b) m (suc m)))

-- the place behind a part that ends at e
unfoldable pub over : List ℕ → ℕ → ℕ
over x e = pick (nat_lt e (length x)) (e + 1) e

-- where the part behind the one that begins at a begins
abbrev pub next_at : ℕ → List ℕ → ℕ → ℕ
next_at b x a = over x (end_at b x a)

-- ---- where a part ends

-- the byte b stands there, and not before
reach-hit : (b : ℕ) (l : List ℕ) → reach b l < length l → slice_index l (reach b l) ≡ b
unfolding reach pick
reach-hit b [] h = absurd (not-suc-le-zero h)
reach-hit b (x ∷ l) h = by_byte (x == b) refl (reach-hit b l) h
  where
    by_byte : (c : Bool) → (x == b) ≡ c → (reach b l < length l → slice_index l (reach b l) ≡ b) → pick c 0 (suc (reach b l)) < suc (length l)
        → slice_index (x ∷ l) (pick c 0 (suc (reach b l))) ≡ b
    by_byte true e ih g = eqb-true x b e
    by_byte false e ih g = ih (omega (arith, g))

reach-miss : (b : ℕ) (l : List ℕ) (j : ℕ) → j < reach b l → slice_index l j ≢ b
unfolding reach pick
reach-miss b [] j h e = not-suc-le-zero h
reach-miss b (x ∷ l) j h e = by_byte (x == b) refl (reach-miss b l) j h e
  where
    by_byte : (c : Bool) → (x == b) ≡ c → ((i : ℕ) → i < reach b l → slice_index l i ≢ b) → (j : ℕ) → j < pick c 0 (suc (reach b l))
        → slice_index (x ∷ l) j ≢ b
    by_byte true q ih j g e = not-suc-le-zero g
    by_byte false q ih zero g e = eqb-false x b q e
    by_byte false q ih (suc j) g e = ih j (omega (arith, g)) e

pub hit-at : (b : ℕ) (x : List ℕ) (a : ℕ) → end_at b x a < length x → slice_index x (end_at b x a) ≡ b
hit-at b x a h = sym (get_or-drop a x (reach b (drop a x)) 0) ∙ reach-hit b (drop a x) (omega (arith, length-drop a x))

pub miss-at : (b : ℕ) (x : List ℕ) (a j : ℕ) → a ≤ j → j < end_at b x a → slice_index x j ≢ b
miss-at b x a j h k e =
    let i : a + (j - a) ≡ j = omega arith in
    reach-miss b (drop a x) (j - a) (omega arith) (get_or-drop a x (j - a) 0 ∙ ap (λ (n : ℕ). slice_index x n) i ∙ e)

-- ---- where a part begins

over-suc : (y : ℕ) (x : List ℕ) (e : ℕ) → over (y ∷ x) (suc e) ≡ suc (over x e)
unfolding over pick
over-suc y x e = by_end (nat_lt e (length x)) refl
  where
    by_end : (c : Bool) → nat_lt e (length x) ≡ c → pick (nat_lt (suc e) (suc (length x))) (suc e + 1) (suc e) ≡ suc (pick c (e + 1) e)
    by_end true q = rw (lt-ltb (suc e) (suc (length x)) (omega (arith, ltb-true e (length x) q))) (omega arith)
    by_end false q = rw (le-ltb (suc e) (suc (length x)) (omega (arith, ltb-false e (length x) q))) refl

pub start-zero : (b : ℕ) (x : List ℕ) → start_of b x 0 ≡ 0
unfolding start_of
start-zero b [] = refl
start-zero b (y ∷ x) = refl

pub start-most : (b : ℕ) (x : List ℕ) (m : ℕ) → start_of b x m ≤ length x
unfolding start_of
start-most b [] m = omega arith
start-most b (y ∷ x) zero = omega arith
start-most b (y ∷ x) (suc m) = omega (arith, start-most b x (pick (y == b) m (suc m)))

next-suc : (b y : ℕ) (x : List ℕ) (k : ℕ) → next_at b (y ∷ x) (suc k) ≡ suc (next_at b x k)
next-suc b y x k =
    let e : suc k + reach b (drop k x) ≡ suc (k + reach b (drop k x)) = omega arith in
    ap (over (y ∷ x)) e ∙ over-suc y x (k + reach b (drop k x))

pub start-next : (b : ℕ) (x : List ℕ) (m : ℕ) → start_of b x (suc m) ≡ next_at b x (start_of b x m)
unfolding start_of reach over pick
start-next b [] m = refl
start-next b (y ∷ x) zero = by_byte (y == b) (start-next b x 0)
  where
    by_byte : (c : Bool) → start_of b x 1 ≡ next_at b x (start_of b x 0) → suc (start_of b x (pick c 0 1)) ≡ over (y ∷ x) (0 + pick c 0 (suc (reach b x)))
    by_byte true ih = rw (start-zero b x, lt-ltb 0 (suc (length x)) (omega arith)) refl
    by_byte false ih =
        let k : 0 + suc (reach b x) ≡ suc (0 + reach b x) = omega arith in
        ap suc (ih ∙ ap (next_at b x) (start-zero b x)) ∙ sym (ap (over (y ∷ x)) k ∙ over-suc y x (0 + reach b x))
start-next b (y ∷ x) (suc m) = by_byte (y == b) (start-next b x)
  where
    by_byte : (c : Bool) → ((k : ℕ) → start_of b x (suc k) ≡ next_at b x (start_of b x k))
        → suc (start_of b x (pick c (suc m) (suc (suc m)))) ≡ next_at b (y ∷ x) (suc (start_of b x (pick c m (suc m))))
    by_byte true ih = ap suc (ih m) ∙ sym (next-suc b y x (start_of b x m))
    by_byte false ih = ap suc (ih (suc m)) ∙ sym (next-suc b y x (start_of b x (suc m)))

split-head : (b : ℕ) (l : List ℕ) → slice_index_or (split b l) 0 [] ≡ take (reach b l) l
unfolding reach split onto pick
split-head b [] = refl
split-head b (x ∷ l) = by_byte (x == b) (split b l) (split-head b l)
  where
    by_byte : (c : Bool) (p : List (List ℕ)) → slice_index_or p 0 [] ≡ take (reach b l) l
        → slice_index_or (pick c ([] ∷ p) (onto x p)) 0 [] ≡ take (pick c 0 (suc (reach b l))) (x ∷ l)
    by_byte true p ih = refl
    by_byte false [] ih = ap (λ (z : List ℕ). x ∷ z) ih
    by_byte false (q ∷ p) ih = ap (λ (z : List ℕ). x ∷ z) ih

onto-behind : (x : ℕ) (p : List (List ℕ)) (m : ℕ) → slice_index_or (onto x p) (suc m) [] ≡ slice_index_or p (suc m) []
unfolding onto
onto-behind x [] m = refl
onto-behind x (q ∷ p) m = refl

-- part m stands between its two places
part_of : (b : ℕ) (x : List ℕ) (m : ℕ) → slice_index_or (split b x) m [] ≡ take (reach b (drop (start_of b x m) x)) (drop (start_of b x m) x)
unfolding split start_of reach pick
part_of b [] zero = refl
part_of b [] (suc m) = refl
part_of b (y ∷ x) zero = split-head b (y ∷ x)
part_of b (y ∷ x) (suc m) = by_byte (y == b) (part_of b x)
  where
    by_byte : (c : Bool) → ((k : ℕ) → slice_index_or (split b x) k [] ≡ take (reach b (drop (start_of b x k) x)) (drop (start_of b x k) x))
        → slice_index_or (pick c ([] ∷ split b x) (onto y (split b x))) (suc m) []
        ≡ take (reach b (drop (start_of b x (pick c m (suc m))) x)) (drop (start_of b x (pick c m (suc m))) x)
    by_byte true ih = ih m
    by_byte false ih = onto-behind y (split b x) m ∙ ih (suc m)

pub part-is : (b : ℕ) (x : List ℕ) (m a e : ℕ) → a ≡ start_of b x m → e ≡ end_at b x a → slice_index_or (split b x) m [] ≡ slice_range x a e
part-is b x m a e h g =
    let k : e - a ≡ reach b (drop a x) = omega arith in
    part_of b x m ∙ rw (k, h) refl

pub onto-long : (y : ℕ) (p : List (List ℕ)) → 1 ≤ length p → length (onto y p) ≡ length p
unfolding onto
onto-long y [] h = absurd (omega (arith, h))
onto-long y (q ∷ p) h = refl

-- part m is ended by a byte b, and then another follows it
pub ended : (b : ℕ) (x : List ℕ) (m : ℕ) → end_at b x (start_of b x m) < length x → suc m < length (split b x)
unfolding split start_of reach pick
ended b [] m h = absurd (omega (arith, h))
ended b (y ∷ x) zero h = by_byte (y == b) (ended b x 0) h
  where
    by_byte : (c : Bool) → (end_at b x (start_of b x 0) < length x → 1 < length (split b x)) → 0 + pick c 0 (suc (reach b x)) < suc (length x) → 1 < length (pick c ([] ∷ split b x) (onto y (split b x)))
    by_byte true ih g = omega (arith, split-some b x)
    by_byte false ih g = rw (onto-long y (split b x) (split-some b x)) (ih (rw (start-zero b x) (omega arith)))
ended b (y ∷ x) (suc m) h = by_byte (y == b) (ended b x) h
  where
    by_byte : (c : Bool) → ((k : ℕ) → end_at b x (start_of b x k) < length x → suc k < length (split b x))
        → suc (start_of b x (pick c m (suc m))) + reach b (drop (start_of b x (pick c m (suc m))) x) < suc (length x)
        → suc (suc m) < length (pick c ([] ∷ split b x) (onto y (split b x)))
    by_byte true ih g = omega (arith, ih m (omega arith))
    by_byte false ih g = rw (onto-long y (split b x) (split-some b x)) (ih (suc m) (omega arith))

pub not-ended : (b : ℕ) (x : List ℕ) (m : ℕ) → length x ≤ end_at b x (start_of b x m) → length (split b x) ≤ suc m
unfolding split start_of reach pick
not-ended b [] m h = omega arith
not-ended b (y ∷ x) zero h = by_byte (y == b) (not-ended b x 0) h
  where
    by_byte : (c : Bool) → (length x ≤ end_at b x (start_of b x 0) → length (split b x) ≤ 1) → suc (length x) ≤ 0 + pick c 0 (suc (reach b x)) → length (pick c ([] ∷ split b x) (onto y (split b x))) ≤ 1
    by_byte true ih g = absurd (omega (arith, g))
    by_byte false ih g = rw (onto-long y (split b x) (split-some b x)) (ih (rw (start-zero b x) (omega arith)))
not-ended b (y ∷ x) (suc m) h = by_byte (y == b) (not-ended b x) h
  where
    by_byte : (c : Bool) → ((k : ℕ) → length x ≤ end_at b x (start_of b x k) → length (split b x) ≤ suc k)
        → suc (length x) ≤ suc (start_of b x (pick c m (suc m))) + reach b (drop (start_of b x (pick c m (suc m))) x)
        → length (pick c ([] ∷ split b x) (onto y (split b x))) ≤ suc (suc m)
    by_byte true ih g = omega (arith, ih m (omega arith))
    by_byte false ih g = rw (onto-long y (split b x) (split-some b x)) (ih (suc m) (omega arith))

-- one byte further, where k bytes b are left to pass

hop : (i k : ℕ) → (i + 1) + k ≡ i + suc k
hop i k = omega arith

pub start_none : (b : ℕ) (l : List ℕ) (i k : ℕ) → k ≡ 0 → i ≡ i + start_of b (drop i l) k
start_none b l i k e = rw (e, start-zero b (drop i l)) (omega arith)

one : (b y : ℕ) (x : List ℕ) (k : ℕ) → (k ≢ 0) → start_of b (y ∷ x) k ≡ suc (start_of b x (pick (y == b) (k - 1) k))
unfolding start_of
one b y x zero n = absurd (n refl)
one b y x (suc k) n = ap (λ (j : ℕ). suc (start_of b x (pick (y == b) j (suc k)))) (sym (sub-one (suc k)))

pub start-hit : (b : ℕ) (l : List ℕ) (i k : ℕ) → i < length l → (k ≢ 0) → slice_index l i ≡ b → (i + 1) + start_of b (drop (i + 1) l) (k - 1) ≡ i + start_of b (drop i l) k
unfolding pick
start-hit b l i k h n e = hop i (start_of b (drop (i + 1) l) (k - 1)) ∙ sym (rw (one_on l i h, one b (slice_index l i) (drop (i + 1) l) k n, eq-eqb _ _ e) refl)

pub start-miss : (b : ℕ) (l : List ℕ) (i k : ℕ) → i < length l → (k ≢ 0) → (slice_index l i ≢ b) → (i + 1) + start_of b (drop (i + 1) l) k ≡ i + start_of b (drop i l) k
unfolding pick
start-miss b l i k h n e = hop i (start_of b (drop (i + 1) l) k) ∙ sym (rw (one_on l i h, one b (slice_index l i) (drop (i + 1) l) k n, ne_eqb _ _ e) refl)

pub start-over : (b : ℕ) (l : List ℕ) (i k : ℕ) → length l ≤ i → i ≡ i + start_of b (drop i l) k
unfolding start_of
start-over b l i k h = rw (drop_of_length-le l h) (omega arith)
