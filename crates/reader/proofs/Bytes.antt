-- What the bytes of a field say, one byte further in a loop over it. Assumes nothing.
use Rattle.std.proofs.Common.{◌≡◌, ℕ, zero, suc, ◌+◌, ◌-◌, ◌*◌, ◌<◌, ◌≤◌, Bool, true, false, not, ◌&&◌, ◌||◌, eqb, leb, List, [], ◌∷◌, length, get_or, drop, sym, refl, ◌∙◌, not-suc-le-zero, add-zero, add-one, arith, drop_of_length-le, le-leb, leb-true}
use Rattle.std.specs.Prelude.{nat_eq}
use Rattle.std.specs.List.{list_all}
use Rattle.std.specs.Char.{is_ascii_digit}
use borrow.Author.Tests.{lt-leb}
use lib.Pointwise.{pointwise}
use Rattle.lists.specs.Choice.{pick}
use Rattle.lists.specs.Parts.{every, same}
use Rattle.lists.proofs.Laws.Cut.{one_on}
use Rattle.timing.specs.Field.{digit, well_formed, value_from, value, number_or_0}
use Rattle.timing.specs.Line.{field_of, number_in}

-- std's equality of lists of numbers is the same test
pub pointwise_same : (f w : List ℕ) → pointwise nat_eq f w ≡ same f w
unfolding same pick
pointwise_same [] [] = refl
pointwise_same [] (y ∷ w) = refl
pointwise_same (x ∷ f) [] = refl
pointwise_same (x ∷ f) (y ∷ w) = by_byte (eqb x y) (pointwise_same f w)
  where
    by_byte : (c : Bool) → pointwise nat_eq f w ≡ same f w → (c && pointwise nat_eq f w) ≡ pick c (same f w) false
    by_byte true e = e
    by_byte false e = refl

module _ (p : ℕ → Bool) where
  pub all-every : (l : List ℕ) → list_all p l ≡ every p l
  unfolding every pick
  all-every [] = refl
  all-every (x ∷ l) = by_byte (p x) (all-every l)
    where
      by_byte : (c : Bool) → list_all p l ≡ every p l → (c && list_all p l) ≡ pick c (every p l) false
      by_byte true e = e
      by_byte false e = refl

  pub every-at : (l : List ℕ) (i : ℕ) → every p l ≡ true → i < length l → p (get_or l i 0) ≡ true
  unfolding every pick
  every-at [] i e h = absurd (not-suc-le-zero h)
  every-at (x ∷ l) i e h = by_byte (p x) refl e (λ g j k. every-at l j g k) i h
    where
      by_byte : (c : Bool) → p x ≡ c → pick c (every p l) false ≡ true → (every p l ≡ true → (j : ℕ) → j < length l → p (get_or l j 0) ≡ true) → (j : ℕ) → j < suc (length l) → p (get_or (x ∷ l) j 0) ≡ true
      by_byte false q g r j k = absurd (let z : ◌≡◌ {A = ℕ} 0 1 = cc in omega arith)
      by_byte true q g r zero k = q
      by_byte true q g r (suc j) k = r g j (omega (arith, k))

pub empty_formed : (f : List ℕ) → length f ≡ 0 → false ≡ well_formed f
unfolding well_formed
empty_formed f h = rw h refl

pub long_formed : (f : List ℕ) → 7 < length f → false ≡ well_formed f
unfolding well_formed
long_formed f h = let k : 1 ≤ length f = omega arith in
    rw (le-leb 1 (length f) k, lt-leb (length f) 7 h) refl

pub sized_formed : (f : List ℕ) → 1 ≤ length f → length f ≤ 7 → (list_all is_ascii_digit f && (not (eqb (get_or f 0 0) 48) || eqb (length f) 1)) ≡ well_formed f
unfolding well_formed
sized_formed f h k = rw (le-leb 1 (length f) h, le-leb (length f) 7 k, all-every digit f) refl

pub value-step : (f : List ℕ) (i v : ℕ) → i < length f → value_from (v * 10 + (get_or f i 0 - 48)) (drop (i + 1) f) ≡ value_from v (drop i f)
unfolding value_from
value-step f i v h = sym (rw (one_on f i h) refl)

pub value_end : (f : List ℕ) (i v : ℕ) → length f ≤ i → value_from v (drop i f) ≡ v
unfolding value_from
value_end f i v h = rw (drop_of_length-le f h) refl

-- 10 to the n
unfoldable pub tens : ℕ → ℕ
tens zero = 1
tens (suc n) = 10 * tens n

pub tens-more : (n : ℕ) → tens (n + 1) ≡ 10 * tens n
unfolding tens
tens-more n = rw add-one refl

pub tens-most : (n : ℕ) → n ≤ 7 → tens n ≤ 10000000
unfolding tens
tens-most zero h = omega arith
tens-most (suc zero) h = omega arith
tens-most (suc (suc zero)) h = omega arith
tens-most (suc (suc (suc zero))) h = omega arith
tens-most (suc (suc (suc (suc zero)))) h = omega arith
tens-most (suc (suc (suc (suc (suc zero))))) h = omega arith
tens-most (suc (suc (suc (suc (suc (suc zero)))))) h = omega arith
tens-most (suc (suc (suc (suc (suc (suc (suc zero))))))) h = omega arith
tens-most (suc (suc (suc (suc (suc (suc (suc (suc n)))))))) h = absurd (omega (arith, h))

pub tens_six : (n : ℕ) → n < 7 → tens n ≤ 1000000
unfolding tens
tens_six n h = omega (arith, rw tens-more at (tens-most (n + 1) (omega (arith, h))))

-- the loop over a number's digits
pub record So (f : List ℕ) (v i : ℕ) : Type 0 where
  pub most : i ≤ length f
  pub seven : length f ≤ 7
  pub digits : (j : ℕ) → j < length f → (48 ≤ get_or f j 0) × (get_or f j 0 ≤ 57)
  pub so_far : value_from v (drop i f) ≡ value f
  pub low : v < tens i

and_left : (a b : Bool) → (a && b) ≡ true → a ≡ true
and_left true b e = refl
and_left false b e = e

and_right : (a b : Bool) → (a && b) ≡ true → b ≡ true
and_right true b e = e
and_right false b e = absurd (let z : ◌≡◌ {A = ℕ} 0 1 = cc in omega arith)

pub so_first : (f : List ℕ) → well_formed f ≡ true → So f 0 0
unfolding well_formed value tens
so_first f e =
    let z = not (eqb (get_or f 0 0) 48) || eqb (length f) 1 in
    let f1 = and_left (leb 1 (length f) && leb (length f) 7 && every digit f) z e in
    let f2 = and_left (leb 1 (length f) && leb (length f) 7) (every digit f) f1 in
    let d = and_right (leb 1 (length f) && leb (length f) 7) (every digit f) f1 in
    record {
      most = omega arith;
      seven = leb-true (length f) 7 (and_right (leb 1 (length f)) (leb (length f) 7) f2);
      digits = λ j h.
          let g = every-at digit f j d h in (
            leb-true 48 (get_or f j 0) (and_left (leb 48 (get_or f j 0)) (leb (get_or f j 0) 57) g),
            leb-true (get_or f j 0) 57 (and_right (leb 48 (get_or f j 0)) (leb (get_or f j 0) 57) g),
          );
      so_far = refl;
      low = omega arith;
    }

pub so_more : (f : List ℕ) (v i : ℕ) → So f v i → i < length f → So f (v * 10 + (get_or f i 0 - 48)) (i + 1)
so_more f v i s h =
    let d = s.digits i h in
    record {
      most = omega arith;
      seven = s.seven;
      digits = s.digits;
      so_far = value-step f i v h ∙ s.so_far;
      low = omega (arith, tens-more i, d.0, d.1, s.low);
    }

-- a number has at most 7 digits
value_low : (f : List ℕ) (v i : ℕ) → ((j : ℕ) → j < length f → (48 ≤ get_or f j 0) × (get_or f j 0 ≤ 57)) → v < tens i → value_from v f < tens (i + length f)
unfolding value_from
value_low [] v i d h = rw (add-zero i) h
value_low (b ∷ f) v i d h =
    let e : (i + 1) + length f ≡ i + suc (length f) = omega arith in
    let k = d 0 (omega arith) in
    rw (← e) (value_low f (v * 10 + (b - 48)) (i + 1) (λ j l. d (suc j) (omega (arith, l))) (omega (arith, tens-more i, k.0, k.1, h)))

pub number_small : (l : List ℕ) (i : ℕ) → number_in l i < 10000000
unfolding number_in number_or_0 value pick
number_small l i = by_form (well_formed (field_of l i)) refl
  where
    by_form : (b : Bool) → well_formed (field_of l i) ≡ b → pick b (value_from 0 (field_of l i)) 0 < 10000000
    by_form true e =
        let s = so_first (field_of l i) e in
        omega (arith, value_low (field_of l i) 0 0 s.digits s.low, tens-most (0 + length (field_of l i)) (omega (arith, s.seven)))
    by_form false e = omega arith
