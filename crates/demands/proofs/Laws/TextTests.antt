-- What the tests of a text's lines and fields mean: each passes exactly when the sentence of 01 holds.
-- Assumes nothing.
use Rattle.std.specs.Prelude.{◌≡◌, refl, ◌⊎◌, ◌≢◌, Bool, true, false, ◌&&◌, ◌||◌, [], ◌∷◌, ℕ, suc, ◌≤◌, ◌<◌, eqb, length, get_or}
use Rattle.std.proofs.Math.Logic.{inl, inr, ⊎_elim}
use Rattle.std.proofs.lemmas.Bool.{false≢true, eqb-false}
use Rattle.std.proofs.Math.Bool.{not}
use Rattle.std.proofs.Common.{arith, eqb-true, ne_eqb}
use Rattle.lists.specs.Choice.{pick}
use Rattle.lists.specs.Parts.{every, same}
use Rattle.lists.proofs.Laws.Cases.{by-test}
use Rattle.lists.specs.Laws.Member.{In}
use Rattle.lists.proofs.Laws.Member.{every_in, in-every}
use Rattle.lists.proofs.Laws.Cut.{same-exactly}
use Rattle.lists.specs.Laws.Means.{Means}
use Rattle.lists.proofs.Laws.Means.{means-as, means-not, means-or, means-and, means-less, means-most, means-same}
use Rattle.timing.specs.Limits.{most_pins, most_arcs, most_tests}
use Rattle.timing.specs.Kinds.{has_times}
use Rattle.timing.specs.Field.{Bytes, setup_word, hold_word, is_mode, digit, well_formed, no_kind, letter}
use Rattle.timing.specs.Line.{field_of, field_count, is_number, number_in, other_word, four_numbers, sizes_bad, pin_fields, line_kind}
use Rattle.timing.specs.Text.{whole, line_of, more}
use Rattle.demands.specs.TextConditions.{pin, ask, Stands, TimedLetter, BareLetter, WrongCount, Number, FourNumbers, SizeWrong, Malformed}
use Rattle.demands.specs.Laws.TextTests.{Letter, timed, bare, unknown}

-- ---- words

pub word-means : (f w : Bytes) → Means (same f w) (f ≡ w)
word-means f w = same-exactly f w

pub other-means : (l w : Bytes) → Means (other_word l w) (field_of l 0 ≢ w)
unfolding other_word
other-means l w = means-not (word-means (field_of l 0) w)

pub stands-means : (x : Bytes) (n : ℕ) → Means (more x n) (Stands x n)
unfolding more
stands-means x n = means-or (means-most n (whole x)) (means-not (means-same (length (line_of x n)) 0))

-- ---- numbers
number-means : (f : Bytes) → Means (well_formed f) (Number f)
unfolding well_formed
number-means f =
    means-as
    (means-and (means-and (means-and (means-most 1 (length f)) (means-most (length f) 7)) every-digit)
    (means-or (means-not (means-same (get_or f 0 0) 48)) (means-same (length f) 1)))
    (λ h. record { some-digits = h.0.0.0; few-digits = h.0.0.1; digits = h.0.1; no-leading = zero-alone h.1 })
    (λ n. (((n.some-digits, n.few-digits), n.digits), alone-zero n.no-leading))
  where
    digit-means : (b : ℕ) → Means (digit b) ((48 ≤ b) × (b ≤ 57))
    digit-means b = means-and (means-most 48 b) (means-most b 57)

    every-digit : Means (every digit f) ((b : ℕ) → In b f → (48 ≤ b) × (b ≤ 57))
    every-digit = (λ e b i. (digit-means b).0 (every_in digit f e b i), λ h. in-every digit f (λ b i. (digit-means b).1 (h b i)))

    zero-alone : (get_or f 0 0 ≢ 48) ⊎ (length f ≡ 1) → get_or f 0 0 ≡ 48 → length f ≡ 1
    zero-alone (inl n) e = absurd (n e)
    zero-alone (inr h) e = h

    alone-zero : (get_or f 0 0 ≡ 48 → length f ≡ 1) → (get_or f 0 0 ≢ 48) ⊎ (length f ≡ 1)
    alone-zero h = by-test (eqb (get_or f 0 0) 48) (λ e. inr (h (eqb-true _ _ e))) (λ e. inl (eqb-false _ _ e))

pub is-number-means : (l : Bytes) (i : ℕ) → Means (is_number l i) (Number (field_of l i))
unfolding is_number
is-number-means l i = number-means (field_of l i)

pub four-means : (l : Bytes) → Means (not (four_numbers l)) (FourNumbers l → ⊥)
unfolding four_numbers
four-means l =
    means-not
    (means-as (means-and (means-and (means-and (is-number-means l 1) (is-number-means l 2)) (is-number-means l 3)) (is-number-means l 4))
    (λ h. (h.0.0.0, h.0.0.1, h.0.1, h.1)) (λ h. (((h.0, h.1), h.2), h.3)))

pub sizes-means : (l : Bytes) → Means (sizes_bad (number_in l 1) (number_in l 2) (number_in l 3)) (SizeWrong l)
sizes-means l = go (number_in l 1) (number_in l 2) (number_in l 3)
  where
    regroup : {P Q S O : Type 0} → ((P ⊎ Q) ⊎ S) ⊎ O → P ⊎ Q ⊎ S ⊎ O
    regroup (inl (inl (inl h))) = inl h
    regroup (inl (inl (inr h))) = inr (inl h)
    regroup (inl (inr h)) = inr (inr (inl h))
    regroup (inr h) = inr (inr (inr h))

    ungroup : {P Q S O : Type 0} → P ⊎ Q ⊎ S ⊎ O → ((P ⊎ Q) ⊎ S) ⊎ O
    ungroup (inl h) = inl (inl (inl h))
    ungroup (inr (inl h)) = inl (inl (inr h))
    ungroup (inr (inr (inl h))) = inl (inr h)
    ungroup (inr (inr (inr h))) = inr h

    go : (p a t : ℕ) → Means (sizes_bad p a t) ((p ≡ 0) ⊎ (256 < p) ⊎ (1024 < a) ⊎ (64 < t))
    go p a t =
        means-as (means-or (means-or (means-or (means-same p 0) (means-less most_pins p)) (means-less most_arcs a)) (means-less most_tests t)) regroup ungroup

pub mode-means : (l : Bytes) → Means (not (is_mode (field_of l 1) && is_number l 2)) (Malformed ask l)
unfolding is_mode
mode-means l =
    rw (not-and (is_mode (field_of l 1)) (is_number l 2))
    (means-or (means-not (means-or (word-means (field_of l 1) setup_word) (word-means (field_of l 1) hold_word))) (means-not (is-number-means l 2)))
  where
    not-and : (a b : Bool) → not (a && b) ≡ (not a || not b)
    not-and true b = refl
    not-and false b = refl

timed-head : (f : Bytes) → TimedLetter f → (length f ≡ 1) × ((get_or f 0 0 ≡ 82) ⊎ (get_or f 0 0 ≡ 73))
timed-head f (inl e) = rw e (refl, inl refl)
timed-head f (inr e) = rw e (refl, inr refl)

bare-head : (f : Bytes) → BareLetter f → (length f ≡ 1) × ((get_or f 0 0 ≡ 66) ⊎ (get_or f 0 0 ≡ 75) ⊎ (get_or f 0 0 ≡ 68))
bare-head f (inl e) = rw e (refl, inl refl)
bare-head f (inr (inl e)) = rw e (refl, inr (inl refl))
bare-head f (inr (inr e)) = rw e (refl, inr (inr refl))

no-timed : (b : ℕ) → b ≢ 82 → b ≢ 73 → TimedLetter (b ∷ []) → ⊥
no-timed b m n h = ⊎_elim m n (timed-head (b ∷ []) h).1

no_bare : (b : ℕ) → b ≢ 66 → b ≢ 75 → b ≢ 68 → BareLetter (b ∷ []) → ⊥
no_bare b m n o h = ⊎_elim m (⊎_elim n o) (bare-head (b ∷ []) h).1

one-letter : (b : ℕ) → Letter (b ∷ [])
unfolding letter pick
one-letter b =
    by-test (eqb b 82) (λ e. rw (eqb-true b 82 e) (timed (inl refl) (no_bare 82 (λ z. omega arith) (λ z. omega arith) (λ z. omega arith)) refl refl))
    (λ r.
    by-test (eqb b 66) (λ e. rw (eqb-true b 66 e) (bare (inl refl) (no-timed 66 (λ z. omega arith) (λ z. omega arith)) refl refl))
    (λ p.
    by-test (eqb b 75) (λ e. rw (eqb-true b 75 e) (bare (inr (inl refl)) (no-timed 75 (λ z. omega arith) (λ z. omega arith)) refl refl))
    (λ k.
    by-test (eqb b 73) (λ e. rw (eqb-true b 73 e) (timed (inr refl) (no_bare 73 (λ z. omega arith) (λ z. omega arith) (λ z. omega arith)) refl refl))
    (λ i.
    by-test (eqb b 68) (λ e. rw (eqb-true b 68 e) (bare (inr (inr refl)) (no-timed 68 (λ z. omega arith) (λ z. omega arith)) refl refl))
    (λ d.
    unknown (no-timed b (eqb-false b 82 r) (eqb-false b 73 i)) (no_bare b (eqb-false b 66 p) (eqb-false b 75 k) (eqb-false b 68 d)) (rw (r, p, k, i, d))
    (rw (r, p, k, i, d)))))))

-- a field of another length is no letter
other_length : (f : Bytes) → length f ≢ 1 → Letter f
unfolding letter pick
other_length f n =
    unknown (λ h. n (timed-head f h).0) (λ h. n (bare-head f h).0) (rw (ne_eqb (length f) 1 n)) (rw (ne_eqb (length f) 1 n))

pub letter-is : (f : Bytes) → Letter f
letter-is [] = other_length [] (λ e. omega arith)
letter-is (b ∷ []) = one-letter b
letter-is (b ∷ c ∷ f) = other_length (b ∷ c ∷ f) (two (length f))
  where
    two : (n : ℕ) → suc (suc n) ≢ 1
    two n e = omega arith

-- ---- the two tests of a pin line behind its word
module _ (l : Bytes) where
  abbrev known : Bool
  known = not (eqb (line_kind l) no_kind)

  -- the letter is known and the count is another than it wants
  abbrev Counts : Type 0
  Counts = (TimedLetter (field_of l 1) × (field_count l ≢ 4)) ⊎ (BareLetter (field_of l 1) × (field_count l ≢ 2))

  count-means : Means (known && not (eqb (field_count l) (pin_fields (line_kind l)))) Counts
  unfolding line_kind pick
  count-means = by-letter (letter-is (field_of l 1))
    where
      by-letter : Letter (field_of l 1) → Means (known && not (eqb (field_count l) (pin_fields (line_kind l)))) Counts
      by-letter (timed h n t k) =
          rw (k, t)
          (means-as (means-not (means-same (field_count l) 4)) (λ z. inl (h, z)) (⊎_elim (λ z. z.1) (λ z. absurd (n z.0))))
      by-letter (bare h n t k) =
          rw (k, t)
          (means-as (means-not (means-same (field_count l) 2)) (λ z. inr (h, z)) (⊎_elim (λ z. absurd (n z.0)) (λ z. z.1)))
      by-letter (unknown m n t k) = rw k (λ e. absurd (false≢true e), ⊎_elim (λ z. absurd (m z.0)) (λ z. absurd (n z.0)))

  pub pin-count-means : Means (eqb (field_count l) 1 || (known && not (eqb (field_count l) (pin_fields (line_kind l)))))
      (WrongCount pin l)
  pin-count-means = means-or (means-same (field_count l) 1) count-means

  pub pin-form-means : Means (eqb (line_kind l) no_kind || (has_times (line_kind l) && not (is_number l 2 && is_number l 3)))
      (Malformed pin l)
  unfolding line_kind
  pin-form-means = means-or letter-unknown (means-and has-times (means-not (means-and (is-number-means l 2) (is-number-means l 3))))
    where
      unknown-letter : Letter (field_of l 1) → Means (eqb (letter (field_of l 1)) no_kind) ((TimedLetter (field_of l 1) ⊎ BareLetter (field_of l 1)) → ⊥)
      unknown-letter (timed h n t k) = rw k (λ e. absurd (false≢true e), λ z. absurd (z (inl h)))
      unknown-letter (bare h n t k) = rw k (λ e. absurd (false≢true e), λ z. absurd (z (inr h)))
      unknown-letter (unknown m n t k) = rw k (λ e. ⊎_elim m n, λ z. refl)

      letter-unknown : Means (eqb (letter (field_of l 1)) no_kind) ((TimedLetter (field_of l 1) ⊎ BareLetter (field_of l 1)) → ⊥)
      letter-unknown = unknown-letter (letter-is (field_of l 1))

      timed-letter : Letter (field_of l 1) → Means (has_times (letter (field_of l 1))) (TimedLetter (field_of l 1))
      timed-letter (timed h n t k) = rw t (λ e. h, λ z. refl)
      timed-letter (bare h n t k) = rw t (λ e. absurd (false≢true e), λ z. absurd (n z))
      timed-letter (unknown m n t k) = rw t (λ e. absurd (false≢true e), λ z. absurd (m z))

      has-times : Means (has_times (letter (field_of l 1))) (TimedLetter (field_of l 1))
      has-times = timed-letter (letter-is (field_of l 1))
