-- What the tests of a table and of an asking mean: each passes exactly when the sentence of 01's refusal table holds.
-- Assumes nothing.
use Rattle.std.specs.Prelude.{◌≡◌, refl, ◌⊎◌, ◌≢◌, Bool, true, false, not, ◌&&◌, ◌||◌, List, [], ◌∷◌, ℕ, zero, suc, ◌*◌, ◌≤◌, ◌<◌, eqb, leb, ltb, length}
use Rattle.std.proofs.Common.{inl, inr, arith, eq-eqb, eqb-true}
use Rattle.std.proofs.Math.Decide.{dec_lt}
use Rattle.lists.specs.Parts.{below, those}
use Rattle.lists.specs.Laws.Means.{Means}
use Rattle.lists.proofs.Laws.Means.{means-as, means-not, means-or, means-and, means-less, means-most, means-same, means-over, means-least}
use Rattle.lists.specs.Laws.Member.{In, Pairs}
use Rattle.lists.proofs.Laws.Member.{in_one, in-those, into-those, in-below, into-below, in-any, pairs-those, pairs_below}
use Rattle.timing.specs.Limits.{most_pins, most_arcs, most_tests, most_time, most_k, work_length}
use Rattle.timing.specs.Kinds.{R, B, K, I, D, has_times, Pair, ◌to◌, allowed, may_drive}
use Rattle.timing.specs.Table.{Table, pin_count, arc_count, test_count, period_of, length_for, early, late, pin_kind, pin_time, arc_from, arc_to, arc_time, test_clock, test_data, test_setup, test_hold}
use Rattle.timing.specs.Check.{header_bad, range_bad, pin_numbers_bad, pin_bad, is_root, roots_bad, end_numbers_bad, ends_bad, kinds_bad, delay_bad, arcs_into, into_numbers_bad, into_bad, is_of, test_bad}
use Rattle.timing.specs.Rows.{row_length}
use Rattle.timing.specs.Asked.{asking_bad, room_bad}
use Rattle.timing.proofs.Laws.Kinds.{drive-cases}
use Rattle.demands.specs.Conditions.{HeaderWrong, BadRange, PinWrong, OneRoot, EndsWrong, KindsWrong, IntoWrong, IsPin, TestWrong, AskingWrong, RoomShort}

-- neither of two is not both
not-and : (a b : Bool) → not (a && b) ≡ (not a || not b)
not-and true b = refl
not-and false b = refl

-- ---- 6
pub header-means : (t : Table) → Means (header_bad t) (HeaderWrong t)
unfolding header_bad
header-means t =
    means-or
    (means-as
    (means-not
    (means-and
    (means-and
    (means-and (means-and (means-and (means-most 1 (pin_count t)) (means-most (pin_count t) most_pins)) (means-most (arc_count t) most_arcs)) (means-most (test_count t) most_tests))
    (means-most 1 (period_of t)))
    (means-most (period_of t) most_time)))
    (λ n h. n (((((h.some-pins, h.few-pins), h.few-arcs), h.few-tests), h.some-period), h.short-period))
    (λ n h.
    n
    (record {
      some-pins = h.0.0.0.0.0;
      few-pins = h.0.0.0.0.1;
      few-arcs = h.0.0.0.1;
      few-tests = h.0.0.1;
      some-period = h.0.1;
      short-period = h.1;
    })))
    (means-not (means-same (length t) (length_for (pin_count t) (arc_count t) (test_count t))))

-- ---- 7 and 11
range-means : (e l : ℕ) → Means (range_bad e l) (BadRange e l)
range-means e l =
    means-as (means-not (means-and (means-most e l) (means-most l most_time))) (λ n h. n (h.0, h.2)) (λ n h. n (h.0, omega (arith, h.0, h.1), h.1))

times-means : (k : ℕ) → Means (has_times k) ((k ≡ R) ⊎ (k ≡ I))
times-means k = means-or (means-same k R) (means-same k I)

zeros-means : (e l : ℕ) → Means (not (eqb e 0 && eqb l 0)) ((e ≢ 0) ⊎ (l ≢ 0))
zeros-means e l = rw not-and (means-or (means-not (means-same e 0)) (means-not (means-same l 0)))

-- a kind up to 4 that is no R and no I
other-kind : (k : ℕ) → k ≤ 4 → ((k ≡ R) ⊎ (k ≡ I) → ⊥) → (k ≡ B) ⊎ (k ≡ K) ⊎ (k ≡ D)
other-kind zero h n = absurd (n (inl refl))
other-kind (suc zero) h n = inl refl
other-kind (suc (suc zero)) h n = inr (inl refl)
other-kind (suc (suc (suc zero))) h n = absurd (n (inr refl))
other-kind (suc (suc (suc (suc zero)))) h n = inr (inr refl)
other-kind (suc (suc (suc (suc (suc k))))) h n = absurd (omega arith)

no-times : (k : ℕ) → (k ≡ B) ⊎ (k ≡ K) ⊎ (k ≡ D) → (k ≡ R) ⊎ (k ≡ I) → ⊥
no-times k (inl e) (inl f) = omega arith
no-times k (inl e) (inr f) = omega arith
no-times k (inr (inl e)) (inl f) = omega arith
no-times k (inr (inl e)) (inr f) = omega arith
no-times k (inr (inr e)) (inl f) = omega arith
no-times k (inr (inr e)) (inr f) = omega arith

pub pin-means : (t : Table) (p : ℕ) → Means (pin_bad t p) (PinWrong t p)
unfolding pin_bad
pin-means t p = go (pin_kind t p) (pin_time t early p) (pin_time t late p)
  where
    -- the sentence for kind k and arrivals e and l
    Wrong : ℕ → ℕ → ℕ → Type 0
    Wrong k e l = (4 < k) ⊎ (((k ≡ R) ⊎ (k ≡ I)) × BadRange e l) ⊎ (((k ≡ B) ⊎ (k ≡ K) ⊎ (k ≡ D)) × ((e ≢ 0) ⊎ (l ≢ 0)))

    sentence : (k e l : ℕ) → ((4 < k) ⊎ (((k ≡ R) ⊎ (k ≡ I)) × BadRange e l)) ⊎ (((k ≡ R) ⊎ (k ≡ I) → ⊥) × ((e ≢ 0) ⊎ (l ≢ 0))) → Wrong k e l
    sentence k e l (inl (inl h)) = inl h
    sentence k e l (inl (inr h)) = inr (inl h)
    sentence k e l (inr h) = elim (dec_lt 4 k) [
      | yes q ↦ inl q
      | no q ↦ inr (inr (other-kind k (omega arith) h.0, h.1))
    ]

    test : (k e l : ℕ) → Wrong k e l → ((4 < k) ⊎ (((k ≡ R) ⊎ (k ≡ I)) × BadRange e l)) ⊎ (((k ≡ R) ⊎ (k ≡ I) → ⊥) × ((e ≢ 0) ⊎ (l ≢ 0)))
    test k e l (inl h) = inl (inl h)
    test k e l (inr (inl h)) = inl (inr h)
    test k e l (inr (inr h)) = inr (no-times k h.0, h.1)

    go : (k e l : ℕ) → Means (pin_numbers_bad k e l) (Wrong k e l)
    go k e l =
        means-as
        (means-or (means-or (means-less D k) (means-and (times-means k) (range-means e l))) (means-and (means-not (times-means k)) (zeros-means e l)))
        (sentence k e l) (test k e l)

pub delay-means : (t : Table) (a : ℕ) → Means (delay_bad t a) (BadRange (arc_time t early a) (arc_time t late a))
unfolding delay_bad
delay-means t a = range-means (arc_time t early a) (arc_time t late a)

-- ---- 8
pub roots-means : (t : Table) → Means (roots_bad t) (OneRoot t → ⊥)
unfolding roots_bad
roots-means t =
    let l = those (is_root t) (below (pin_count t)) in
    let on : (p : ℕ) → In p l → (p < pin_count t) × (pin_kind t p ≡ R) =
    λ p i. let r = in-those (is_root t) p (below (pin_count t)) i in (in-below p (pin_count t) r.0, eqb-true _ _ r.1) in
    let off : (p : ℕ) → p < pin_count t → pin_kind t p ≡ R → In p l =
    λ p h e. into-those (is_root t) p (below (pin_count t)) (into-below p (pin_count t) h) (eq-eqb _ _ e) in
    means-not
    (means-as (means-same (length l) 1) (λ e. single l e on off)
    (λ o. alone o l on (off o.root o.root_in o.is-root) (pairs-those ◌<◌ (is_root t) (below (pin_count t)) (pairs_below (pin_count t)))))
  where
    single : (l : List ℕ) → length l ≡ 1 → ((p : ℕ) → In p l → (p < pin_count t) × (pin_kind t p ≡ R)) → ((p : ℕ) → p < pin_count t → pin_kind t p ≡ R → In p l)
        → OneRoot t
    single [] e on off = absurd (omega arith)
    single (x ∷ []) e on off =
        record { root = x; root_in = (on x (inl refl)).0; is-root = (on x (inl refl)).1; no_other = λ p h k. in_one p x (off p h k) }
    single (x ∷ y ∷ l) e on off = absurd (no_way (length l) e)
      where
        no_way : (m : ℕ) → suc (suc m) ≡ 1 → ⊥
        no_way m e = omega arith

    alone : (o : OneRoot t) (l : List ℕ) → ((p : ℕ) → In p l → (p < pin_count t) × (pin_kind t p ≡ R)) → In o.root l → Pairs ◌<◌ l → length l ≡ 1
    alone o [] on i h = absurd i
    alone o (x ∷ []) on i h = refl
    alone o (x ∷ y ∷ l) on i h =
        let a = on x (inl refl) in
        let b = on y (inr (inl refl)) in
        absurd (no_way (o.no_other x a.0 a.1) (o.no_other y b.0 b.1) h.0.0)
      where
        no_way : x ≡ o.root → y ≡ o.root → x < y → ⊥
        no_way e f l = omega arith

-- ---- 9 and 10
pub ends-means : (t : Table) (a : ℕ) → Means (ends_bad t a) (EndsWrong t a)
unfolding ends_bad
ends-means t a = go (pin_count t) (arc_from t a) (arc_to t a)
  where
    regroup : {P Q S : Type 0} → (P ⊎ Q) ⊎ S → P ⊎ Q ⊎ S
    regroup (inl (inl h)) = inl h
    regroup (inl (inr h)) = inr (inl h)
    regroup (inr h) = inr (inr h)

    ungroup : {P Q S : Type 0} → P ⊎ Q ⊎ S → (P ⊎ Q) ⊎ S
    ungroup (inl h) = inl (inl h)
    ungroup (inr (inl h)) = inl (inr h)
    ungroup (inr (inr h)) = inr h

    go : (p f o : ℕ) → Means (end_numbers_bad p f o) ((p ≤ f) ⊎ (p ≤ o) ⊎ (o ≤ f))
    go p f o =
        rw (not-and (ltb f p && ltb o p) (ltb f o), not-and (ltb f p) (ltb o p))
        (means-as (means-or (means-or (means-least f p) (means-least o p)) (means-least f o)) regroup ungroup)

drives-means : (f k : ℕ) → Means (may_drive f k) (In (f to k) allowed)
unfolding may_drive allowed
drives-means f k = (
  drive-cases (λ f k. In (f to k) allowed) (inl refl) (inr (inl refl)) (inr (inr (inl refl))) (inr (inr (inr (inl refl)))) (inr (inr (inr (inr (inl refl)))))
      (inr (inr (inr (inr (inr (inl refl)))))) (inr (inr (inr (inr (inr (inr (inl refl))))))) f k,
  λ i. in-any (λ (p : Pair). eqb f p.driver && eqb k p.driven) (f to k) allowed i (rw (eq-eqb f f refl, eq-eqb k k refl)),
)

pub kinds-means : (t : Table) (a : ℕ) → Means (kinds_bad t a) (KindsWrong t a)
unfolding kinds_bad
kinds-means t a = means-not (drives-means (pin_kind t (arc_from t a)) (pin_kind t (arc_to t a)))

-- ---- 12 and 13
pub into-means : (t : Table) (p : ℕ) → Means (into_bad t p) (IntoWrong t p)
unfolding into_bad
into-means t p = go (pin_kind t p) (length (arcs_into t p))
  where
    go : (k n : ℕ) → Means (into_numbers_bad k n) ((((k ≡ B) ⊎ (k ≡ K)) × (n ≢ 1)) ⊎ ((k ≡ D) × (n ≡ 0)))
    go k n =
        means-or (means-and (means-or (means-same k B) (means-same k K)) (means-not (means-same n 1))) (means-and (means-same k D) (means-same n 0))

of-means : (t : Table) (k p : ℕ) → Means (is_of t k p) (IsPin t k p)
unfolding is_of
of-means t k p = means-and (means-less p (pin_count t)) (means-same (pin_kind t p) k)

pub test-means : (t : Table) (j : ℕ) → Means (test_bad t j) (TestWrong t j)
unfolding test_bad
test-means t j =
    let c = is_of t K (test_clock t j) in
    let d = is_of t D (test_data t j) in
    let e = leb (test_setup t j) most_time in
    let f = leb (test_hold t j) most_time in
    rw (not-and (c && d && e) f, not-and (c && d) e, not-and c d)
    (means-as
    (means-or
    (means-or (means-or (means-not (of-means t K (test_clock t j))) (means-not (of-means t D (test_data t j)))) (means-over (test_setup t j) most_time))
    (means-over (test_hold t j) most_time))
    regroup ungroup)
  where
    regroup : {P Q S O : Type 0} → ((P ⊎ Q) ⊎ S) ⊎ O → P ⊎ Q ⊎ S ⊎ O
    regroup (inl (inl (inl h))) = inl h
    regroup (inl (inl (inr h))) = inr (inl h)
    regroup (inl (inr h)) = inr (inr (inl h))
    regroup (inr h) = inr (inr (inr h))

    ungroup : {P Q S O : Type 0} → P ⊎ Q ⊎ S ⊎ O → ((P ⊎ Q) ⊎ S) ⊎ O
    ungroup (inl h) = inl (inl (inl h))
    ungroup (inr (inl h)) = inl (inl (inr h))
    ungroup (inr (inr (inl h))) = inl (inr h)
    ungroup (inr (inr (inr h))) = inr h

-- ---- 14 and 15
pub asking-means : (mode k : ℕ) → Means (asking_bad mode k) (AskingWrong mode k)
asking-means mode k = means-as (means-or (means-or (means-less 1 mode) (means-same k 0)) (means-less most_k k)) sentence test
  where
    sentence : ((1 < mode) ⊎ (k ≡ 0)) ⊎ (most_k < k) → AskingWrong mode k
    sentence (inl (inl h)) = inl h
    sentence (inl (inr h)) = inr (inl (omega arith))
    sentence (inr h) = inr (inr h)

    test : AskingWrong mode k → ((1 < mode) ⊎ (k ≡ 0)) ⊎ (most_k < k)
    test (inl h) = inl (inl h)
    test (inr (inl h)) = inl (inr (omega arith))
    test (inr (inr h)) = inr h

pub room-means : (t : Table) (k room work : ℕ) → Means (room_bad (pin_count t) k room work) (RoomShort t k room work)
room-means t k room work = means-or (means-less room (k * row_length (pin_count t))) (means-less work work_length)
