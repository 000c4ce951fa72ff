-- The refusals of a text in 01's order: what the reader gives is the first whose sentence holds.
--
-- Each line looks for 2, 3 and 4 in several tests, some of which give the same refusal, and on a pin line 4 is looked for between two tests of 3. `as-three`
-- and its neighbours show that three tests do as well, one for each number; then lines are put one behind another by their places.
-- Assumes nothing.
use Rattle.std.specs.Prelude.{◌≡◌, ◌⊎◌, Bool, not, ◌&&◌, ◌||◌, List, [], ◌∷◌, ℕ, ◌+◌, ◌-◌, ◌≤◌, ◌<◌, ltb, length}
use Rattle.std.proofs.Math.Path.{refl, sym}
use Rattle.std.proofs.Common.{ap, ◌∙◌, ⊎_elim}
use Rattle.std.proofs.Math.Logic.{inl, inr}
use Rattle.std.proofs.Math.Bool.{true, false}
use native.Mathlib.Omega.{arith}
use borrow.Author.Tests.{ltb-true, ltb-false}
use Rattle.lists.specs.Choice.{pick, Ground, ground, first_met}
use Rattle.lists.specs.Parts.{below, gather}
use Rattle.lists.proofs.Laws.Cases.{by-test}
use Rattle.lists.specs.Laws.Means.{Means}
use Rattle.lists.proofs.Laws.Means.{means-fails, means-or, means-less, means-same, means-not}
use Rattle.lists.specs.Laws.Decides.{Decides}
use Rattle.lists.proofs.Laws.Decides.{decides-as, decides-none, decides-one, decides-append, decides-cons, decides-gather}
use Rattle.timing.specs.declared.Refusal.{Refusal}
use Rattle.timing.specs.declared.Refusal.TheVariants.{TextLong, LineNotDue, FieldCount, FieldForm, TableRoom, TableHeader, PinNumbers, RootCount, ArcEnds, ArcKinds, ArcRange, ArcsInto, TestNumbers, ModeOrK, RowRoom, ListCount}
use Rattle.timing.specs.Limits.{most_text}
use Rattle.timing.specs.Refusals.{place_of}
use Rattle.timing.specs.Field.{Bytes, arc_word, test_word}
use Rattle.timing.specs.Line.{field_count, other_word, design_line, pin_line, four_line, ask_line}
use Rattle.timing.specs.Text.{whole, line_of, more, pins_of, arcs_of, lines_due, ask_number, table_length, due_line, line_grounds, due_grounds, ask_grounds, text_grounds, text_fault}
use Rattle.demands.specs.Conditions.{turn, Earlier}
use Rattle.demands.specs.TextConditions.{LineKind, design, pin, arc, test, ask, word_of, Stands, Due, Missing, WrongCount, Malformed, TextHolds}
use Rattle.demands.proofs.Laws.Turns.{not_itself, not_back}
use Rattle.demands.proofs.Laws.TextTests.{other-means, stands-means, four-means, sizes-means, mode-means, pin-count-means, pin-form-means}

-- ---- three tests in place of more

module _ {X : Type 0} (x y z : X) where
  abbrev three : Bool → Bool → Bool → List (Ground X)
  three a b c = ground a x ∷ ground b y ∷ ground c z ∷ []

  as-three : (a b c d : Bool) → first_met (ground a x ∷ ground b x ∷ ground c y ∷ ground d z ∷ []) ≡ first_met (three (a || b) c d)
  unfolding first_met
  as-three true b c d = refl
  as-three false b c d = refl

  five-three : (a b c d e : Bool) → first_met (ground a x ∷ ground b x ∷ ground c y ∷ ground d z ∷ ground e z ∷ []) ≡ first_met (three (a || b) c (d || e))
  unfolding first_met
  five-three true b c d e = refl
  five-three false true c d e = refl
  five-three false false true d e = refl
  five-three false false false true e = refl
  five-three false false false false e = refl

  six-three : (a b c d e f : Bool)
      → first_met (ground a x ∷ ground b x ∷ ground c y ∷ ground d z ∷ ground e y ∷ ground f z ∷ []) ≡ first_met (three (a || b) (c || (not d && e)) (d || f))
  unfolding first_met
  six-three true b c d e f = refl
  six-three false true c d e f = refl
  six-three false false true d e f = refl
  six-three false false false true e f = refl
  six-three false false false false true f = refl
  six-three false false false false false f = refl

-- ---- one line

module _ (x : Bytes) where
  -- 2, 3 or 4 of a line of kind k at n
  abbrev Line : LineKind → ℕ → Refusal → Type 0
  Line k n q =
      ((q ≡ LineNotDue n) × Missing x n k)
      ⊎ ((q ≡ FieldCount n) × WrongCount k (line_of x n))
      ⊎ ((q ≡ FieldForm n) × Malformed k (line_of x n))

  line-decides : (k : LineKind) (n : ℕ) (a b c : Bool) → Means a (Missing x n k) → Means b (WrongCount k (line_of x n)) → Means c (Malformed k (line_of x n))
      → Decides Earlier (Line k n) (first_met (three (LineNotDue n) (FieldCount n) (FieldForm n) a b c))
  line-decides k n a b c f g h =
      decides-cons Earlier not_itself not_back a (LineNotDue n) _ f
      (decides-cons Earlier not_itself not_back b (FieldCount n) _ g (decides-one Earlier not_itself c (FieldForm n) h)
      (λ r k. rw k.0 (inl (inr (refl, inr (refl, omega arith))))))
      (λ r. ⊎_elim (λ k. rw k.0 (inl (inr (refl, inr (refl, omega arith))))) (λ k. rw k.0 (inl (inr (refl, inr (refl, omega arith))))))

  missing-means : (k : LineKind) (n : ℕ) → Means (ltb (whole x) n || other_word (line_of x n) (word_of k)) (Missing x n k)
  missing-means k n = means-or (means-less (whole x) n) (other-means (line_of x n) (word_of k))

  design-decides : (n : ℕ) → Decides Earlier (Line design n) (first_met (line_grounds x n design_line))
  unfolding line_grounds design_line
  design-decides n =
      let l = line_of x n in
      rw (five-three (LineNotDue n) (FieldCount n) (FieldForm n))
      (line-decides design n _ _ _ (missing-means design n) (means-not (means-same (field_count l) 5)) (means-or (four-means l) (sizes-means l)))

  pin-decides : (n : ℕ) → Decides Earlier (Line pin n) (first_met (line_grounds x n pin_line))
  unfolding line_grounds pin_line
  pin-decides n =
      let l = line_of x n in
      rw (six-three (LineNotDue n) (FieldCount n) (FieldForm n))
      (line-decides pin n _ _ _ (missing-means pin n) (pin-count-means l) (pin-form-means l))

  arc-decides : (n : ℕ) → Decides Earlier (Line arc n) (first_met (line_grounds x n (four_line arc_word)))
  unfolding line_grounds four_line
  arc-decides n =
      let l = line_of x n in
      rw (as-three (LineNotDue n) (FieldCount n) (FieldForm n))
      (line-decides arc n _ _ _ (missing-means arc n) (means-not (means-same (field_count l) 5)) (four-means l))

  test-decides : (n : ℕ) → Decides Earlier (Line test n) (first_met (line_grounds x n (four_line test_word)))
  unfolding line_grounds four_line
  test-decides n =
      let l = line_of x n in
      rw (as-three (LineNotDue n) (FieldCount n) (FieldForm n))
      (line-decides test n _ _ _ (missing-means test n) (means-not (means-same (field_count l) 5)) (four-means l))

  ask-decides : (n : ℕ) → Decides Earlier (Line ask n) (first_met (line_grounds x n ask_line))
  unfolding line_grounds ask_line
  ask-decides n =
      let l = line_of x n in
      rw (as-three (LineNotDue n) (FieldCount n) (FieldForm n))
      (line-decides ask n _ _ _ (missing-means ask n) (means-not (means-same (field_count l) 3)) (mode-means l))

  -- its place
  line_at : (k : LineKind) (n : ℕ) (q : Refusal) → Line k n q → (turn q ≡ 1) × (place_of q ≡ n)
  line_at k n q (inl (e, h)) = rw e (refl, refl)
  line_at k n q (inr (inl (e, h))) = rw e (refl, refl)
  line_at k n q (inr (inr (e, h))) = rw e (refl, refl)

  -- ---- the lines due between `design` and `ask`
  abbrev DueLine : ℕ → Refusal → Type 0
  DueLine i q = (k : LineKind) × Due x (2 + i) k × Line k (2 + i) q

  module _ (i : ℕ) (h : i < lines_due x) where
    pin-only : i < pins_of x → (q : Refusal) (k : LineKind) → Due x (2 + i) k → Line k (2 + i) q → Line pin (2 + i) q
    unfolding lines_due ask_number
    pin-only l q design d z = absurd (omega arith)
    pin-only l q pin d z = z
    pin-only l q arc d z = absurd (omega (arith, d.0))
    pin-only l q test d z = absurd (omega (arith, d.0))
    pin-only l q ask d z = absurd (omega (arith, d.0))

    arc-only : pins_of x ≤ i → i < pins_of x + arcs_of x → (q : Refusal) (k : LineKind) → Due x (2 + i) k → Line k (2 + i) q → Line arc (2 + i) q
    unfolding lines_due ask_number
    arc-only m l q design d z = absurd (omega arith)
    arc-only m l q pin d z = absurd (omega (arith, d.1))
    arc-only m l q arc d z = z
    arc-only m l q test d z = absurd (omega (arith, d.0))
    arc-only m l q ask d z = absurd (omega (arith, d.0))

    test-only : pins_of x + arcs_of x ≤ i → (q : Refusal) (k : LineKind) → Due x (2 + i) k → Line k (2 + i) q → Line test (2 + i) q
    unfolding lines_due ask_number
    test-only m q design d z = absurd (omega arith)
    test-only m q pin d z = absurd (omega (arith, d.1))
    test-only m q arc d z = absurd (omega (arith, d.1))
    test-only m q test d z = z
    test-only m q ask d z = absurd (omega (arith, d.0))

    due-decides : Decides Earlier (DueLine i) (first_met (due_grounds x i))
    unfolding due_grounds due_line line_grounds lines_due pick
    due-decides =
        let p = pins_of x in
        let a = arcs_of x in
        by-test (ltb i p)
        (λ e.
        let l = ltb-true i p e in
        rw e
        (decides-as Earlier (pin-decides (2 + i)) (λ q z. (pin, (omega arith, omega arith), z)) (λ q z. pin-only l q z.0 z.1 z.2)))
        (λ e.
        let m = ltb-false i p e in
        by-test (ltb i (p + a))
        (λ f.
        let l = ltb-true i (p + a) f in
        rw (e, f)
        (decides-as Earlier (arc-decides (2 + i)) (λ q z. (arc, (omega arith, omega arith), z)) (λ q z. arc-only m l q z.0 z.1 z.2)))
        (λ f.
        let n = ltb-false i (p + a) f in
        rw (e, f)
        (decides-as Earlier (test-decides (2 + i)) (λ q z. (test, (omega arith, omega arith), z)) (λ q z. test-only n q z.0 z.1 z.2))))

  -- refusals of lines, by their places
  before-lines : (q r : Refusal) (m n : ℕ) → (turn q ≡ 1) × (place_of q ≡ m) → (turn r ≡ 1) × (place_of r ≡ n) → m < n → Earlier q r
  before-lines q r m n f g l = inr (f.0 ∙ sym g.0, inl (omega (arith, f.1, g.1)))

  abbrev Dues : Refusal → Type 0
  Dues q = (i : ℕ) × (i < lines_due x) × DueLine i q

  dues-decide : Decides Earlier Dues (first_met (gather (due_grounds x) (below (lines_due x))))
  dues-decide =
      decides-gather Earlier not_itself not_back (due_grounds x) DueLine (lines_due x) due-decides
      (λ i j l q r h k. before-lines q r (2 + i) (2 + j) (line_at h.0 (2 + i) q h.2) (line_at k.0 (2 + j) r k.2) (omega arith))

  -- ---- `ask`, and what follows it
  abbrev n : ℕ
  n = ask_number x

  abbrev Follows : Refusal → Type 0
  Follows q = (q ≡ LineNotDue (n + 1)) × Stands x (n + 1)

  abbrev Asked : Refusal → Type 0
  Asked q = Stands x n × (Line ask n q ⊎ Follows q)

  follows-at : (q : Refusal) → Follows q → (turn q ≡ 1) × (place_of q ≡ n + 1)
  follows-at q (e, h) = rw e (refl, refl)

  asked-decides : Decides Earlier Asked (first_met (ask_grounds x n))
  unfolding ask_grounds pick
  asked-decides =
      by-test (more x n)
      (λ e.
      rw e
      (decides-as Earlier
      (decides-append Earlier not_itself not_back (line_grounds x n ask_line) (ground (more x (n + 1)) (LineNotDue (n + 1)) ∷ []) (ask-decides n)
      (decides-one Earlier not_itself (more x (n + 1)) (LineNotDue (n + 1)) (stands-means x (n + 1)))
      (λ q r h k. inl (before-lines q r n (n + 1) (line_at ask n q h) (follows-at r k) (omega arith))))
      (λ q h. ((stands-means x n).0 e, h)) (λ q h. h.1)))
      (λ e. rw e (decides-as Earlier (decides-none Earlier) (λ q h. absurd h) (λ q h. means-fails (stands-means x n) e h.0)))

  asked-at : (q : Refusal) → Asked q → (turn q ≡ 1) × (n ≤ place_of q)
  asked-at q (s, inl h) = let r = line_at ask n q h in (r.0, omega (arith, r.1))
  asked-at q (s, inr h) = let r = follows-at q h in (r.0, omega (arith, r.1))

  dues-at : (q : Refusal) → Dues q → (turn q ≡ 1) × (2 ≤ place_of q) × (place_of q < n)
  unfolding ask_number
  dues-at q (i, l, (k, d, h)) = let r = line_at k (2 + i) q h in (r.0, omega (arith, r.1), omega (arith, r.1))

  -- ---- all of it
  module _ (room : ℕ) where
    abbrev Long : Refusal → Type 0
    Long q = (q ≡ TextLong) × (65536 < length x)

    abbrev Short : Refusal → Type 0
    Short q = (q ≡ TableRoom) × (room < table_length x)

    short-turn : (q : Refusal) → Short q → turn q ≡ 2
    short-turn q (e, h) = rw e refl

    -- from `ask` on, from the lines due on, from `design` on
    abbrev Last : Refusal → Type 0
    Last q = Asked q ⊎ Short q

    abbrev Rest : Refusal → Type 0
    Rest q = Dues q ⊎ Last q

    abbrev Lines : Refusal → Type 0
    Lines q = Line design 1 q ⊎ Rest q

    before_last : (q r : Refusal) → (turn q ≡ 1) × (place_of q < n) → Last r → Earlier q r
    before_last q r f (inl h) = let y = asked-at r h in inr (f.0 ∙ sym y.0, inl (omega (arith, f.1, y.1)))
    before_last q r f (inr h) = inl (omega (arith, f.0, short-turn r h))

    before-rest : (q r : Refusal) → (turn q ≡ 1) × (place_of q ≡ 1) → Rest r → Earlier q r
    unfolding ask_number
    before-rest q r f (inl h) = let y = dues-at r h in inr (f.0 ∙ sym y.0, inl (omega (arith, f.1, y.1)))
    before-rest q r f (inr h) = before_last q r (f.0, omega (arith, f.1)) h

    line-turns : (q : Refusal) → Lines q → 1 ≤ turn q
    line-turns q (inl h) = omega (arith, (line_at design 1 q h).0)
    line-turns q (inr (inl h)) = omega (arith, (dues-at q h).0)
    line-turns q (inr (inr (inl h))) = omega (arith, (asked-at q h).0)
    line-turns q (inr (inr (inr h))) = omega (arith, short-turn q h)

    some-decides : Decides Earlier (λ q. Long q ⊎ Lines q) (text_fault x room)
    unfolding text_fault text_grounds
    some-decides =
        decides-cons Earlier not_itself not_back (ltb most_text (length x)) TextLong _ (means-less most_text (length x))
        (decides-append Earlier not_itself not_back (line_grounds x 1 design_line) _ (design-decides 1)
        (decides-append Earlier not_itself not_back (gather (due_grounds x) (below (lines_due x))) _ dues-decide
        (decides-append Earlier not_itself not_back (ask_grounds x n) _ asked-decides
        (decides-one Earlier not_itself (ltb room (table_length x)) TableRoom (means-less room (table_length x)))
        (λ q r h k. inl (inl (omega (arith, (asked-at q h).0, short-turn r k)))))
        (λ q r h k. let y = dues-at q h in inl (before_last q r (y.0, y.2) k)))
        (λ q r h k. inl (before-rest q r (line_at design 1 q h) k)))
        (λ r k. inl (inl (omega (arith, line-turns r k))))

    -- ---- as the sentences have it
    line-holds : (k : LineKind) (m : ℕ) (q : Refusal) → Due x m k → Line k m q → TextHolds x room q
    line-holds k m q d (inl (e, h)) = rw e (inl (k, d, h))
    line-holds k m q d (inr (inl (e, h))) = rw e (k, d, h)
    line-holds k m q d (inr (inr (e, h))) = rw e (k, d, h)

    some_holds : (q : Refusal) → Long q ⊎ Lines q → TextHolds x room q
    unfolding table_length
    some_holds q (inl (e, h)) = rw e h
    some_holds q (inr (inl h)) = line-holds design 1 q refl h
    some_holds q (inr (inr (inl (i, l, (k, d, h))))) = line-holds k (2 + i) q d h
    some_holds q (inr (inr (inr (inl (s, inl h))))) = line-holds ask n q (refl, s) h
    some_holds q (inr (inr (inr (inl (s, inr (e, h)))))) = rw e (inr (refl, s, h))
    some_holds q (inr (inr (inr (inr (e, h))))) = rw e h

    between : (k : LineKind) (m : ℕ) (q : Refusal) → 2 ≤ m → m < 2 + lines_due x → Due x m k → Line k m q → Long q ⊎ Lines q
    between k m q l o d h =
        let e : 2 + (m - 2) ≡ m = omega arith in
        inr (inr (inl (m - 2, omega arith, (k, rw e d, rw e h))))

    -- a line that is due is `design`, one of those between, or `ask`
    due-line : (k : LineKind) (m : ℕ) (q : Refusal) → Due x m k → Line k m q → Long q ⊎ Lines q
    unfolding lines_due ask_number
    due-line design m q d h = inr (inl (rw d at h))
    due-line pin m q d h = between pin m q (omega (arith, d.0)) (omega (arith, d.1)) d h
    due-line arc m q d h = between arc m q (omega (arith, d.0)) (omega (arith, d.1)) d h
    due-line test m q d h = between test m q (omega (arith, d.0)) (omega (arith, d.1)) d h
    due-line ask m q d h = inr (inr (inr (inl (rw d.0 at d.1, inl (rw d.0 at h)))))

    holds-some : (q : Refusal) → TextHolds x room q → Long q ⊎ Lines q
    unfolding table_length
    holds-some TextLong h = inl (refl, h)
    holds-some (LineNotDue m) (inl (k, d, h)) = due-line k m (LineNotDue m) d (inl (refl, h))
    holds-some (LineNotDue m) (inr (e, s, h)) = inr (inr (inr (inl (s, inr (ap LineNotDue e, rw e at h)))))
    holds-some (FieldCount m) (k, d, h) = due-line k m (FieldCount m) d (inr (inl (refl, h)))
    holds-some (FieldForm m) (k, d, h) = due-line k m (FieldForm m) d (inr (inr (refl, h)))
    holds-some TableRoom h = inr (inr (inr (inr (refl, h))))
    holds-some TableHeader h = absurd h
    holds-some (PinNumbers p) h = absurd h
    holds-some RootCount h = absurd h
    holds-some (ArcEnds a) h = absurd h
    holds-some (ArcKinds a) h = absurd h
    holds-some (ArcRange a) h = absurd h
    holds-some (ArcsInto p) h = absurd h
    holds-some (TestNumbers j) h = absurd h
    holds-some ModeOrK h = absurd h
    holds-some RowRoom h = absurd h
    holds-some ListCount h = absurd h

    pub text-decides : Decides Earlier (TextHolds x room) (text_fault x room)
    text-decides = decides-as Earlier some-decides some_holds holds-some
