-- The refusals of a line and of a text, in their order. Assumes nothing.
use Rattle.std.proofs.Common.{◌≡◌, ℕ, suc, ◌+◌, ◌-◌, ◌*◌, ◌<◌, ◌≤◌, true, false, ltb, List, [], ◌∷◌, ◌++◌, length, take, drop, Ok, Err, sym, refl, ap, ◌∙◌, append_assoc, arith, le-ltb, lt-ltb}
use mathlib.Core.Option.{none, some}
use Rattle.lists.specs.Choice.{pick, Ground, ground, first_met}
use Rattle.lists.specs.Parts.{below, gather, written}
use Rattle.lists.specs.Laws.Cut.{end_at}
use Rattle.lists.specs.Laws.Write.{sets}
use Rattle.lists.specs.Laws.Unmet.{Unmet}
use Rattle.lists.proofs.Laws.Chosen.{met-append, met-front}
use Rattle.lists.proofs.Laws.Unmet.{unmet-none, unmet-left, unmet-right, unmet-rest, unmet-gather}
use Rattle.lists.proofs.Laws.Write.{sets-front}
use Rattle.timing.specs.declared.Design.{Design}
use Rattle.timing.specs.declared.Refusal.{Refusal}
use Rattle.timing.specs.declared.Refusal.TheVariants.{FieldForm, LineNotDue, TableRoom, TextLong}
use Rattle.timing.specs.Limits.{most_text}
use Rattle.timing.specs.Field.{Bytes, design_word}
use Rattle.timing.specs.Line.{number_in, sizes_bad, design_line, four_line, ask_line, four_of}
use Rattle.timing.specs.Text.{line_of, pins_of, arcs_of, tests_of, lines_due, ask_number, more, due_line, line_grounds, due_grounds, ask_grounds, due_of, text_grounds, text_fault, table_length, table_of, mode_at, k_at}
use Rattle.reader.specs.declared.Taken.{Taken}
use Rattle.reader.specs.declared.Survey.{Survey}
use Rattle.reader.specs.Cut.{start_of, next_at, start-zero}
use Rattle.reader.specs.Scan.{line_from, due_in, PlainTo}
use Rattle.reader.specs.Answer.{told, sizes_of, asked_in, asked_at, due_at, DueTo, survey_grounds, survey_of, found_in, Sizes, Clean, table_to}
use Rattle.reader.proofs.Bytes.{number_small}
use Rattle.reader.proofs.Lines.{line_at, line-there, line-absent, next-line-at, more-some, more-none}
use Rattle.reader.proofs.Scan.{plain-next, plain-says, plain-clean}
use Rattle.reader.proofs.Writing.{table-long}
use Rattle.reader.proofs.Told.{told-ok, told-err}

-- ---- `design`

pub design_early : (l : Bytes) (n : ℕ) (r : Refusal) → first_met (four_line design_word l n) ≡ some r → first_met (design_line l n) ≡ some r
unfolding design_line four_line
design_early l n r e = met-front (four_line design_word l n) (ground (sizes_bad (number_in l 1) (number_in l 2) (number_in l 3)) (FieldForm n) ∷ []) r e

pub design_late : (l : Bytes) (n : ℕ) → first_met (four_line design_word l n) ≡ none
    → first_met (design_line l n) ≡ first_met (ground (sizes_bad (number_in l 1) (number_in l 2) (number_in l 3)) (FieldForm n) ∷ [])
unfolding design_line four_line
design_late l n e = met-append (four_line design_word l n) (ground (sizes_bad (number_in l 1) (number_in l 2) (number_in l 3)) (FieldForm n) ∷ []) e

-- the first line, which ends at e
module _ (x : Bytes) where
  pub design-there : (l : Bytes) → end_at 10 x 0 < length x → l ≡ line_from x 0 → first_met (line_grounds x 1 design_line) ≡ first_met (design_line l 1)
  design-there l q e = line-there x 0 0 (end_at 10 x 0) 1 (sym (start-zero 10 x)) refl refl design_line q ∙ rw e refl

  pub design-absent : length x ≤ end_at 10 x 0 → first_met (line_grounds x 1 design_line) ≡ some (LineNotDue 1)
  design-absent q = line-absent x 0 0 (end_at 10 x 0) 1 (sym (start-zero 10 x)) refl refl design_line q

  pub design-behind : next_at 10 x 0 ≡ start_of 10 x 1
  design-behind = next-line-at x 0 0 (end_at 10 x 0) 1 (sym (start-zero 10 x)) refl refl

  pub design-is : line_of x 1 ≡ line_from x 0
  design-is = line_at x 0 0 (end_at 10 x 0) 1 (sym (start-zero 10 x)) refl refl

-- the sizes among the numbers of the line
pub sizes-are : (x : Bytes) (d : Design) (vs : List ℕ) → d ≡ sizes_of vs → vs ≡ four_of (line_of x 1) → Sizes x d
unfolding four_of pins_of arcs_of tests_of
sizes-are x d vs e f = record { pins-are = rw (e, f) refl; arcs-are = rw (e, f) refl; tests-are = rw (e, f) refl }

pub small : (x : Bytes) (d : Design) → Sizes x d → (d.pins < 10000000) × ((d.arcs < 10000000) × (d.tests < 10000000))
unfolding pins_of arcs_of tests_of
small x d s = (
  omega (arith, s.pins-are, number_small (line_of x 1) 1),
  (omega (arith, s.arcs-are, number_small (line_of x 1) 2), omega (arith, s.tests-are, number_small (line_of x 1) 3)),
)

-- ---- the lines due

-- the line due at i, a plain one
pub due-plain : (x : Bytes) (at p a i : ℕ) (d : Taken (List ℕ)) → PlainTo (due_line p a i) (due_of p i) x at d.next (due_in p i d.value) → at ≡ start_of 10 x (i + 1) → DueTo x p a i d
due-plain x at p a i d s h = record {
  clean = plain-clean x at p a i d.next (due_in p i d.value) s h;
  behind = plain-next x at p a i d.next (due_in p i d.value) s ∙ next-line-at x (i + 1) at (end_at 10 x at) (i + 2) h refl (omega arith);
  says = plain-says x at p a i d.next (due_in p i d.value) s ∙ ap (due_of p i) (sym (line_at x (i + 1) at (end_at 10 x at) (2 + i) h refl (omega arith)));
}

-- any other, field by field
module _ (x : Bytes) (at p a i : ℕ) (h : at ≡ start_of 10 x (i + 1)) where
  pub due-read : (d : Taken (List ℕ)) (l : Bytes) → end_at 10 x at < length x → l ≡ line_from x at → d.next ≡ next_at 10 x at → first_met (due_line p a i l (2 + i)) ≡ none
      → due_in p i d.value ≡ due_of p i l → DueTo x p a i d
  unfolding due_at
  due-read d l q e n f v = record {
    clean = line-there x (i + 1) at (end_at 10 x at) (2 + i) h refl (omega arith) (due_line p a i) q ∙ rw (← e) f;
    behind = n ∙ next-line-at x (i + 1) at (end_at 10 x at) (i + 2) h refl (omega arith);
    says = v ∙ ap (due_of p i) (e ∙ sym (line_at x (i + 1) at (end_at 10 x at) (2 + i) h refl (omega arith)));
  }

  pub due-refused : (l : Bytes) (r : Refusal) → end_at 10 x at < length x → l ≡ line_from x at → first_met (due_line p a i l (2 + i)) ≡ some r → first_met (due_at x p a i) ≡ some r
  unfolding due_at
  due-refused l r q e f = line-there x (i + 1) at (end_at 10 x at) (2 + i) h refl (omega arith) (due_line p a i) q ∙ rw (← e) f

  pub due-absent : length x ≤ end_at 10 x at → first_met (due_at x p a i) ≡ some (LineNotDue (2 + i))
  unfolding due_at
  due-absent q = line-absent x (i + 1) at (end_at 10 x at) (2 + i) h refl (omega arith) (due_line p a i) q

-- the first i of n lines due are passed
pub record Walking (x : Bytes) (p a n i at : ℕ) : Type 0 where
  pub here : at ≡ start_of 10 x (i + 1)
  pub clean : (y : ℕ) → y < i → first_met (due_at x p a y) ≡ none

-- ---- the text

pub long : (x : Bytes) → most_text < length x → first_met (survey_grounds x) ≡ some TextLong
unfolding survey_grounds first_met
long x h = rw (lt-ltb most_text (length x) h) refl

short : (x : Bytes) → length x ≤ most_text → first_met (survey_grounds x) ≡ first_met (line_grounds x 1 design_line ++ (gather (due_grounds x) (below (lines_due x)) ++ ask_grounds x (ask_number x)))
unfolding survey_grounds first_met
short x h = rw (le-ltb most_text (length x) h) refl

pub at-design : (x : Bytes) (r : Refusal) → length x ≤ most_text → first_met (line_grounds x 1 design_line) ≡ some r → first_met (survey_grounds x) ≡ some r
at-design x r h e = short x h ∙ met-front (line_grounds x 1 design_line) (gather (due_grounds x) (below (lines_due x)) ++ ask_grounds x (ask_number x)) r e

-- how many lines are due
abbrev pub due_of_sizes : Design → ℕ
due_of_sizes d = d.pins + d.arcs + d.tests

module _ (x : Bytes) (d : Design) (s : Sizes x d) where
  due-is : gather (due_grounds x) (below (lines_due x)) ≡ gather (due_at x d.pins d.arcs) (below (due_of_sizes d))
  unfolding due_grounds due_at lines_due
  due-is = rw (s.pins-are, s.arcs-are, s.tests-are) refl

  pub ask-is : ask_number x ≡ 2 + due_of_sizes d
  unfolding ask_number lines_due
  ask-is = rw (s.pins-are, s.arcs-are, s.tests-are) refl

  module _ (l : length x ≤ most_text) (e : first_met (line_grounds x 1 design_line) ≡ none) where
    behind-design : first_met (survey_grounds x) ≡ first_met (gather (due_at x d.pins d.arcs) (below (due_of_sizes d)) ++ ask_grounds x (ask_number x))
    behind-design =
        short x l
        ∙ met-append (line_grounds x 1 design_line) (gather (due_grounds x) (below (lines_due x)) ++ ask_grounds x (ask_number x)) e
        ∙ ap (λ (gs : List (Ground Refusal)). first_met (gs ++ ask_grounds x (ask_number x))) due-is

    pub at-due : (r : Refusal) → first_met (gather (due_at x d.pins d.arcs) (below (due_of_sizes d))) ≡ some r → first_met (survey_grounds x) ≡ some r
    at-due r e = behind-design ∙ met-front (gather (due_at x d.pins d.arcs) (below (due_of_sizes d))) (ask_grounds x (ask_number x)) r e

    pub at-ask : first_met (gather (due_at x d.pins d.arcs) (below (due_of_sizes d))) ≡ none → first_met (survey_grounds x) ≡ first_met (ask_grounds x (2 + due_of_sizes d))
    at-ask e =
        behind-design
        ∙ met-append (gather (due_at x d.pins d.arcs) (below (due_of_sizes d))) (ask_grounds x (ask_number x)) e
        ∙ ap (λ (n : ℕ). first_met (ask_grounds x n)) ask-is

-- ---- `ask`: line n, the one behind m others, begins at a and ends at e

module _ (x : Bytes) (m a e n : ℕ) (s : a ≡ start_of 10 x m) (g : e ≡ end_at 10 x a) (k : n ≡ suc m) where
  pub ask-none : length x ≤ a → told (first_met (ask_grounds x n)) (asked_at x n) ≡ Ok (record { mode = 0; k = 1 })
  unfolding ask_grounds first_met mode_at k_at pick
  ask-none h = let w = more-none x m a e n s g k h in rw w refl

  module _ (h : a < length x) where
    asked : first_met (ask_grounds x n) ≡ first_met (line_grounds x n ask_line ++ (ground (more x (n + 1)) (LineNotDue (n + 1)) ∷ []))
    unfolding ask_grounds pick
    asked = rw (more-some x m a e n s g k h) refl

    pub ask-refused : (r : Refusal) → first_met (line_grounds x n ask_line) ≡ some r → told (first_met (ask_grounds x n)) (asked_at x n) ≡ Err r
    ask-refused r q = rw (asked ∙ met-front (line_grounds x n ask_line) (ground (more x (n + 1)) (LineNotDue (n + 1)) ∷ []) r q) refl

    module _ (q : first_met (line_grounds x n ask_line) ≡ none) where
      ask-fine : first_met (ask_grounds x n) ≡ first_met (ground (more x (n + 1)) (LineNotDue (n + 1)) ∷ [])
      ask-fine = asked ∙ met-append (line_grounds x n ask_line) (ground (more x (n + 1)) (LineNotDue (n + 1)) ∷ []) q

      pub ask-follows : more x (n + 1) ≡ true → told (first_met (ask_grounds x n)) (asked_at x n) ≡ Err (LineNotDue (n + 1))
      unfolding first_met
      ask-follows w = rw (ask-fine, w) refl

      pub ask-read : more x (n + 1) ≡ false → told (first_met (ask_grounds x n)) (asked_at x n) ≡ Ok (asked_in (take (e - a) (drop a x)))
      unfolding first_met mode_at k_at pick
      ask-read w = rw (ask-fine, w, more-some x m a e n s g k h, line_at x m a e n s g k) refl

-- ---- the room, and what the first pass found

text-is : (x : Bytes) (room : ℕ) → text_grounds x room ≡ survey_grounds x ++ (ground (ltb room (table_length x)) TableRoom ∷ [])
unfolding text_grounds survey_grounds
text-is x room =
    let last = ground (ltb room (table_length x)) TableRoom ∷ [] in
    ap (λ (gs : List (Ground Refusal)). ground (ltb most_text (length x)) TextLong ∷ gs)
    (sym
    (append_assoc (line_grounds x 1 design_line) (gather (due_grounds x) (below (lines_due x)) ++ ask_grounds x (ask_number x)) last
    ∙ ap (λ (gs : List (Ground Refusal)). line_grounds x 1 design_line ++ gs) (append_assoc (gather (due_grounds x) (below (lines_due x))) (ask_grounds x (ask_number x)) last)))

pub fault-early : (x : Bytes) (room : ℕ) (r : Refusal) → first_met (survey_grounds x) ≡ some r → text_fault x room ≡ some r
unfolding text_fault
fault-early x room r e = ap first_met (text-is x room) ∙ met-front (survey_grounds x) (ground (ltb room (table_length x)) TableRoom ∷ []) r e

-- what the first pass told
pub survey-clean : (x : Bytes) (s : Survey) → Ok s ≡ survey_of x → Clean x s.design × (s.asked ≡ asked_at x (ask_number x))
unfolding survey_of
survey-clean x s e =
    let t = told-ok (first_met (survey_grounds x)) (found_in x) s e in
    (record { fine = t.0; sizes = rw t.1 (record { pins-are = refl; arcs-are = refl; tests-are = refl }) }, rw t.1 refl)

pub survey-refused : (x : Bytes) (r : Refusal) → Err r ≡ survey_of x → first_met (survey_grounds x) ≡ some r
unfolding survey_of
survey-refused x r e = told-err (first_met (survey_grounds x)) (found_in x) r e

module _ (x : Bytes) (d : Design) (f : Clean x d) where
  pub length-is : table_length x ≡ 4 + 3 * d.pins + 4 * d.arcs + 4 * d.tests
  unfolding table_length
  length-is = rw (← f.sizes.pins-are, ← f.sizes.arcs-are, ← f.sizes.tests-are) refl

  fault-last : (room : ℕ) → text_fault x room ≡ first_met (ground (ltb room (table_length x)) TableRoom ∷ [])
  unfolding text_fault
  fault-last room = ap first_met (text-is x room) ∙ met-append (survey_grounds x) (ground (ltb room (table_length x)) TableRoom ∷ []) f.fine

  pub fault-short : (room : ℕ) → room < 4 + 3 * d.pins + 4 * d.arcs + 4 * d.tests → text_fault x room ≡ some TableRoom
  unfolding first_met
  fault-short room h = fault-last room ∙ rw (length-is, lt-ltb _ _ h) refl

  pub fault-none : (room : ℕ) → 4 + 3 * d.pins + 4 * d.arcs + 4 * d.tests ≤ room → text_fault x room ≡ none
  unfolding first_met
  fault-none room h = fault-last room ∙ rw (length-is, le-ltb _ _ h) refl

  table_is : table_to x d.pins (due_of_sizes d) ≡ table_of x
  unfolding table_to table_of lines_due
  table_is = rw (f.sizes.pins-are, f.sizes.arcs-are, f.sizes.tests-are) refl

  pub table-stands : (u : List ℕ) → 4 + 3 * d.pins + 4 * d.arcs + 4 * d.tests ≤ length u → sets u 0 (table_to x d.pins (due_of_sizes d)) ≡ written (table_of x) u
  table-stands u h =
      sets-front (table_to x d.pins (due_of_sizes d)) u (omega (arith, table-long x d.pins (due_of_sizes d))) ∙ ap (λ (v : List ℕ). written v u) table_is

  behind-length : Unmet (line_grounds x 1 design_line ++ (gather (due_grounds x) (below (lines_due x)) ++ ask_grounds x (ask_number x)))
  unfolding survey_grounds
  behind-length = unmet-rest ((unmet-none (survey_grounds x)).0 f.fine)

  -- no line has a fault
  pub clean-design : first_met (line_grounds x 1 design_line) ≡ none
  clean-design = (unmet-none (line_grounds x 1 design_line)).1 (unmet-left (line_grounds x 1 design_line) (gather (due_grounds x) (below (lines_due x)) ++ ask_grounds x (ask_number x)) behind-length)

  pub clean-due : (i : ℕ) → i < due_of_sizes d → first_met (due_at x d.pins d.arcs i) ≡ none
  unfolding due_grounds due_at lines_due
  clean-due i l =
      let u = unmet-left (gather (due_grounds x) (below (lines_due x))) (ask_grounds x (ask_number x)) (unmet-right (line_grounds x 1 design_line) (gather (due_grounds x) (below (lines_due x)) ++ ask_grounds x (ask_number x)) behind-length) in
      rw (f.sizes.pins-are, f.sizes.arcs-are) ((unmet-none (due_grounds x i)).1 ((unmet-gather (due_grounds x) (lines_due x)).0 u i (rw (← f.sizes.pins-are, ← f.sizes.arcs-are, ← f.sizes.tests-are) l)))
