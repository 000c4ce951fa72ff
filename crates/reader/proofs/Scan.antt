-- A line taken by one scan: field by field, and what the fields come to. Assumes nothing.
use Rattle.std.proofs.Common.{◌≡◌, ℕ, zero, suc, ◌+◌, ◌-◌, ◌*◌, ◌<◌, ◌≤◌, true, false, List, [], ◌∷◌, ◌++◌, length, get_or, drop, sym, refl, ap, ◌∙◌, append_assoc, arith, length-append, length-drop, take-append-drop, get_or-drop, drop-drop, eq-eqb, ne_eqb, le-leb}
use mathlib.Core.Option.{none}
use native.Mathlib.Decide.{ℕ_discrete, dec_le}
use lib.Seq.{take-append_seam, get_or-append_seam}
use Rattle.lists.specs.Choice.{pick, first_met}
use Rattle.lists.specs.Parts.{every, each, onto, split, same}
use Rattle.lists.specs.Laws.Cut.{reach, end_at}
use Rattle.lists.proofs.Laws.Cut.{one_on, same-exactly}
use Rattle.lists.specs.Laws.Member.{All}
use Rattle.lists.proofs.Laws.Member.{all_app, all_map, all_of, in-every}
use Rattle.timing.specs.declared.Kind.{Kind}
use Rattle.timing.specs.declared.Kind.TheVariants.{R, B, K, I, D}
use Rattle.timing.specs.Kinds.{has_times, kind_number}
use Rattle.timing.specs.Field.{Bytes, pin_word, digit, well_formed, value_from, value, number_or_0, kind_of, letter}
use Rattle.timing.specs.Line.{field_of, field_count, is_number, number_in, other_word, four_numbers, line_kind, pin_line, four_line, four_of, pin_of}
use Rattle.timing.specs.Text.{due_line, due_of}
use Rattle.reader.specs.Cut.{start_of, next_at}
use Rattle.reader.specs.Answer.{due_at}
use Rattle.reader.specs.Scan.{last_byte, line_from, InField, InLine, Stands, NumberTo, WordTo, PlainTo}
use Rattle.reader.proofs.Bytes.{tens, tens-more}
use Rattle.reader.proofs.Lines.{over-before, line-there}

-- ---- one byte on

-- a byte before the last, byte 10, has one behind it
pub more-behind : (x : Bytes) (i : ℕ) → i < length x → last_byte x ≡ 10 → (get_or x i 0 ≡ 10 → ⊥) → i + 1 < length x
more-behind x i h e n = elim (ℕ_discrete i (length x - 1)) [
  | yes q ↦ absurd (n (ap (λ (j : ℕ). get_or x j 0) q ∙ e))
  | no q ↦ omega arith
]

-- ---- the digits of a number

abbrev Digit : ℕ → Type 0
Digit b = (48 ≤ b) × (b ≤ 57)

-- from a to i stand digits, which say v: no zero leads them, and they are at most seven
pub record Digits (x : Bytes) (a v i : ℕ) : Type 0 where
  pub inside : i < length x
  pub f : Bytes
  pub text : drop a x ≡ f ++ drop i x
  pub long : i ≡ a + length f
  pub some : 0 < length f
  pub digits : All Digit f
  pub so_far : value f ≡ v
  pub most : v ≤ 9999999
  pub zero-alone : v ≡ 0 → length f ≡ 1
  pub high : 0 < v → tens (length f) ≤ 10 * v
  pub leads : get_or f 0 0 ≡ 48 → v ≡ 0

pub digits-first : (x : Bytes) (a v : ℕ) → a < length x → last_byte x ≡ 10 → v ≤ 9 → get_or x a 0 ≡ v + 48 → Digits x a v (a + 1)
unfolding value value_from tens
digits-first x a v h e m d = record {
  inside = more-behind x a h e (λ z. omega arith);
  f = get_or x a 0 ∷ [];
  text = one_on x a h;
  long = refl;
  some = omega arith;
  digits = ((omega arith, omega arith), tt);
  so_far = omega arith;
  most = omega arith;
  zero-alone = λ z. refl;
  high = λ z. omega arith;
  leads = λ z. omega arith;
}

value-snoc : (n : ℕ) (f : Bytes) (b : ℕ) → value_from n (f ++ (b ∷ [])) ≡ value_from n f * 10 + (b - 48)
unfolding value_from
value-snoc n [] b = refl
value-snoc n (c ∷ f) b = value-snoc (n * 10 + (c - 48)) f b

lead_snoc : (f : Bytes) (b : ℕ) → 0 < length f → get_or (f ++ (b ∷ [])) 0 0 ≡ get_or f 0 0
lead_snoc [] b h = absurd (omega arith)
lead_snoc (c ∷ f) b h = refl

pub digits_more : (x : Bytes) (a v i d : ℕ) → Digits x a v i → last_byte x ≡ 10 → d ≤ 9 → get_or x i 0 ≡ d + 48 → (v ≡ 0 → ⊥) → v ≤ 999999
    → Digits x a (v * 10 + d) (i + 1)
unfolding value
digits_more x a v i d s e m g z k =
    let f = s.f in
    let b = get_or x i 0 in
    let n : length (f ++ (b ∷ [])) ≡ length f + 1 = length-append f (b ∷ []) in
    record {
      inside = more-behind x i s.inside e (λ q. omega arith);
      f = f ++ (b ∷ []);
      text = s.text ∙ rw (one_on x i s.inside) (sym (append_assoc f (b ∷ []) (drop (i + 1) x)));
      long = omega (arith, n, s.long);
      some = omega (arith, n);
      digits = all_app Digit f (b ∷ []) s.digits ((omega arith, omega arith), tt);
      so_far = value-snoc 0 f b ∙ omega (arith, s.so_far, g);
      most = omega arith;
      zero-alone = λ q. absurd (omega arith);
      high = λ q. rw n (omega (arith, tens-more (length f), s.high (omega arith)));
      leads = λ q. absurd (z (s.leads (sym (lead_snoc f b s.some) ∙ q)));
    }

eight-tens : (k : ℕ) → 100000000 ≤ tens (8 + k)
unfolding tens
eight-tens zero = omega arith
eight-tens (suc k) = let e : 8 + suc k ≡ suc (8 + k) = omega arith in rw e (omega (arith, eight-tens k))

-- ten to the digits is below a hundred million: at most seven digits
tens-seven : (n : ℕ) → tens n < 100000000 → n ≤ 7
tens-seven n h = elim (dec_le n 7) [
  | yes k ↦ k
  | no k ↦ let e : 8 + (n - 8) ≡ n = omega arith in absurd (omega (arith, h, rw e at (eight-tens (n - 8))))
]

-- the digits end at i, at the byte c: a number
pub digits_last : (c : ℕ) (x : Bytes) (a v i : ℕ) → Digits x a v i → get_or x i 0 ≡ c → NumberTo c x a (i + 1) v
unfolding well_formed number_or_0 pick
digits_last c x a v i s e =
    let f = s.f in
    let seven : length f ≤ 7 = elim (dec_le v 0) [
      | yes k ↦ omega (arith, s.zero-alone (omega arith))
      | no k ↦ tens-seven (length s.f) (omega (arith, s.high (omega arith), s.most))
    ] in
    let d : every digit f ≡ true = in-every digit f (λ b k. let q = all_of Digit f s.digits b k in rw (le-leb 48 b q.0, le-leb b 57 q.1) refl) in
    let w : well_formed f ≡ true = rw (le-leb 1 (length f) s.some, le-leb (length f) 7 seven, d) (elim (ℕ_discrete (get_or f 0 0) 48) [
      | yes q ↦ rw (eq-eqb _ _ q, eq-eqb (length s.f) 1 (s.zero-alone (s.leads q))) refl
      | no q ↦ rw (ne_eqb _ _ q) refl
    ]) in
    record {
      f = f;
      stands = record {
        text = s.text ∙ rw (one_on x i s.inside, e) refl;
        long = omega (arith, s.long);
        all = all_map Digit InField (λ b q. omega (arith, q.0)) f s.digits;
      };
      fine = w;
      says = rw w s.so_far;
    }

-- ---- a field, then the rest of the line

-- the byte that ends it is in the text
end-stands : (P : ℕ → Type 0) (c : ℕ) (x : Bytes) (a n : ℕ) (f : Bytes) → Stands P c x a n f → (n ≤ length x) × (get_or x (a + length f) 0 ≡ c)
end-stands P c x a n f s =
    let k : length x - a ≡ length f + suc (length (drop n x)) = sym (length-drop a x) ∙ ap length s.text ∙ length-append f (c ∷ drop n x) in
    (omega (arith, k, s.long), rw (← get_or-drop a x (length f) 0, s.text) (get_or-append_seam f c (drop n x) 0))

-- a tab is not the last byte
pub number_behind : {x : Bytes} {a n v : ℕ} → NumberTo 9 x a n v → last_byte x ≡ 10 → n < length x
number_behind {x} {a} {n} {v} s h =
    let q = end-stands InField 9 x a n s.f s.stands in
    omega (arith, s.stands.long, more-behind x (a + length s.f) (omega (arith, q.0, s.stands.long)) h (λ z. omega (arith, z, q.1)))

split-field : (f l : Bytes) → All InField f → split 9 (f ++ (9 ∷ l)) ≡ f ∷ split 9 l
unfolding split onto pick
split-field [] l h = refl
split-field (b ∷ f) l h = rw (ne_eqb b 9 (λ e. omega (arith, h.0)), split-field f l h.1) refl

split-alone : (f : Bytes) → All InField f → split 9 f ≡ f ∷ []
unfolding split onto pick
split-alone [] h = refl
split-alone (b ∷ f) h = rw (ne_eqb b 9 (λ e. omega (arith, h.0)), split-alone f h.1) refl

field-line : (f : Bytes) → All InField f → All InLine f
field-line f h = all_map InField InLine (λ b k e. omega (arith, k)) f h

-- the field at a, ended by a tab, with the line that begins behind it
stands-more : {x : Bytes} {a d n : ℕ} {f l : Bytes} → Stands InField 9 x a d f → Stands InLine 10 x d n l → Stands InLine 10 x a n (f ++ (9 ∷ l))
stands-more {x} {a} {d} {n} {f} {l} s t = record {
  text = s.text ∙ rw t.text (sym (append_assoc f (9 ∷ l) (10 ∷ drop n x)));
  long = omega (arith, s.long, t.long, length-append f (9 ∷ l));
  all = all_app InLine f (9 ∷ l) (field-line f s.all) (λ z. omega (arith, z), t.all);
}

stands-last : {x : Bytes} {a n : ℕ} {f : Bytes} → Stands InField 10 x a n f → Stands InLine 10 x a n f
stands-last {x} {a} {n} {f} s = record { text = s.text; long = s.long; all = field-line f s.all }

-- from a to the end of the line stand numbers alone, which say vs; the next line begins at n
pub record NumbersTo (x : Bytes) (a n : ℕ) (vs : List ℕ) : Type 0 where
  pub l : Bytes
  pub stands : Stands InLine 10 x a n l
  pub fine : All (λ f. well_formed f ≡ true) (split 9 l)
  pub says : each number_or_0 (split 9 l) ≡ vs

-- the last number of a line
pub numbers-last : {x : Bytes} {a n v : ℕ} → NumberTo 10 x a n v → NumbersTo x a n (v ∷ [])
unfolding each
numbers-last s =
    let q = split-alone s.f s.stands.all in
    record { l = s.f; stands = stands-last s.stands; fine = rw q (s.fine, tt); says = rw (q, s.says) refl }

-- a number before others
pub numbers_more : {x : Bytes} {a d n v : ℕ} {vs : List ℕ} → NumberTo 9 x a d v → NumbersTo x d n vs → NumbersTo x a n (v ∷ vs)
unfolding each
numbers_more s t =
    let q = split-field s.f t.l s.stands.all in
    record {
      l = s.f ++ (9 ∷ t.l);
      stands = stands-more s.stands t.stands;
      fine = rw q (s.fine, t.fine);
      says = rw (q, s.says, t.says) refl;
    }

-- the word at a, its tab behind it, which is not the last byte
module _ (x : Bytes) (a : ℕ) (word : Bytes) (w : WordTo x a word) where
  pub word-behind : a + length word + 1 < length x
  word-behind = more-behind x (a + length word) w.inside w.last (λ z. omega (arith, z, w.tab))

  word_stands : All InField word → Stands InField 9 x a (a + length word + 1) word
  word_stands h = record {
    text = sym (take-append-drop (length word) (drop a x)) ∙ rw (w.is, drop-drop (length word) a x, one_on x (a + length word) w.inside, w.tab) refl;
    long = refl;
    all = h;
  }

-- ---- `arc` and `test`

-- the word and four numbers: no fault, and the numbers are the fields'
four-clean : (word l : Bytes) (fs : List Bytes) (v w y z : ℕ) → split 9 l ≡ word ∷ fs → All (λ f. well_formed f ≡ true) fs → each number_or_0 fs ≡ v ∷ w ∷ y ∷ z ∷ []
    → ((n : ℕ) → first_met (four_line word l n) ≡ none) × (v ∷ w ∷ y ∷ z ∷ [] ≡ four_of l)
unfolding four_line four_of other_word field_of field_count four_numbers is_number number_in first_met each
four-clean word l (f ∷ g ∷ h ∷ i ∷ []) v w y z s a u =
    let o : same word word ≡ true = (same-exactly word word).1 refl in
    (λ n. rw (s, o, a.0, a.1.0, a.1.1.0, a.1.1.1.0) refl, rw s (sym u))
four-clean word l [] v w y z s a u = absurd (omega (arith, ap length u))
four-clean word l (f ∷ []) v w y z s a u = absurd (omega (arith, ap length u))
four-clean word l (f ∷ g ∷ []) v w y z s a u = absurd (omega (arith, ap length u))
four-clean word l (f ∷ g ∷ h ∷ []) v w y z s a u = absurd (omega (arith, ap length u))
four-clean word l (f ∷ g ∷ h ∷ i ∷ j ∷ fs) v w y z s a u = absurd (omega (arith, ap length u))

pub four-plain : {x : Bytes} {at n v w y z : ℕ} {word : Bytes} → WordTo x at word → All InField word → NumbersTo x (at + length word + 1) n (v ∷ w ∷ y ∷ z ∷ [])
    → PlainTo (four_line word) four_of x at n (v ∷ w ∷ y ∷ z ∷ [])
four-plain {x} {at} {n} {v} {w} {y} {z} {word} t f s =
    let q = four-clean word (word ++ (9 ∷ s.l)) (split 9 s.l) v w y z (split-field word s.l f) s.fine s.says in
    record { l = word ++ (9 ∷ s.l); stands = stands-more (word_stands x at word t f) s.stands; clean = q.0; says = q.1 }

-- ---- `pin`

-- a kind is none of the numbers that no kind has
kind-known : (k : Kind) → kind_number k ≡ 5 → ⊥
kind-known R e = omega (arith, e)
kind-known B e = omega (arith, e)
kind-known K e = omega (arith, e)
kind-known I e = omega (arith, e)
kind-known D e = omega (arith, e)

pin-letters : All InField pin_word
pin-letters = (omega arith, (omega arith, (omega arith, tt)))

module _ (l : Bytes) (b k : ℕ) (e : letter (b ∷ []) ≡ k) (n : k ≡ 5 → ⊥) where
  -- the word and the letter of a kind without times
  pin-alone : split 9 l ≡ pin_word ∷ (b ∷ []) ∷ [] → has_times k ≡ false → ((m : ℕ) → first_met (pin_line l m) ≡ none) × (k ∷ 0 ∷ 0 ∷ [] ≡ pin_of l)
  unfolding pin_line pin_of other_word field_of field_count line_kind is_number number_in first_met same pick
  pin-alone s t = (λ m. rw (s, e, ne_eqb k 5 n, t) refl, rw (s, e, t) refl)

  -- the word, the letter of a kind with times, and two numbers
  pin-timed : (fs : List Bytes) (v w : ℕ) → split 9 l ≡ pin_word ∷ (b ∷ []) ∷ fs → All (λ f. well_formed f ≡ true) fs → each number_or_0 fs ≡ v ∷ w ∷ [] → has_times k ≡ true
      → ((m : ℕ) → first_met (pin_line l m) ≡ none) × (k ∷ v ∷ w ∷ [] ≡ pin_of l)
  unfolding pin_line pin_of other_word field_of field_count line_kind is_number number_in first_met same pick each
  pin-timed (f ∷ g ∷ []) v w s a u t = (λ m. rw (s, e, ne_eqb k 5 n, t, a.0, a.1.0) refl, rw (s, e, t) (ap (λ (r : List ℕ). k ∷ r) (sym u)))
  pin-timed [] v w s a u t = absurd (omega (arith, ap length u))
  pin-timed (f ∷ []) v w s a u t = absurd (omega (arith, ap length u))
  pin-timed (f ∷ g ∷ h ∷ fs) v w s a u t = absurd (omega (arith, ap length u))

kind-letter : (b : ℕ) → (kind_of b ≡ 5 → ⊥) → 10 < b
unfolding pick
kind-letter b n = elim (dec_le b 10) [
  | yes k ↦ absurd (n (rw (ne_eqb b 82 (λ e. omega arith), ne_eqb b 66 (λ e. omega arith), ne_eqb b 75 (λ e. omega arith), ne_eqb b 73 (λ e. omega arith), ne_eqb b 68 (λ e. omega arith)) refl))
  | no k ↦ omega arith
]

-- behind the word the letter at a, which names the kind k
module _ (x : Bytes) (at a : ℕ) (kind : Kind) (w : WordTo x at pin_word) (i : a ≡ at + 4) (e : kind_number kind ≡ kind_of (get_or x a 0)) where
  n : kind_number kind ≡ 5 → ⊥
  n = kind-known kind

  high : 10 < get_or x a 0
  high = kind-letter (get_or x a 0) (λ z. n (e ∙ z))

  inside : a < length x
  inside = omega (arith, word-behind x at pin_word w)

  pub letter-behind : a + 1 < length x
  letter-behind = more-behind x a inside w.last (λ z. omega (arith, z, high))

  letter-stands : (c : ℕ) → get_or x (a + 1) 0 ≡ c → Stands InField c x a (a + 1 + 1) (get_or x a 0 ∷ [])
  letter-stands c g = record { text = one_on x a inside ∙ rw (one_on x (a + 1) letter-behind, g) refl; long = refl; all = (high, tt) }

  letter-is : letter (get_or x a 0 ∷ []) ≡ kind_number kind
  unfolding letter pick
  letter-is = sym e

  word_first : Stands InField 9 x at a pin_word
  word_first = let j : at + length pin_word + 1 ≡ a = omega (arith, i) in rw j at (word_stands x at pin_word w pin-letters)

  pub pin-short : has_times (kind_number kind) ≡ false → get_or x (a + 1) 0 ≡ 10 → PlainTo pin_line pin_of x at (a + 1 + 1) (kind_number kind ∷ 0 ∷ 0 ∷ [])
  pin-short t g =
      let b = get_or x a 0 in
      let s = letter-stands 10 g in
      let q = pin-alone (pin_word ++ (9 ∷ b ∷ [])) b (kind_number kind) letter-is n (split-field pin_word (b ∷ []) pin-letters ∙ rw (split-alone (b ∷ []) s.all) refl) t in
      record { l = pin_word ++ (9 ∷ b ∷ []); stands = stands-more word_first (stands-last s); clean = q.0; says = q.1 }

  pub pin-long : (d v y : ℕ) → has_times (kind_number kind) ≡ true → get_or x (a + 1) 0 ≡ 9 → NumbersTo x (a + 1 + 1) d (v ∷ y ∷ []) → PlainTo pin_line pin_of x at d (kind_number kind ∷ v ∷ y ∷ [])
  pin-long d v y t g m =
      let b = get_or x a 0 in
      let s = letter-stands 9 g in
      let f = (b ∷ []) ++ (9 ∷ m.l) in
      let q = pin-timed (pin_word ++ (9 ∷ f)) b (kind_number kind) letter-is n (split 9 m.l) v y (split-field pin_word f pin-letters ∙ rw (split-field (b ∷ []) m.l s.all) refl) m.fine m.says t in
      record { l = pin_word ++ (9 ∷ f); stands = stands-more word_first (stands-more s m.stands); clean = q.0; says = q.1 }

-- ---- the line due

reach-line : (l z : Bytes) → All InLine l → reach 10 (l ++ (10 ∷ z)) ≡ length l
unfolding reach pick
reach-line [] z h = refl
reach-line (b ∷ l) z h = rw (ne_eqb b 10 h.0) (ap suc (reach-line l z h.1))

module _ (x : Bytes) (at p arcs i n : ℕ) (vs : List ℕ) (s : PlainTo (due_line p arcs i) (due_of p i) x at n vs) where
  -- the line ends where the search for byte 10 ends
  ends : n ≡ end_at 10 x at + 1
  ends = omega (arith, s.stands.long, ap (reach 10) s.stands.text ∙ reach-line s.l (drop n x) s.stands.all)

  line-is : line_from x at ≡ s.l
  line-is =
      let k : end_at 10 x at - at ≡ length s.l = omega (arith, ends, s.stands.long) in
      rw (k, s.stands.text) (take-append_seam s.l (10 ∷ drop n x))

  whole : end_at 10 x at < length x
  whole = omega (arith, ends, (end-stands InLine 10 x at n s.l s.stands).0)

  pub plain-next : n ≡ next_at 10 x at
  plain-next = ends ∙ sym (over-before x (end_at 10 x at) whole)

  pub plain-says : vs ≡ due_of p i (line_from x at)
  plain-says = rw line-is s.says

  pub plain-clean : at ≡ start_of 10 x (i + 1) → first_met (due_at x p arcs i) ≡ none
  unfolding due_at
  plain-clean h = line-there x (i + 1) at (end_at 10 x at) (2 + i) h refl (omega arith) (due_line p arcs i) whole ∙ rw line-is (s.clean (2 + i))
