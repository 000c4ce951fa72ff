-- The refusals of a text, 1 to 5, as sentences: for each number when it is due. The order is that of `Conditions`: 1; then line by line 2, 3, 4; then 5.
--
-- Lines are counted from 1. `whole` is how many lines have their byte 10, `line_of` a line's bytes without it, `field_of` a field, of which the word is field 0.
-- Assumes nothing.
use Rattle.std.specs.Prelude.{◌≡◌, ◌⊎◌, ◌≢◌, ℕ, ◌+◌, ◌*◌, ◌≤◌, ◌<◌, length, get_or}
use Rattle.lists.specs.Laws.Member.{In}
use Rattle.timing.specs.declared.Refusal.{Refusal}
use Rattle.timing.specs.declared.Refusal.TheVariants.{TextLong, LineNotDue, FieldCount, FieldForm, TableRoom, TableHeader, PinNumbers, RootCount, ArcEnds, ArcKinds, ArcRange, ArcsInto, TestNumbers, ModeOrK, RowRoom, ListCount}
use Rattle.timing.specs.Field.{Bytes, bytes}
use Rattle.timing.specs.Line.{field_of, field_count, number_in}
use Rattle.timing.specs.Text.{whole, line_of, pins_of, arcs_of, tests_of, ask_number}

-- ---- lines

pub data LineKind : Type 0 where
  design pin arc test ask : LineKind

abbrev pub word_of : LineKind → Bytes
word_of design = bytes "design"
word_of pin = bytes "pin"
word_of arc = bytes "arc"
word_of test = bytes "test"
word_of ask = bytes "ask"

-- bytes stand where line n would: the line, or what follows the last byte 10
abbrev pub Stands : Bytes → ℕ → Type 0
Stands x n = (n ≤ whole x) ⊎ (length (line_of x n) ≢ 0)

-- "`design` P A T period; P lines `pin` ..; A lines `arc` ..; T lines `test` ..; then at most one line `ask`": the line due at n. `ask_number` is 2 + P + A + T.
abbrev pub Due : Bytes → ℕ → LineKind → Type 0
Due x n design = n ≡ 1
Due x n pin = (2 ≤ n) × (n < 2 + pins_of x)
Due x n arc = (2 + pins_of x ≤ n) × (n < 2 + pins_of x + arcs_of x)
Due x n test = (2 + pins_of x + arcs_of x ≤ n) × (n < 2 + pins_of x + arcs_of x + tests_of x)
Due x n ask = (n ≡ ask_number x) × Stands x n

-- ---- 2: "the line due is absent, has no byte 10, has another word first, or a line follows the last"

abbrev pub Missing : Bytes → ℕ → LineKind → Type 0
Missing x n k = (whole x < n) ⊎ (field_of (line_of x n) 0 ≢ word_of k)

abbrev pub FollowsLast : Bytes → ℕ → Type 0
FollowsLast x n = (n ≡ ask_number x + 1) × Stands x (ask_number x) × Stands x n

-- ---- 3: "wrong number of fields"

-- the letters of kinds with times, and of those without
abbrev pub TimedLetter : Bytes → Type 0
TimedLetter f = (f ≡ bytes "R") ⊎ (f ≡ bytes "I")

abbrev pub BareLetter : Bytes → Type 0
BareLetter f = (f ≡ bytes "B") ⊎ (f ≡ bytes "K") ⊎ (f ≡ bytes "D")

-- "On a pin line the word alone is 3, then the letter is looked at before the count of fields."
abbrev pub WrongCount : LineKind → Bytes → Type 0
WrongCount design l = field_count l ≢ 5
WrongCount pin l =
    (field_count l ≡ 1)
    ⊎ (TimedLetter (field_of l 1) × (field_count l ≢ 4))
    ⊎ (BareLetter (field_of l 1) × (field_count l ≢ 2))
WrongCount arc l = field_count l ≢ 5
WrongCount test l = field_count l ≢ 5
WrongCount ask l = field_count l ≢ 3

-- ---- 4: "malformed number, unknown kind letter or mode word; on `design`, P, A or T over its limit or P = 0"

-- "Numbers are 1 to 7 digits, no leading zero but `0` itself."
pub record Number (f : Bytes) : Type 0 where
  pub some-digits : 1 ≤ length f
  pub few-digits : length f ≤ 7
  pub digits : (b : ℕ) → In b f → (48 ≤ b) × (b ≤ 57)
  pub no-leading : get_or f 0 0 ≡ 48 → length f ≡ 1

abbrev pub FourNumbers : Bytes → Type 0
FourNumbers l = Number (field_of l 1) × Number (field_of l 2) × Number (field_of l 3) × Number (field_of l 4)

abbrev pub SizeWrong : Bytes → Type 0
SizeWrong l = (number_in l 1 ≡ 0) ⊎ (256 < number_in l 1) ⊎ (1024 < number_in l 2) ⊎ (64 < number_in l 3)

abbrev pub Malformed : LineKind → Bytes → Type 0
Malformed design l = (FourNumbers l → ⊥) ⊎ SizeWrong l
Malformed pin l =
    ((TimedLetter (field_of l 1) ⊎ BareLetter (field_of l 1)) → ⊥)
    ⊎ (TimedLetter (field_of l 1) × ((Number (field_of l 2) × Number (field_of l 3)) → ⊥))
Malformed arc l = FourNumbers l → ⊥
Malformed test l = FourNumbers l → ⊥
Malformed ask l = (((field_of l 1 ≡ bytes "setup") ⊎ (field_of l 1 ≡ bytes "hold")) → ⊥) ⊎ (Number (field_of l 2) → ⊥)

-- ---- 1 to 5, room being the length lent for the table

abbrev pub TextHolds : Bytes → ℕ → Refusal → Type 0
TextHolds x room TextLong = 65536 < length x
TextHolds x room (LineNotDue n) = ((k : LineKind) × Due x n k × Missing x n k) ⊎ FollowsLast x n
TextHolds x room (FieldCount n) = (k : LineKind) × Due x n k × WrongCount k (line_of x n)
TextHolds x room (FieldForm n) = (k : LineKind) × Due x n k × Malformed k (line_of x n)
TextHolds x room TableRoom = room < 4 + 3 * pins_of x + 4 * arcs_of x + 4 * tests_of x
TextHolds x room TableHeader = ⊥
TextHolds x room (PinNumbers p) = ⊥
TextHolds x room RootCount = ⊥
TextHolds x room (ArcEnds a) = ⊥
TextHolds x room (ArcKinds a) = ⊥
TextHolds x room (ArcRange a) = ⊥
TextHolds x room (ArcsInto p) = ⊥
TextHolds x room (TestNumbers j) = ⊥
TextHolds x room ModeOrK = ⊥
TextHolds x room RowRoom = ⊥
TextHolds x room ListCount = ⊥
