-- Bytes and fields: what a field says, apart from the line that it stands in.
-- Assumes nothing.
use Rattle.std.specs.Prelude.{ℕ, ◌+◌, ◌-◌, ◌*◌, Bool, not, ◌&&◌, ◌||◌, List, [], ◌∷◌, length, get_or, eqb, leb, ◌≡◌, Option, MatchOption}
use Prim.Native.Char.{code}
use Prim.Native.String.{String}
use Rattle.lists.specs.Choice.{pick}
use Rattle.lists.specs.Parts.{every, same}
use Rattle.timing.specs.declared.Kind.{Kind}
use Rattle.timing.specs.Kinds.{R, B, K, I, D, kind_number}

abbrev pub Bytes : Type 0
Bytes = List ℕ

-- the bytes of a quoted text
abbrev pub bytes : String → Bytes
bytes String.[] = []
bytes (String.◌∷◌ c cs) = code c ∷ bytes cs

-- ---- words

abbrev pub design_word : Bytes
design_word = bytes "design"

abbrev pub pin_word : Bytes
pin_word = bytes "pin"

abbrev pub arc_word : Bytes
arc_word = bytes "arc"

abbrev pub test_word : Bytes
test_word = bytes "test"

abbrev pub ask_word : Bytes
ask_word = bytes "ask"

abbrev pub setup_word : Bytes
setup_word = bytes "setup"

abbrev pub hold_word : Bytes
hold_word = bytes "hold"

-- "`setup` or `hold`"
unfoldable pub is_mode : Bytes → Bool
is_mode f = same f setup_word || same f hold_word

-- "a mode (0 setup, 1 hold)"
unfoldable pub mode_in : Bytes → ℕ
mode_in f = pick (same f hold_word) 1 0

-- ---- numbers

abbrev pub digit : ℕ → Bool
digit b = leb 48 b && leb b 57

-- "Numbers are 1 to 7 digits, no leading zero but `0` itself."
unfoldable pub well_formed : Bytes → Bool
well_formed f = leb 1 (length f) && leb (length f) 7 && every digit f && (not (eqb (get_or f 0 0) 48) || eqb (length f) 1)

-- the digits that follow the number n
unfoldable pub value_from : ℕ → Bytes → ℕ
value_from n [] = n
value_from n (b ∷ bs) = value_from (n * 10 + (b - 48)) bs

unfoldable pub value : Bytes → ℕ
value f = value_from 0 f

-- a field that is no number counts as 0
unfoldable pub number_or_0 : Bytes → ℕ
number_or_0 f = pick (well_formed f) (value f) 0

-- ---- kind letters

-- no kind has this number
abbrev pub no_kind : ℕ
no_kind = 5

-- the letters R, B, K, I, D
abbrev pub kind_of : ℕ → ℕ
kind_of b = pick (eqb b 82) R (pick (eqb b 66) B (pick (eqb b 75) K (pick (eqb b 73) I (pick (eqb b 68) D no_kind))))

-- the kind that a byte names, if it names one
abbrev pub Letters : ℕ → Option Kind → Type 0
Letters b r = MatchOption r (kind_of b ≡ no_kind) (λ k. kind_number k ≡ kind_of b)

unfoldable pub letter : Bytes → ℕ
letter f = pick (eqb (length f) 1) (kind_of (get_or f 0 0)) no_kind
