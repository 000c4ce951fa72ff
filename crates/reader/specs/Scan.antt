-- Plain lines: a line due without a fault, taken by one scan. What a scan answers is said of the bytes that it passed: they stand in the text, and a
-- byte that none of them is ends them.
-- Assumes nothing.
use Rattle.std.specs.Prelude.{◌≡◌, ℕ, ◌+◌, ◌-◌, ◌<◌, true, List, [], ◌∷◌, ◌++◌, length, take, drop, nat_lt, slice_index, slice_index_or}
use Rattle.std.proofs.Math.Option.{none}
use Rattle.lists.specs.Choice.{pick, Ground, first_met}
use Rattle.lists.specs.Laws.Cut.{end_at}
use Rattle.lists.specs.Laws.Member.{All}
use Rattle.timing.specs.declared.Refusal.{Refusal}
use Rattle.timing.specs.Field.{Bytes, well_formed, number_or_0}

-- the last byte of a text, 0 of an empty one
abbrev pub last_byte : Bytes → ℕ
last_byte x = slice_index x (length x - 1)

-- the line that begins at a
abbrev pub line_from : Bytes → ℕ → Bytes
line_from x a = take (end_at 10 x a - a) (drop a x)

-- a byte that is neither a tab nor byte 10, as letters and digits are
abbrev pub InField : ℕ → Type 0
InField b = 10 < b

-- a byte that ends no line
abbrev pub InLine : ℕ → Type 0
InLine b = b ≡ 10 → ⊥

-- from a stand the bytes f, each of them P, and behind them, before n, the byte c
pub record Stands (P : ℕ → Type 0) (c : ℕ) (x : Bytes) (a n : ℕ) (f : Bytes) : Type 0 where
  pub text : drop a x ≡ f ++ (c ∷ drop n x)
  pub long : n ≡ a + length f + 1
  pub all : All P f

-- at a stands a number that says v, ended by the byte c; n is the place behind that
pub record NumberTo (c : ℕ) (x : Bytes) (a n v : ℕ) : Type 0 where
  pub f : Bytes
  pub stands : Stands InField c x a n f
  pub fine : well_formed f ≡ true
  pub says : number_or_0 f ≡ v

-- at a stands the word with a tab behind it, in a text that ends with byte 10
pub record WordTo (x : Bytes) (a : ℕ) (word : Bytes) : Type 0 where
  pub inside : a + length word < length x
  pub is : take (length word) (drop a x) ≡ word
  pub tab : slice_index_or x (a + length word) 0 ≡ 9
  pub last : last_byte x ≡ 10

-- the line that begins at a has no fault, and vs are its numbers; the next line begins at n
pub record PlainTo (wrong : Bytes → ℕ → List (Ground Refusal)) (numbers : Bytes → List ℕ) (x : Bytes) (a n : ℕ) (vs : List ℕ) : Type 0 where
  pub l : Bytes
  pub stands : Stands InLine 10 x a n l
  pub clean : (m : ℕ) → first_met (wrong l m) ≡ none
  pub says : vs ≡ numbers l

abbrev pub three_of : List ℕ → List ℕ
three_of vs = slice_index vs 0 ∷ slice_index vs 1 ∷ slice_index vs 2 ∷ []

abbrev pub all_four : List ℕ → List ℕ
all_four vs = slice_index vs 0 ∷ slice_index vs 1 ∷ slice_index vs 2 ∷ slice_index vs 3 ∷ []

-- of four numbers those of the line due at i: three of a pin
unfoldable pub due_in : ℕ → ℕ → List ℕ → List ℕ
due_in p i vs = pick (nat_lt i p) (three_of vs) (all_four vs)
