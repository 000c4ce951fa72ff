-- Nothing is lost on the way to C: from the numbers told, the answer is had back. So the contracts of the exported functions say as much as those of the
-- operations behind them, and decide the result and the memory as those do.
-- Assumes nothing.
use Rattle.std.specs.Prelude.{ℕ, ◌≡◌, refl, false, List, [], ◌∷◌, length, get_or, eqb, ℤ, Result, Ok, Err}
use Rattle.std.proofs.Common.{sym, ap, ◌∙◌}
use Rattle.lists.specs.Choice.{pick}
use Rattle.timing.specs.declared.Refusal.{Refusal}
use Rattle.timing.specs.declared.Refusal.TheVariants.{TextLong, LineNotDue, FieldCount, FieldForm, TableRoom, TableHeader, PinNumbers, RootCount, ArcEnds, ArcKinds, ArcRange, ArcsInto, TestNumbers, ModeOrK, RowRoom, ListCount}
use Rattle.timing.specs.declared.Reading.{Reading}
use Rattle.timing.specs.declared.Answer.{Answer}
use Rattle.timing.specs.declared.Candidate.{Candidate}
use Rattle.timing.specs.Refusals.{number_of, place_of, checked_of}
use Rattle.timing.specs.Table.{Table}
use Rattle.timing.specs.Field.{Bytes}
use Rattle.timing.specs.Check.{table_fault}
use Rattle.timing.specs.Text.{reading, room_filled}
use Rattle.timing.specs.Asked.{answer, room_after, work_after}
use Rattle.timing.specs.Ranked.{enter_answer, list_after}
use Rattle.chthonyra.specs.declared.ReadingTold.{ReadingTold}
use Rattle.chthonyra.specs.declared.LineTold.{LineTold}
use Rattle.chthonyra.specs.declared.CheckedTold.{CheckedTold}
use Rattle.chthonyra.specs.declared.AnswerTold.{AnswerTold}
use Rattle.chthonyra.specs.declared.EnteredTold.{EnteredTold}
use Rattle.chthonyra.specs.Told.{reading_told, line_told, checked_told, answer_told, entered_told}

-- ---- a refusal from its number and its place

unfoldable pub refusal_at : ℕ → ℕ → Refusal
refusal_at number place =
    get_or
    (TextLong ∷ TextLong ∷ LineNotDue place ∷ FieldCount place ∷ FieldForm place ∷ TableRoom ∷ TableHeader ∷ PinNumbers place ∷ RootCount
    ∷ ArcEnds place ∷ ArcKinds place ∷ ArcRange place ∷ ArcsInto place ∷ TestNumbers place ∷ ModeOrK ∷ RowRoom ∷ ListCount ∷ [])
    number TextLong

pub refusal-back : (r : Refusal) → refusal_at (number_of r) (place_of r) ≡ r
unfolding refusal_at
refusal-back TextLong = refl
refusal-back (LineNotDue n) = refl
refusal-back (FieldCount n) = refl
refusal-back (FieldForm n) = refl
refusal-back TableRoom = refl
refusal-back TableHeader = refl
refusal-back (PinNumbers p) = refl
refusal-back RootCount = refl
refusal-back (ArcEnds a) = refl
refusal-back (ArcKinds a) = refl
refusal-back (ArcRange a) = refl
refusal-back (ArcsInto p) = refl
refusal-back (TestNumbers j) = refl
refusal-back ModeOrK = refl
refusal-back RowRoom = refl
refusal-back ListCount = refl

-- no refusal has the number that means an answer
pub never-0 : (r : Refusal) → eqb (number_of r) 0 ≡ false
never-0 TextLong = refl
never-0 (LineNotDue n) = refl
never-0 (FieldCount n) = refl
never-0 (FieldForm n) = refl
never-0 TableRoom = refl
never-0 TableHeader = refl
never-0 (PinNumbers p) = refl
never-0 RootCount = refl
never-0 (ArcEnds a) = refl
never-0 (ArcKinds a) = refl
never-0 (ArcRange a) = refl
never-0 (ArcsInto p) = refl
never-0 (TestNumbers j) = refl
never-0 ModeOrK = refl
never-0 RowRoom = refl
never-0 ListCount = refl

-- ---- the answers from what they tell

-- the second of two, where the number is not the one that means an answer
refused-back : {A : Type 0} (n : ℕ) (x y z : A) → eqb n 0 ≡ false → y ≡ z → pick (eqb n 0) x y ≡ z
unfolding pick
refused-back n x y z h e = rw h e

unfoldable pub reading_from : ReadingTold → Result Reading Refusal
reading_from t = pick (eqb t.refusal 0) (Ok (record { length = t.length; mode = t.mode; k = t.k })) (Err (refusal_at t.refusal t.place))

pub reading-back : (x : Result Reading Refusal) → reading_from (reading_told x) ≡ x
unfolding reading_from pick
reading-back (Ok a) = refl
reading-back (Err r) = refused-back (number_of r) _ _ _ (never-0 r) (ap Err (refusal-back r))

unfoldable pub checked_from : CheckedTold → Result Unit Refusal
checked_from t = pick (eqb t.refusal 0) (Ok tt) (Err (refusal_at t.refusal t.place))

pub checked-back : (x : Result Unit Refusal) → checked_from (checked_told x) ≡ x
unfolding checked_from pick
checked-back (Ok u) = refl
checked-back (Err r) = refused-back (number_of r) _ _ _ (never-0 r) (ap Err (refusal-back r))

unfoldable pub answer_from : AnswerTold → Result Answer Refusal
answer_from t = pick (eqb t.refusal 0) (Ok (record { rows = t.rows; total = t.total })) (Err (refusal_at t.refusal t.place))

pub answer_back : (x : Result Answer Refusal) → answer_from (answer_told x) ≡ x
unfolding answer_from pick
answer_back (Ok a) = refl
answer_back (Err r) = refused-back (number_of r) _ _ _ (never-0 r) (ap Err (refusal-back r))

unfoldable pub entered_from : EnteredTold → Result ℕ Refusal
entered_from t = pick (eqb t.refusal 0) (Ok t.count) (Err (refusal_at t.refusal t.place))

pub entered-back : (x : Result ℕ Refusal) → entered_from (entered_told x) ≡ x
unfolding entered_from pick
entered-back (Ok n) = refl
entered-back (Err r) = refused-back (number_of r) _ _ _ (never-0 r) (ap Err (refusal-back r))

-- ---- the contracts decide

pub read-decides : (x : Bytes) (room : List ℕ) (r s : ReadingTold) (l m : List ℕ) → (r ≡ reading_told (reading x (length room))) × (l ≡ room_filled x room)
    → (s ≡ reading_told (reading x (length room))) × (m ≡ room_filled x room) → (r ≡ s) × (l ≡ m)
read-decides x room r s l m e f = (e.0 ∙ sym f.0, e.1 ∙ sym f.1)

pub line-decides : (x : Bytes) (n : ℕ) (r s : LineTold) → r ≡ line_told x n → s ≡ line_told x n → r ≡ s
line-decides x n r s e f = e ∙ sym f

pub check-decides : (t : Table) (r s : CheckedTold) → r ≡ checked_told (checked_of (table_fault t)) → s ≡ checked_told (checked_of (table_fault t)) → r ≡ s
check-decides t r s e f = e ∙ sym f

pub enter-decides : (list : List Candidate) (count : ℕ) (c : Candidate) (r s : EnteredTold) (l m : List Candidate)
    → (r ≡ entered_told (enter_answer count (length list))) × (l ≡ list_after list count c)
    → (s ≡ entered_told (enter_answer count (length list))) × (m ≡ list_after list count c) → (r ≡ s) × (l ≡ m)
enter-decides list count c r s l m e f = (e.0 ∙ sym f.0, e.1 ∙ sym f.1)

module _ (t : Table) (mode k : ℕ) (room : List ℤ) (work : List ℕ) where
  -- what the contract says of a result and of the two lent memories
  abbrev pub AskTold : AnswerTold → List ℤ → List ℕ → Type 0
  AskTold r l w =
      (r ≡ answer_told (answer t mode k (length room) (length work))) × (l ≡ room_after t mode k room (length work)) × (w ≡ work_after t mode k (length room) work)

  pub ask-decides : (r s : AnswerTold) (l m : List ℤ) (w v : List ℕ) → AskTold r l w → AskTold s m v → (r ≡ s) × (l ≡ m) × (w ≡ v)
  ask-decides r s l m w v e f = (e.0 ∙ sym f.0, e.1 ∙ sym f.1, e.2 ∙ sym f.2)
