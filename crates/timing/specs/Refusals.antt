-- The refusals of document 01: the number and the place that each case of the code's enum `Refusal` stands for.
-- Assumes nothing.
use Rattle.std.specs.Prelude.{ℕ, Result, Ok, Err}
use Rattle.std.proofs.Math.Option.{Option, none, some}
use Rattle.timing.specs.declared.Refusal.{Refusal}
use Rattle.timing.specs.declared.Refusal.TheVariants.{TextLong, LineNotDue, FieldCount, FieldForm, TableRoom, TableHeader, PinNumbers, RootCount, ArcEnds, ArcKinds, ArcRange, ArcsInto, TestNumbers, ModeOrK, RowRoom, ListCount}

-- the column "no."
abbrev pub number_of : Refusal → ℕ
number_of TextLong = 1
number_of (LineNotDue n) = 2
number_of (FieldCount n) = 3
number_of (FieldForm n) = 4
number_of TableRoom = 5
number_of TableHeader = 6
number_of (PinNumbers p) = 7
number_of RootCount = 8
number_of (ArcEnds a) = 9
number_of (ArcKinds a) = 10
number_of (ArcRange a) = 11
number_of (ArcsInto p) = 12
number_of (TestNumbers j) = 13
number_of ModeOrK = 14
number_of RowRoom = 15
number_of ListCount = 16

-- the column "place"
abbrev pub place_of : Refusal → ℕ
place_of TextLong = 0
place_of (LineNotDue n) = n
place_of (FieldCount n) = n
place_of (FieldForm n) = n
place_of TableRoom = 0
place_of TableHeader = 0
place_of (PinNumbers p) = p
place_of RootCount = 0
place_of (ArcEnds a) = a
place_of (ArcKinds a) = a
place_of (ArcRange a) = a
place_of (ArcsInto p) = p
place_of (TestNumbers j) = j
place_of ModeOrK = 0
place_of RowRoom = 0
place_of ListCount = 0

-- what a check answers: the refusal, if there is one
abbrev pub checked_of : Option Refusal → Result Unit Refusal
checked_of none = Ok tt
checked_of (some r) = Err r
