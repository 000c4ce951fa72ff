-- The refusal table of 01 as sentences: for each number when it is due, and the order in which they are looked for. No test of the code is named here.
--
-- A refusal is a case of the enum `Refusal`, which stands for 01's number and place (`Refusals.number_of`, `place_of`). Of a text, a table, an asking or a
-- ranked list the conditions of the other operations' numbers never hold.
-- Assumes nothing.
use Rattle.std.specs.Prelude.{◌≡◌, ◌⊎◌, ◌≢◌, ◌↔◌, ℕ, ◌+◌, ◌*◌, ◌≤◌, ◌<◌, length}
use Rattle.lists.specs.Laws.Member.{In}
use Rattle.timing.specs.declared.Refusal.{Refusal}
use Rattle.timing.specs.declared.Refusal.TheVariants.{TextLong, LineNotDue, FieldCount, FieldForm, TableRoom, TableHeader, PinNumbers, RootCount, ArcEnds, ArcKinds, ArcRange, ArcsInto, TestNumbers, ModeOrK, RowRoom, ListCount}
use Rattle.timing.specs.Refusals.{number_of, place_of}
use Rattle.timing.specs.Kinds.{R, B, K, I, D, ◌to◌, allowed}
use Rattle.timing.specs.Table.{Table, pin_count, arc_count, test_count, period_of, early, late, pin_kind, pin_time, arc_from, arc_to, arc_time, test_clock, test_data, test_setup, test_hold}
use Rattle.timing.specs.Check.{arcs_into}

-- ---- the order

-- "Reading: 1; then line by line 2, 3, 4; then 5. .. Asking: 6, all pins 7, 8, then arc by arc 9, 10, 11, all pins 12, all tests 13, 14, 15."
abbrev pub turn : Refusal → ℕ
turn TextLong = 0
turn (LineNotDue n) = 1
turn (FieldCount n) = 1
turn (FieldForm n) = 1
turn TableRoom = 2
turn TableHeader = 3
turn (PinNumbers p) = 4
turn RootCount = 5
turn (ArcEnds a) = 6
turn (ArcKinds a) = 6
turn (ArcRange a) = 6
turn (ArcsInto p) = 7
turn (TestNumbers j) = 8
turn ModeOrK = 9
turn RowRoom = 10
turn ListCount = 11

-- by turn; in one turn by place, which is the line, pin, arc or test; at one place by number
abbrev pub Earlier : Refusal → Refusal → Type 0
Earlier q r =
    (turn q < turn r)
    ⊎ ((turn q ≡ turn r) × ((place_of q < place_of r) ⊎ ((place_of q ≡ place_of r) × (number_of q < number_of r))))

-- ---- 6 to 13: a table

-- 6: "table length wrong, header outside limits"
pub record InLimits (t : Table) : Type 0 where
  pub some-pins : 1 ≤ pin_count t
  pub few-pins : pin_count t ≤ 256
  pub few-arcs : arc_count t ≤ 1024
  pub few-tests : test_count t ≤ 64
  pub some-period : 1 ≤ period_of t
  pub short-period : period_of t ≤ 1000000

abbrev pub HeaderWrong : Table → Type 0
HeaderWrong t = (InLimits t → ⊥) ⊎ (length t ≢ 4 + 3 * pin_count t + 4 * arc_count t + 4 * test_count t)

-- "Each range has early at most late and both within the limit; any other is bad."
abbrev pub BadRange : ℕ → ℕ → Type 0
BadRange e l = ((e ≤ l) × (e ≤ 1000000) × (l ≤ 1000000)) → ⊥

-- 7: "pin: kind over 4, bad range, times on B, K or D"
abbrev pub PinWrong : Table → ℕ → Type 0
PinWrong t p =
    (4 < pin_kind t p)
    ⊎ (((pin_kind t p ≡ R) ⊎ (pin_kind t p ≡ I)) × BadRange (pin_time t early p) (pin_time t late p))
    ⊎ (((pin_kind t p ≡ B) ⊎ (pin_kind t p ≡ K) ⊎ (pin_kind t p ≡ D)) × ((pin_time t early p ≢ 0) ⊎ (pin_time t late p ≢ 0)))

-- 8: "not exactly one R"
pub record OneRoot (t : Table) : Type 0 where
  pub root : ℕ
  pub root_in : root < pin_count t
  pub is-root : pin_kind t root ≡ R
  pub no_other : (p : ℕ) → p < pin_count t → pin_kind t p ≡ R → p ≡ root

-- 9: "arc: an end not below P, or from not below to"
abbrev pub EndsWrong : Table → ℕ → Type 0
EndsWrong t a = (pin_count t ≤ arc_from t a) ⊎ (pin_count t ≤ arc_to t a) ⊎ (arc_to t a ≤ arc_from t a)

-- 10: "arc: pair of kinds not in the 5 by 5"
abbrev pub KindsWrong : Table → ℕ → Type 0
KindsWrong t a = In (pin_kind t (arc_from t a) to pin_kind t (arc_to t a)) allowed → ⊥

-- 12: "wrong number of arcs into a pin"; "Each B and K has exactly one arc coming in, each D at least one."
abbrev pub IntoWrong : Table → ℕ → Type 0
IntoWrong t p =
    (((pin_kind t p ≡ B) ⊎ (pin_kind t p ≡ K)) × (length (arcs_into t p) ≢ 1))
    ⊎ ((pin_kind t p ≡ D) × (length (arcs_into t p) ≡ 0))

-- 13: "test: clock no K, data no D, setup or hold over limit"
abbrev pub IsPin : Table → ℕ → ℕ → Type 0
IsPin t k p = (p < pin_count t) × (pin_kind t p ≡ k)

abbrev pub TestWrong : Table → ℕ → Type 0
TestWrong t j =
    (IsPin t K (test_clock t j) → ⊥) ⊎ (IsPin t D (test_data t j) → ⊥) ⊎ (1000000 < test_setup t j) ⊎ (1000000 < test_hold t j)

abbrev pub TableHolds : Table → Refusal → Type 0
TableHolds t TableHeader = HeaderWrong t
TableHolds t (PinNumbers p) = (p < pin_count t) × PinWrong t p
TableHolds t RootCount = OneRoot t → ⊥
TableHolds t (ArcEnds a) = (a < arc_count t) × EndsWrong t a
TableHolds t (ArcKinds a) = (a < arc_count t) × KindsWrong t a
TableHolds t (ArcRange a) = (a < arc_count t) × BadRange (arc_time t early a) (arc_time t late a)
TableHolds t (ArcsInto p) = (p < pin_count t) × IntoWrong t p
TableHolds t (TestNumbers j) = (j < test_count t) × TestWrong t j
TableHolds t TextLong = ⊥
TableHolds t (LineNotDue n) = ⊥
TableHolds t (FieldCount n) = ⊥
TableHolds t (FieldForm n) = ⊥
TableHolds t TableRoom = ⊥
TableHolds t ModeOrK = ⊥
TableHolds t RowRoom = ⊥
TableHolds t ListCount = ⊥

-- ---- 14, 15: an asking; room and work are lengths

-- 14: "mode over 1, k outside 1 to 16"
abbrev pub AskingWrong : ℕ → ℕ → Type 0
AskingWrong mode k = (1 < mode) ⊎ (k < 1) ⊎ (16 < k)

-- 15: "room below k × (P + 5), or work area short"
abbrev pub RoomShort : Table → ℕ → ℕ → ℕ → Type 0
RoomShort t k room work = (room < k * (pin_count t + 5)) ⊎ (work < 8192)

abbrev pub AskHolds : Table → ℕ → ℕ → ℕ → ℕ → Refusal → Type 0
AskHolds t mode k room work ModeOrK = AskingWrong mode k
AskHolds t mode k room work RowRoom = RoomShort t k room work
AskHolds t mode k room work TableHeader = TableHolds t TableHeader
AskHolds t mode k room work (PinNumbers p) = TableHolds t (PinNumbers p)
AskHolds t mode k room work RootCount = TableHolds t RootCount
AskHolds t mode k room work (ArcEnds a) = TableHolds t (ArcEnds a)
AskHolds t mode k room work (ArcKinds a) = TableHolds t (ArcKinds a)
AskHolds t mode k room work (ArcRange a) = TableHolds t (ArcRange a)
AskHolds t mode k room work (ArcsInto p) = TableHolds t (ArcsInto p)
AskHolds t mode k room work (TestNumbers j) = TableHolds t (TestNumbers j)
AskHolds t mode k room work TextLong = ⊥
AskHolds t mode k room work (LineNotDue n) = ⊥
AskHolds t mode k room work (FieldCount n) = ⊥
AskHolds t mode k room work (FieldForm n) = ⊥
AskHolds t mode k room work TableRoom = ⊥
AskHolds t mode k room work ListCount = ⊥

-- ---- 16: a ranked list of length len

-- "ranked list's count above its length"; "16 belongs to the ranked list only."
abbrev pub ListHolds : ℕ → ℕ → Refusal → Type 0
ListHolds len count q = (q ≡ ListCount) × (len < count)

-- ---- what is demanded of an operation

-- Holds says when each refusal is due, Says that it was given, Accepts that an answer was, Unwritten that all lent memory is as it was
pub record Refuses (Holds Says : Refusal → Type 0) (Accepts Unwritten : Type 0) : Type 0 where
  -- "an answer or one refusal from the list"
  pub either : Accepts ⊎ ((q : Refusal) × Says q)
  pub not-both : (q : Refusal) → Says q → Accepts → ⊥
  pub one : (q r : Refusal) → Says q → Says r → q ≡ r
  -- "Each is given exactly when its condition holds and none earlier in the order does."
  pub exactly : (q : Refusal) → Says q ↔ (Holds q × ((e : Refusal) → Earlier e q → Holds e → ⊥))
  pub accepts : Accepts ↔ ((q : Refusal) → Holds q → ⊥)
  -- "A refused asking writes nothing into memory we lend."
  pub unwritten : (q : Refusal) → Says q → Unwritten
