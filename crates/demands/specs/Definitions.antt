-- What the demands speak of, in the words of the documents: an asking that was answered, paths, arrivals, slack before credit (Definition 1 of 004), credit
-- (Definition 2), the order of rows.
--
-- Nothing here computes a route, a list of paths or a ranking: arrivals are any numbers that fit the sentence of 01, a common ancestor is whatever pin is one,
-- and the list of all paths is whatever list has exactly them. So it can be read without the definitions that the code is proved against; that these agree
-- is proved.
-- Assumes nothing.
use Rattle.std.specs.Prelude.{◌≡◌, ◌⊎◌, ◌≢◌, ◌↔◌, List, [], ◌∷◌, ◌++◌, reverse, ℕ, ◌+◌, ◌-◌, ◌<◌, length, replicate, ℤ, pos, ◌+ℤ◌, ◌-ℤ◌, ◌<ℤ◌, Ok}
use Rattle.lists.specs.Parts.{sum, each}
use Rattle.lists.specs.Laws.Member.{In, Pairs}
use Rattle.timing.specs.Kinds.{R, B, K, I}
use Rattle.timing.specs.Table.{Table, Edge, early, late}
use Rattle.timing.specs.Structure.{Structure, pins, arcs, tests, kind, leaves, enters, clock_pin, data_pin, Times}
use Rattle.timing.specs.Paths.{Path, start}
use Rattle.timing.specs.Slack.{Mode, for_setup, for_hold}
use Rattle.timing.specs.Allows.{AskAllows}

-- ---- an asking that was answered

-- what was lent, rows given and total, and what stands in the room and the work area afterwards: anything that the contract of `report::ask` allows
pub record Answered (t : Table) (mode k : ℕ) : Type 0 where
  pub room : List ℤ
  pub work : List ℕ
  pub rows : ℕ
  pub total : ℕ
  pub room' : List ℤ
  pub work' : List ℕ
  pub allowed : AskAllows t mode k room work (Ok (record { rows = rows; total = total })) room' work'

-- ---- paths

-- "A path runs over arcs from a K or an I to the test's data pin.": arcs read backwards from pin v. The first enters v, each other the pin that the one
-- before it leaves, and the last leaves a K or an I.
abbrev pub Runs : Structure → ℕ → List ℕ → Type 0
Runs s v [] = ⊥
Runs s v (a ∷ []) = (a < arcs s) × (enters s a ≡ v) × ((kind s (leaves s a) ≡ K) ⊎ (kind s (leaves s a) ≡ I))
Runs s v (a ∷ b ∷ w) = (a < arcs s) × (enters s a ≡ v) × Runs s (leaves s a) (b ∷ w)

-- a launch-to-test path: its test, and its arcs read backwards from the test's data pin
abbrev pub IsPath : Structure → Path → Type 0
IsPath s p = (p.test < tests s) × Runs s (data_pin s p.test) p.walk

-- ---- 004's at: early and late arrivals

-- "Clock arrival: early (late) of R plus the early (late) delays down to the pin." An I has its own arrivals.
pub record Arrivals (s : Structure) (x : Times) (at : Edge → ℕ → ℕ) : Type 0 where
  pub of-root : (e : Edge) (p : ℕ) → p < pins s → kind s p ≡ R → at e p ≡ x.arrival e p
  pub down : (e : Edge) (a : ℕ) → a < arcs s → (kind s (enters s a) ≡ B) ⊎ (kind s (enters s a) ≡ K) → at e (enters s a) ≡ at e (leaves s a) + x.delay e a
  pub of-input : (e : Edge) (p : ℕ) → p < pins s → kind s p ≡ I → at e p ≡ x.arrival e p

-- ---- Definition 1: slack before credit, o1 being the path's start and o2 the test's clock pin

-- "at_early(o2) + T_clk - T_setup - at_late(o1) - delay_late(p)" and "at_early(o1) + delay_early(p) - at_late(o2) - T_hold"
unfoldable pub before : Mode → Structure → Times → (Edge → ℕ → ℕ) → Path → ℤ
before for_setup s x at p =
    let o1 = start s p in
    let o2 = clock_pin s p.test in
    pos (at early o2) +ℤ pos x.period -ℤ pos (x.setup p.test) -ℤ pos (at late o1) -ℤ pos (sum (x.delay late) p.walk)
before for_hold s x at p =
    let o1 = start s p in
    let o2 = clock_pin s p.test in
    pos (at early o1) +ℤ pos (sum (x.delay early) p.walk) -ℤ pos (at late o2) -ℤ pos (x.hold p.test)

-- ---- Definition 2: credit

-- "credit(u) = at_late(u) - at_early(u)"
unfoldable pub credit : (Edge → ℕ → ℕ) → ℕ → ℤ
credit at u = pos (at late u) -ℤ pos (at early u)

-- "a pin being its own ancestor": u is v, or an ancestor of a pin from which an arc enters v
pub data Ancestor (s : Structure) (u : ℕ) : ℕ → Type 0 where
  itself : {v : ℕ} → u ≡ v → Ancestor s u v
  over : {v : ℕ} (a : ℕ) → a < arcs s → enters s a ≡ v → Ancestor s u (leaves s a) → Ancestor s u v

-- the lowest common ancestor: an ancestor of both, and every other is an ancestor of it
pub record Lowest (s : Structure) (u v c : ℕ) : Type 0 where
  pub of-first : Ancestor s c u
  pub of-second : Ancestor s c v
  pub below_all : (y : ℕ) → Ancestor s y u → Ancestor s y v → Ancestor s y c

-- "A path from a K gets the credit of the lowest common ancestor of that K and the test's clock .. A path from an I gets 0."
abbrev pub Credited : Structure → (Edge → ℕ → ℕ) → Path → ℤ → Type 0
Credited s at p c =
    ((kind s (start s p) ≡ K) × ((u : ℕ) × Lowest s (start s p) (clock_pin s p.test) u × (c ≡ credit at u)))
    ⊎ ((kind s (start s p) ≡ I) × (c ≡ pos 0))

-- the credit and the slack of every path are those of Definitions 1 and 2: "The slack of a row: before credit, plus credit."
pub record ByDefinition (m : Mode) (s : Structure) (x : Times) (credit_of slack_of : Path → ℤ) : Type 0 where
  pub at : Edge → ℕ → ℕ
  pub arrivals : Arrivals s x at
  pub credited : (p : Path) → IsPath s p → Credited s at p (credit_of p)
  pub slacked : (p : Path) → IsPath s p → slack_of p ≡ before m s x at p +ℤ credit_of p

-- ---- order

-- read side by side, the first difference is a smaller number in the first
abbrev pub Before : List ℕ → List ℕ → Type 0
Before [] m = ⊥
Before (a ∷ l) [] = ⊥
Before (a ∷ l) (b ∷ m) = (a < b) ⊎ ((a ≡ b) × Before l m)

-- "Smaller slack first; then smaller test number; then the two arc lists are read backwards from the data pin, and at the first difference the smaller
-- arc number comes first."
abbrev pub Ahead : (Path → ℤ) → Path → Path → Type 0
Ahead slack_of p q =
    (slack_of p <ℤ slack_of q)
    ⊎ ((slack_of p ≡ slack_of q) × ((p.test < q.test) ⊎ ((p.test ≡ q.test) × Before p.walk q.walk)))

-- of two paths one is ahead, and never both
pub record StrictTotal (s : Structure) (slack_of : Path → ℤ) : Type 0 where
  pub not_itself : (p : Path) → Ahead slack_of p p → ⊥
  pub through : (p q r : Path) → Ahead slack_of p q → Ahead slack_of q r → Ahead slack_of p r
  pub one_way : (p q : Path) → IsPath s p → IsPath s q → Ahead slack_of p q ⊎ ((p ≡ q) ⊎ Ahead slack_of q p)

-- all launch-to-test paths, each once, in the stated order
pub record AllPaths (s : Structure) (slack_of : Path → ℤ) (l : List Path) : Type 0 where
  pub exactly : (p : Path) → In p l ↔ IsPath s p
  pub once : Pairs (λ (p q : Path). p ≢ q) l
  pub in_order : Pairs (Ahead slack_of) l

-- ---- rows

-- "slack, credit, test, start pin, arc count, the arcs from start to data pin, then zeros"
unfoldable pub row_of : Structure → (Path → ℤ) → (Path → ℤ) → Path → List ℤ
row_of s credit_of slack_of p =
    slack_of p
    ∷ credit_of p
    ∷ pos p.test
    ∷ pos (start s p)
    ∷ pos (length p.walk)
    ∷ (each pos (reverse p.walk) ++ replicate (pins s - length p.walk) (pos 0))
