-- Where the walks of the list are kept: the slot of the record at place i is the number at place i of the slots. All 16 slots stand there, each once; those
-- behind the count are free.
-- Assumes nothing.
use Rattle.std.specs.Prelude.{◌≡◌, ◌⊎◌, true, false, List, [], ℕ, ◌+◌, ◌-◌, ◌≤◌, ◌<◌, length, get_or}
use Rattle.timing.specs.Paths.{Path, path}
use Rattle.timing.specs.Ranked.{greater, list_after}
use Rattle.timing.specs.declared.Candidate.{Candidate}
use Rattle.walker.specs.Slots.{Stands}
use Rattle.winners.specs.declared.Best.{Best}
use Rattle.winners.specs.Held.{nobody, kept}

abbrev pub no_path : Path
no_path = path 0 []

-- 16 slots, each once
pub record Shelf (slots : List ℕ) : Type 0 where
  pub places : length slots ≡ 16
  pub inside : (i : ℕ) → i < 16 → get_or slots i 0 < 16
  pub apart : (i q : ℕ) → i < 16 → q < 16 → get_or slots i 0 ≡ get_or slots q 0 → i ≡ q

-- the walk of each path of l stands in its slot
abbrev pub Stored : List ℕ → List ℕ → List Path → Type 0
Stored w slots l = (i : ℕ) → i < length l → Stands w (get_or slots i 0) (get_or l i no_path).walk

-- what comes to place i when place n goes to place at, and those between go one on
abbrev pub Source : ℕ → ℕ → ℕ → ℕ → Type 0
Source at n i q = ((i < at) × (q ≡ i)) ⊎ (((i ≡ at) × (q ≡ n)) ⊎ (((at < i) × (i ≤ n) × (q ≡ i - 1)) ⊎ ((n < i) × (q ≡ i))))

pub record Moved (slots : List ℕ) (at n : ℕ) (r : List ℕ) : Type 0 where
  pub places : length r ≡ 16
  pub from : (i q : ℕ) → i < 16 → Source at n i q → get_or r i 0 ≡ get_or slots q 0

-- c goes to place r among the first n
pub record Place (list : List Candidate) (n : ℕ) (c : Candidate) (r : ℕ) : Type 0 where
  pub most : r ≤ n
  pub behind : (i : ℕ) → i < r → greater (get_or list i nobody) c ≡ false
  pub before : r < n → greater (get_or list r nobody) c ≡ true

-- a record entered, and its slot with it
pub record Entered (k : ℕ) (c : Candidate) (best best' : Best) : Type 0 where
  pub list-is : best'.list ≡ list_after best.list (kept k best.count) c
  pub count-is : best'.count ≡ kept k best.count + 1
  pub later : best.serial ≤ best'.serial
  pub place : ℕ
  pub at : Place best.list (kept k best.count) c place
  pub moved : Moved best.slots place (kept k best.count) best'.slots
