-- The walks of one test enter the list.
-- Assumes nothing.
use Rattle.std.specs.Prelude.{◌≡◌, ◌≢◌, ◌⊎◌, List, [], ◌++◌, ℕ, ◌-◌, ◌≤◌, ◌<◌, ℤ, get_or}
use Rattle.lists.specs.Parts.{those, each}
use Rattle.lists.specs.Rank.{by}
use Rattle.lists.specs.Laws.Member.{In, All}
use Rattle.lists.specs.Laws.Integer.{Within, Less}
use Rattle.lists.specs.Laws.Top.{rank_top}
use Rattle.timing.specs.Table.{Table}
use Rattle.timing.specs.Structure.{structure, data_pin}
use Rattle.timing.specs.Paths.{Path, path, walks, test_paths}
use Rattle.timing.specs.Value.{value_of}
use Rattle.area.specs.Area.{none, plan, first_at}
use Rattle.arcs.specs.Sorting.{weighing}
use Rattle.laying.specs.Standing.{test_seed}
use Rattle.laying.specs.Bounds.{record_of, slack_of}
use Rattle.walker.specs.declared.Cursor.{Cursor}
use Rattle.walker.specs.declared.State.TheVariants.{Going as going, Found, Ended}
use Rattle.winners.specs.declared.Best.{Best}
use Rattle.walker.specs.Cursors.{On, walk_of, found, coming, Went}
use Rattle.clocks.specs.Clocked.{Tested}
use Rattle.walker.specs.Slots.{Keeps}
use Rattle.walker.specs.Slots as kept_in
use Rattle.lists.specs.Laws.Under.{below}
use Rattle.winners.specs.Held.{slack_in, Holds, Sized, kept, nobody}
use Rattle.winners.specs.Stored.{Shelf, Stored, Entered}

-- the cursor is at a place of the walks of test j
abbrev pub At : Table → ℕ → ℕ → List ℕ → Cursor → Type 0
At t mode j w c = On (structure t) (weighing t mode) (test_seed t mode j) w c

-- the values below r are those whose slacks are below the hint and below the last of a full list
pub record Under (t : Table) (mode j k : ℕ) (hint : ℤ) (best : Best) (r : ℕ) : Type 0 where
  pub most : r ≤ none
  pub under : (v : ℕ) → v < r → Less (slack_of t mode j v) hint × (best.count ≡ k → Less (slack_of t mode j v) (get_or best.list (k - 1) nobody).slack)
  pub over : (v : ℕ) → v < 1073741824 → r ≤ v
      → Within 0 hint (slack_of t mode j v) ⊎ ((best.count ≡ k) × Within 0 (get_or best.list (k - 1) nobody).slack (slack_of t mode j v))

-- from one walk that enters to the next
pub record Nexts (t : Table) (mode j k : ℕ) (hint : ℤ) (best : Best) (w₀ : List ℕ) (c₀ : Cursor) (w : List ℕ) (c : Cursor) : Type 0 where
  pub bound : ℕ
  pub is : Under t mode j k hint best bound
  pub went : Went (structure t) (weighing t mode) (test_seed t mode j) bound w₀ c₀ w c
  pub ended : c.state ≢ going

-- a walk was found that enters, and there is a slot for it
pub record Takes (t : Table) (mode j k : ℕ) (w : List ℕ) (best : Best) (c : Cursor) (value : ℕ) : Type 0 where
  pub tested : Tested t w j
  pub sized : Sized k best
  pub keeps : Keeps w c (get_or best.slots (kept k best.count) 0)
  pub small : value < 1073741824

-- it is kept, and its record entered
pub record Took (t : Table) (mode j k : ℕ) (w : List ℕ) (best : Best) (c : Cursor) (value : ℕ)
    (w' : List ℕ) (best' : Best) : Type 0 where
  pub walk : kept_in.Kept (get_or best.slots (kept k best.count) 0) w c.depth c.place w'
  pub entered : Entered k (record_of t mode j value best.serial) best best'

-- those below the hint among the paths of test j over these walks
abbrev pub paths_over : Table → ℕ → ℕ → ℤ → List (List ℕ) → List Path
paths_over t mode j hint l = those (below (slack_in t mode) hint) (each (path j) l)

-- the list has these paths now, their walks stand in their slots, and what is still to come makes of them what all walks make of l
pub record Now (t : Table) (mode j k : ℕ) (hint : ℤ) (w : List ℕ) (best : Best) (c : Cursor) (l : List Path) : Type 0 where
  pub has : List Path
  pub holds : Holds (slack_in t mode) k j best.serial best.list best.count has
  pub stored : Stored w best.slots has
  pub same : rank_top (by (slack_in t mode)) k has (paths_over t mode j hint (found w c ++ coming (structure t) w c))
      ≡ rank_top (by (slack_in t mode)) k l (paths_over t mode j hint (walks (structure t) (data_pin (structure t) j)))

-- a walk that was gone by is below the hint, or not below the least value that was passed over
abbrev pub Gone : Table → ℕ → ℕ → ℤ → ℕ → List ℕ → Type 0
Gone t mode j hint out u =
    Less (slack_of t mode j (value_of (structure t) (weighing t mode) (test_seed t mode j) u)) hint ⊎ (out ≤ value_of (structure t) (weighing t mode) (test_seed t mode j) u)

-- on the way through the walks of test j
pub record Going (t : Table) (mode j k : ℕ) (hint : ℤ) (w₀ : List ℕ) (best₀ : Best)
    (w : List ℕ) (best : Best) (c : Cursor) : Type 0 where
  pub at : At t mode j w c
  pub sized : Sized k best
  pub shelf : Shelf best.slots
  pub ended : c.state ≢ going
  pub done : c.state ≡ Ended → coming (structure t) w c ≡ []
  pub taken : (x : ℕ) → c.state ≡ Found x → first_at (plan w) c.pin < c.place
  pub part : (front : List (List ℕ)) × (walks (structure t) (data_pin (structure t) j) ≡ front ++ (found w c ++ coming (structure t) w c))
  pub past : All (λ u. Gone t mode j hint c.out u) part.0
  pub value : (x : ℕ) → c.state ≡ Found x → x ≡ value_of (structure t) (weighing t mode) (test_seed t mode j) (walk_of w c)
  pub low : (x : ℕ) → c.state ≡ Found x → Less (slack_of t mode j x) hint × (best.count ≡ k → Less (slack_of t mode j x) (get_or best.list (k - 1) nobody).slack)
  pub now : (l : List Path) → Holds (slack_in t mode) k j best₀.serial best₀.list best₀.count l → Stored w₀ best₀.slots l → Now t mode j k hint w best c l

-- the walks of test j below the hint have been added to a list, whatever paths it holds
pub record Added (t : Table) (mode j k : ℕ) (hint : ℤ) (w₀ : List ℕ) (best₀ : Best)
    (w : List ℕ) (best : Best) (out : ℕ) : Type 0 where
  pub sized : Sized k best
  pub shelf : Shelf best.slots
  pub past : (u : List ℕ) → In u (walks (structure t) (data_pin (structure t) j)) → Gone t mode j hint out u
  pub adds : (l : List Path) → Holds (slack_in t mode) k j best₀.serial best₀.list best₀.count l → Stored w₀ best₀.slots l
      → Holds (slack_in t mode) k j best.serial best.list best.count (rank_top (by (slack_in t mode)) k l (those (below (slack_in t mode) hint) (test_paths (structure t) j)))
      × Stored w best.slots (rank_top (by (slack_in t mode)) k l (those (below (slack_in t mode) hint) (test_paths (structure t) j)))
