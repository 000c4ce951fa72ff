-- A cursor: a place in the walks of a test, and what a step from it does to what is still to come.
-- Assumes nothing.
use Rattle.std.specs.Prelude.{◌≡◌, ◌≢◌, true, false, List, [], ◌∷◌, ◌++◌, ℕ, suc, ◌+◌, ◌-◌, ◌*◌, ◌≤◌, ◌<◌, length, get_or}
use Rattle.lists.specs.Laws.Member.{All}
use Rattle.timing.specs.Structure.{Structure, pins, arcs, leaves, enters}
use Rattle.timing.specs.Paths.{is_start}
use Rattle.timing.specs.Value.{value_of}
use Rattle.timing.specs.Laws.Sound.{Sound}
use Rattle.area.specs.Area.{none, plan, word_at, first_at, arc_in, leasts_at, firsts_at, turns_at, turns_end}
use Rattle.area.specs.Area as area
use Rattle.arcs.specs.Laid.{Arcs, Seeds}
use Rattle.walker.specs.Rest.{pin_in, place_in, turns, onto, came, rest, size}
use Rattle.walker.specs.declared.Cursor.{Cursor}
use Rattle.walker.specs.declared.State.{State}
use Rattle.walker.specs.declared.State.TheVariants.{Going, Found, Ended}

-- the arcs and the seeds stand in the plan
pub record Planned (s : Structure) (weight seed : ℕ → ℕ) (m : List ℕ) : Type 0 where
  pub ok : Sound s
  pub few-arcs : arcs s ≤ 1024
  pub by-arcs : Arcs s weight m
  pub by-seeds : Seeds s seed m

-- a number for each pin: a start's seed, and at any other pin no more than each arc into it brings
pub record Lower (s : Structure) (weight seed f : ℕ → ℕ) : Type 0 where
  pub most : (v : ℕ) → v < pins s → f v ≤ none
  pub start : (v : ℕ) → v < pins s → is_start s v ≡ true → f v ≡ seed v
  pub over : (a : ℕ) → a < arcs s → is_start s (enters s a) ≡ false → f (enters s a) ≤ f (leaves s a) + weight a

abbrev pub least_at : List ℕ → ℕ → ℕ
least_at w v = get_or w (leasts_at + v) 0

-- where the arcs into the cursor's pin end
abbrev pub end_at : List ℕ → Cursor → ℕ
end_at w c = get_or w (firsts_at + c.pin + 1) 0

-- before the first walk from a pin
abbrev pub begin_at : List ℕ → ℕ → Cursor
begin_at w v = record { depth = 0; pin = v; place = get_or w (firsts_at + v) 0; sum = 0; state = Going; out = none }

-- place p of pin v behind the turns: no deeper than there are pins, so what the turns weigh fits a word
pub record Placed (s : Structure) (level : ℕ → ℕ) (m ts : List ℕ) (v p : ℕ) : Type 0 where
  pub pin : v < pins s
  pub low : first_at m v ≤ p
  pub high : p ≤ first_at m (v + 1)
  pub deep : length ts + level v < 256
  pub light : came ts m ≤ length ts * 70368744177664

-- each turn was taken at a place of its pin
abbrev pub Turned : List ℕ → Structure → (ℕ → ℕ) → List ℕ → Type 0
Turned [] s level m = Unit {0}
Turned (x ∷ ts) s level m = Placed s level m ts (pin_in x) (place_in x) × (place_in x < first_at m (pin_in x + 1)) × Turned ts s level m

-- the cursor is at a place of the plan, behind the turns that stand in the work area
pub record On (s : Structure) (weight seed : ℕ → ℕ) (w : List ℕ) (c : Cursor) : Type 0 where
  pub planned : Planned s weight seed (plan w)
  pub lower : Lower s weight seed (least_at w)
  pub long : turns_end ≤ length w
  pub placed : Placed s planned.ok.level (plan w) (turns c.depth w) c.pin c.place
  pub turned : Turned (turns c.depth w) s planned.ok.level (plan w)
  pub sum : c.sum ≡ came (turns c.depth w) (plan w)

pub record Ready (w : List ℕ) (c : Cursor) : Type 0 where
  pub of : Structure
  pub weight : ℕ → ℕ
  pub seed : ℕ → ℕ
  pub on : On of weight seed w c

-- all that is still to come
unfoldable pub coming : Structure → List ℕ → Cursor → List (List ℕ)
coming s w c = rest s (plan w) (turns c.depth w) c.pin c.place

-- the walk by d turns, and the arc before place p
unfoldable pub walk_at : List ℕ → ℕ → ℕ → List ℕ
walk_at w d p = onto (turns d w) (plan w) (arc_in (word_at (plan w) (p - 1)) ∷ [])

-- the walk at the cursor
abbrev pub walk_of : List ℕ → Cursor → List ℕ
walk_of w c = walk_at w c.depth c.place

-- the walk u, if the cursor found one
abbrev pub found_as : State → List ℕ → List (List ℕ)
found_as Going u = []
found_as (Found v) u = u ∷ []
found_as Ended u = []

-- the walk that the cursor found, if it did
unfoldable pub found : List ℕ → Cursor → List (List ℕ)
found w c = found_as c.state (walk_of w c)

-- how far a cursor can go, if it goes on
abbrev pub reach_as : State → ℕ → ℕ
reach_as Going n = suc n
reach_as (Found v) n = 0
reach_as Ended n = 0

unfoldable pub reach : List ℕ → Cursor → ℕ
reach w c = reach_as c.state (size (256 - c.depth) (plan w) (turns c.depth w) c.pin c.place)

-- of what was to come some walks were left out, none with a value below the bound or below the least that the cursor passed over, and at most one was found; the
-- others are still to come
pub record Passed (s : Structure) (weight seed : ℕ → ℕ) (under : ℕ) (before : List (List ℕ)) (w : List ℕ) (c : Cursor) : Type 0 where
  pub cut : List (List ℕ)
  pub is : before ≡ cut ++ (found w c ++ coming s w c)
  pub out : All (λ u. (under ≤ value_of s weight seed u) × (c.out ≤ value_of s weight seed u)) cut
  pub value : (v : ℕ) → c.state ≡ Found v → (v ≡ value_of s weight seed (walk_of w c)) × (v < under)
  pub done : c.state ≡ Ended → coming s w c ≡ []
  pub taken : (v : ℕ) → c.state ≡ Found v → first_at (plan w) c.pin < c.place

-- nothing is new in the work area but the turns
abbrev pub Kept : List ℕ → List ℕ → Type 0
Kept = area.Kept turns_at turns_end

pub record Went (s : Structure) (weight seed : ℕ → ℕ) (under : ℕ) (w₀ : List ℕ) (c₀ : Cursor) (w : List ℕ) (c : Cursor) : Type 0 where
  pub on : On s weight seed w c
  pub kept : Kept w₀ w
  pub falls : c.out ≤ c₀.out
  pub passed : Passed s weight seed under (coming s w₀ c₀) w c

-- a step, for whatever structure the work area is laid
pub record Step (under : ℕ) (w₀ : List ℕ) (c₀ : Cursor) (w : List ℕ) (c : Cursor) : Type 0 where
  pub went : (s : Structure) (weight seed : ℕ → ℕ) → On s weight seed w₀ c₀ → Went s weight seed under w₀ c₀ w c
  pub less : c₀.state ≡ Going → reach w c < reach w₀ c₀

-- steps, for whatever structure the work area is laid
abbrev pub Gone : ℕ → List ℕ → Cursor → List ℕ → Cursor → Type 0
Gone under w₀ c₀ w c = (s : Structure) (weight seed : ℕ → ℕ) → On s weight seed w₀ c₀ → Went s weight seed under w₀ c₀ w c

-- steps up to the next walk below the bound, or to the end
pub record Next (under : ℕ) (w₀ : List ℕ) (c₀ : Cursor) (w : List ℕ) (c : Cursor) : Type 0 where
  pub gone : Gone under w₀ c₀ w c
  pub ended : c.state ≢ Going
