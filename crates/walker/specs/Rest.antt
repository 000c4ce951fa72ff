-- What is still to be gone through. A walk is gone backwards from the data pin: at a pin the arcs into it are taken by place, which is by number. The turns are the
-- arcs taken so far, last first, each with the pin at which it was taken. Still to come are the walks over the arcs left at the pin at hand, and then, turn by turn
-- back, those over the arcs left at the pin of the turn.
-- Assumes nothing.
use Rattle.std.specs.Prelude.{List, [], ◌∷◌, ◌++◌, ℕ, zero, suc, ◌+◌, ◌-◌, ◌*◌, ◌/◌, ◌%◌, get_or}
use Rattle.lists.specs.Parts.{each, gather}
use Rattle.timing.specs.Structure.{Structure}
use Rattle.timing.specs.Laws.Steps.{walks_over}
use Rattle.area.specs.Area.{word_at, first_at, weight_in, from_in, arc_in, turns_at}

-- ---- turns

-- a turn in one word: the pin, and the place of the arc
abbrev pub turn : ℕ → ℕ → ℕ
turn v p = v * 1024 + p

abbrev pub pin_in : ℕ → ℕ
pin_in x = x / 1024

abbrev pub place_in : ℕ → ℕ
place_in x = x % 1024

-- the first d turns of the work area, last first
unfoldable pub turns : ℕ → List ℕ → List ℕ
turns zero w = []
turns (suc d) w = get_or w (turns_at + d) 0 ∷ turns d w

-- ---- walks by these turns

-- the whole walk that goes on with w behind the turns
unfoldable pub onto : List ℕ → List ℕ → List ℕ → List ℕ
onto [] m w = w
onto (x ∷ ts) m w = onto ts m (arc_in (word_at m (place_in x)) ∷ w)

-- what the arcs of the turns weigh
unfoldable pub came : List ℕ → List ℕ → ℕ
came [] m = 0
came (x ∷ ts) m = weight_in (word_at m (place_in x)) + came ts m

-- ---- what is left

-- the arcs at n places, from p on
unfoldable pub arcs_from : ℕ → List ℕ → ℕ → List ℕ
arcs_from zero m p = []
arcs_from (suc n) m p = arc_in (word_at m p) ∷ arcs_from n m (suc p)

-- the arcs into pin v from place p on
unfoldable pub left : List ℕ → ℕ → ℕ → List ℕ
left m v p = arcs_from (first_at m (v + 1) - p) m p

-- the walks by the turns and then over one of these arcs
unfoldable pub through : Structure → List ℕ → List ℕ → List ℕ → List (List ℕ)
through s m ts l = each (onto ts m) (gather (walks_over s) l)

-- those over the arcs left at the pins of the turns
unfoldable pub behind : List ℕ → Structure → List ℕ → List (List ℕ)
behind [] s m = []
behind (x ∷ ts) s m = through s m ts (left m (pin_in x) (suc (place_in x))) ++ behind ts s m

-- all that are still to come, from place p of pin v on
unfoldable pub rest : Structure → List ℕ → List ℕ → ℕ → ℕ → List (List ℕ)
rest s m ts v p = through s m ts (left m v p) ++ behind ts s m

-- ---- how many steps that takes, at most

-- over n places from p on, where f has the steps below each pin
unfoldable pub togo : ℕ → (ℕ → ℕ) → List ℕ → ℕ → ℕ
togo zero f m p = 0
togo (suc n) f m p = suc (suc (f (from_in (word_at m p)) + togo n f m (suc p)))

-- below pin v, at most n arcs deep
unfoldable pub ahead : ℕ → List ℕ → ℕ → ℕ
ahead zero m v = 0
ahead (suc n) m v = togo (first_at m (v + 1) - first_at m v) (ahead n m) m (first_at m v)

-- at the pins of the turns
unfoldable pub backwards : List ℕ → ℕ → List ℕ → ℕ
backwards [] n m = 0
backwards (x ∷ ts) n m =
    suc (togo (first_at m (pin_in x + 1) - suc (place_in x)) (ahead (suc n) m) m (suc (place_in x)) + backwards ts (suc n) m)

-- in all
unfoldable pub size : ℕ → List ℕ → List ℕ → ℕ → ℕ → ℕ
size n m ts v p = togo (first_at m (v + 1) - p) (ahead n m) m p + backwards ts n m
