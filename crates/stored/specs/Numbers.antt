-- How numbers stand in a stored case: one byte to 250; else 251 and two bytes, or 252 and four, the lowest first. What is not there counts as 0.
-- Assumes nothing.
use Rattle.std.specs.Prelude.{ℕ, zero, suc, ◌+◌, ◌*◌, List, drop, slice_index, eqb, leb}
use Rattle.lists.specs.Choice.{pick}

-- how many bytes the number at the front has
abbrev pub size : List ℕ → ℕ
size l = pick (leb (slice_index l 0) 250) 1 (pick (eqb (slice_index l 0) 251) 3 5)

-- the number at the front
abbrev pub first : List ℕ → ℕ
first l =
    pick (leb (slice_index l 0) 250) (slice_index l 0)
    (pick (eqb (slice_index l 0) 251) (slice_index l 1 + 256 * slice_index l 2)
    (slice_index l 1 + 256 * slice_index l 2 + 65536 * slice_index l 3 + 16777216 * slice_index l 4))

-- what stands behind some numbers
abbrev pub behind : ℕ → List ℕ → List ℕ
behind zero l = l
behind (suc n) l = drop (size (behind n l)) (behind n l)
