-- Paths by the document's own sentence: `paths` lists exactly these, each once, by test and then in the order of the tie rule.
-- Assumes nothing.
use Rattle.std.specs.Prelude.{◌≡◌, ◌⊎◌, ◌<◌}
use Rattle.timing.specs.Structure.{Structure, tests, data_pin}
use Rattle.timing.specs.Paths.{Path}
use Rattle.timing.specs.Laws.Walked.{Walk, Before}

-- ---- exactly the paths

-- "A path runs over arcs from a K or an I to the test's data pin.": a test, and a walk back from its data pin
abbrev pub IsPath : Structure → Path → Type 0
IsPath s p = (p.test < tests s) × Walk s (data_pin s p.test) p.walk

-- ---- the tie rule
-- "then smaller test number; then the two arc lists are read backwards from the data pin, and at the first difference the smaller arc number comes first"
abbrev pub Tie : Path → Path → Type 0
Tie x y = (x.test < y.test) ⊎ ((x.test ≡ y.test) × Before x.walk y.walk)
