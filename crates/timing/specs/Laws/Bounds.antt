-- "No slack is outside -257,000,000 to 257,000,000", and a path "has at least one and at most P - 1" arcs.
--
-- Launch route and walk together have fewer arcs than there are pins, and so has the capture route: each rises at every arc. So each side of a slack
-- counts at most 255 delays, one arrival, and one of period, setup and hold.
-- Assumes nothing.
use Rattle.std.specs.Prelude.{◌-◌, ◌≤◌, length, pos, negsuc, ◌≤ℤ◌}
use Rattle.timing.specs.Structure.{Structure, pins, Times}
use Rattle.timing.specs.Paths.{Path}
use Rattle.timing.specs.Slack.{Mode, slack}

-- ---- arcs

pub record FewArcs (s : Structure) (p : Path) : Type 0 where
  pub some-arcs : 1 ≤ length p.walk
  pub few-arcs : length p.walk ≤ pins s - 1

pub record Bounded (m : Mode) (s : Structure) (x : Times) (p : Path) : Type 0 where
  pub not-under : negsuc 256999999 ≤ℤ slack m s x p
  pub not-over : slack m s x p ≤ℤ pos 257000000
