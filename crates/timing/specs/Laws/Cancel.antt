-- The credit cancels what launch and capture share: the slack after credit is the sum of the picks for the path less the sum of those against it.
-- Assumes nothing.
use Rattle.std.specs.Prelude.{◌++◌, ℕ, ◌+◌}
use Rattle.lists.specs.Parts.{sum}
use Rattle.timing.specs.Table.{early, late}
use Rattle.timing.specs.Structure.{Times}
use Rattle.timing.specs.Paths.{Path}
use Rattle.timing.specs.Slack.{Mode, for_setup, for_hold}
use Rattle.timing.specs.Laws.Picks.{Picks}

-- the picks that count for the path, and those that count against it
unfoldable pub for_picks : Mode → Times → Path → Picks → ℕ
for_picks for_setup x p o = sum (x.arrival early) o.capture-pins + sum (x.delay early) o.capture-arcs + x.period
for_picks for_hold x p o = sum (x.arrival early) o.launch-pins + sum (x.delay early) (o.launch-arcs ++ p.walk)

unfoldable pub against_picks : Mode → Times → Path → Picks → ℕ
against_picks for_setup x p o = x.setup p.test + sum (x.arrival late) o.launch-pins + sum (x.delay late) (o.launch-arcs ++ p.walk)
against_picks for_hold x p o = sum (x.arrival late) o.capture-pins + sum (x.delay late) o.capture-arcs + x.hold p.test
