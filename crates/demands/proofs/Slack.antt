-- "Credit and slack are those of Definitions 1 and 2" of 004: stated term by term in `Definitions`, they are the numbers that the operations are proved to give.
--
-- Of every answered asking: the credit and the slack of `timing` fit the definitions, and whatever fits them is equal to these at every path.
-- Assumes nothing.
use Rattle.std.specs.Prelude.{ℕ}
use Rattle.timing.specs.Table.{Table}
use Rattle.timing.specs.Structure.{structure, times}
use Rattle.timing.specs.Rows.{mode_of}
use Rattle.timing.proofs.Laws.Accepted.{accepted}
use Rattle.demands.specs.Definitions.{Answered}
use Rattle.demands.proofs.Laws.Granted.{granted}
use Rattle.demands.proofs.Laws.Slacks.{by-definition, defined}
use Rattle.demands.specs.Slack.{Defined}

pub slack-defined : (t : Table) (mode k : ℕ) → Answered t mode k → Defined t mode
slack-defined t mode k a =
    let c = accepted t (granted t mode k a).checked in
    record {
      fit = defined (structure t) c.sound (times t) c.ranged (mode_of mode);
      only = by-definition (structure t) c.sound (times t) c.ranged (mode_of mode);
    }
