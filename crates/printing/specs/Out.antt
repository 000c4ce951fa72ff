-- Lent bytes with the place that is next: what putting bytes leaves of them.
-- Assumes nothing.
use Rattle.std.specs.Prelude.{◌≡◌}
use Rattle.timing.specs.Field.{Bytes}
use Rattle.printing.specs.declared.Out.{Out}
use Rattle.printing.specs.Put.{Put}

-- the same lent bytes, and behind what was put before the new
pub record Puts (new : Bytes) (old out : Out) : Type 0 where
  pub same : out.bytes.ghost_name ≡ old.bytes.ghost_name
  pub put : Put new old.bytes.now old.at out.bytes.now out.at
