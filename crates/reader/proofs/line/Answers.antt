-- `reader::line` meets its contract. A part between its two places, and those places in the memory lent. Assumes nothing.
use Rattle.std.proofs.Common.{ℕ, ◌+◌, refl, ap}
use Rattle.reader.proofs.Lines.{line-of}
use Rattle.reader.proofs.line.Goals as goal

pub returns : goal.returns
returns c = (line-of _ _ _ _ c.line_start-a.ensures.0 c.end_of-e.ensures.0, (refl, ap (λ (k : ℕ). k + c.args.text.ref_ptr.1) c.line_start-a.ensures.0))
