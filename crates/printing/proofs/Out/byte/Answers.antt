-- `Out::byte` meets its contract. A store where there is a place, and none behind the end: both are `set`.
-- Assumes nothing.
use Rattle.std.proofs.Common.{◌≡◌, sym, arith, set}
use lib.Seq.{set_out}
use Rattle.lists.specs.Laws.Write.{sets}
use Rattle.printing.proofs.Out.byte.Goals as goal
use Rattle.printing.proofs.Out.byte.Goals.{then-self, else-self}

pub returns : goal.returns
unfolding sets
returns c =
    let o = c.args.self.now in
    let p = c.if-self.self in
    let b : (p.bytes.ghost_name ≡ o.bytes.ghost_name) × (p.bytes.now ≡ set o.bytes.now o.at c.args.byte) × (p.at ≡ o.at) =
    elim c.if-self.branch [
      | then-self w ↦ (rw w.self-is, rw w.self-is, rw w.self-is)
      | else-self w ↦ (rw w.self-is, rw w.self-is (sym (set_out o.bytes.now o.at c.args.byte (omega arith))), rw w.self-is)
    ] in
    record { same = b.0; put = record { stands = b.1; behind = omega (arith, b.2) } }
