-- `reader::Reader::pin_at` meets its contract. The letter ends the line, or two times stand behind it. Assumes nothing.
use Rattle.std.proofs.Common.{◌≡◌, ◌+◌, sym, ◌∙◌, arith}
use Rattle.reader.proofs.Scan.{numbers-last, numbers_more, letter-behind, pin-short, pin-long}
use Rattle.reader.proofs.Reader.pin_at.Goals as goal

pub bounds-self-e : goal.bounds-self-e
bounds-self-e c = let w = c.in_ok-a.ensures in
    let i : c.in_ok-a.a ≡ c.args.self.at + 4 = omega (arith, w.0) in
    letter-behind c.args.self.text.now c.args.self.at c.in_ok-a.a c.in_ok-kind.kind w.1 i c.in_ok-kind.ensures

pub bounds-self-e-2 : goal.bounds-self-e-2
bounds-self-e-2 c = let w = c.in_ok-a.ensures in
    let i : c.in_ok-a.a ≡ c.args.self.at + 4 = omega (arith, w.0) in
    letter-behind c.args.self.text.now c.args.self.at c.in_ok-a.a c.in_ok-kind.kind w.1 i c.in_ok-kind.ensures

pub returns-then-not-has_times : goal.returns-then-not-has_times
returns-then-not-has_times c = let w = c.in_ok-a.ensures in
    let i : c.in_ok-a.a ≡ c.args.self.at + 4 = omega (arith, w.0) in
    rw c.number.ensures (pin-short c.args.self.text.now c.args.self.at c.in_ok-a.a c.in_ok-kind.kind w.1 i c.in_ok-kind.ensures
    (sym c.has_times.ensures ∙ c.if-not-has_times.true) c.if-self-e-ne-LINE_END.false)

pub returns : goal.returns
returns c = let w = c.in_ok-a.ensures in
    let i : c.in_ok-a.a ≡ c.args.self.at + 4 = omega (arith, w.0) in
    rw c.number-2.ensures (pin-long c.args.self.text.now c.args.self.at c.in_ok-a.a c.in_ok-kind.kind w.1 i c.in_ok-kind.ensures _ _ _
    (sym c.has_times.ensures ∙ c.if-not-has_times.false) c.if-self-e-ne-TAB.false (numbers_more c.in_ok-x.ensures (numbers-last c.in_ok-y.ensures)))
