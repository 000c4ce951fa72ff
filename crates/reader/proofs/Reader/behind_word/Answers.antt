-- `reader::Reader::behind_word` meets its contract. The bytes are the word's, the one behind them is a tab, and the last byte is byte 10. Assumes nothing.
use Rattle.std.proofs.Common.{◌≡◌, ◌+◌, ◌-◌, length, sym, refl, ◌∙◌, arith}
use Rattle.lists.proofs.Laws.Cut.{same-exactly}
use Rattle.reader.proofs.Reader.behind_word.Goals as goal

pub returns-then-text-n-eq-LINE_END : goal.returns-then-text-n-eq-LINE_END
returns-then-text-n-eq-LINE_END c =
    let k : (c.args.self.at + length c.args.word.now) - c.args.self.at ≡ length c.args.word.now = omega arith in (
      refl,
      record {
        inside = omega (arith, c.if-n-at.false);
        is = (same-exactly _ _).0 (rw k at (sym c.alike.ensures ∙ c.if-alike.true));
        tab = c.if-text-e-eq-TAB.true;
        last = c.if-text-n-eq-LINE_END.true;
      },
    )
