-- `reader::Reader::four_at` meets its contract. The word, then number by number to the end of the line. Assumes nothing.
use Rattle.reader.proofs.Scan.{number_behind, numbers-last, numbers_more, four-plain}
use Rattle.reader.proofs.Reader.four_at.Goals as goal

pub number_at-requires-3 : goal.number_at-requires-3
number_at-requires-3 c = let e = c.in_ok-a.ensures.1.last in
    (number_behind c.in_ok-y.ensures e, e)

pub number_at-requires-4 : goal.number_at-requires-4
number_at-requires-4 c = let e = c.in_ok-a.ensures.1.last in
    (number_behind c.in_ok-z.ensures e, e)

pub returns : goal.returns
returns c = let w = c.in_ok-a.ensures in
    four-plain w.1 c.requires.1
    (rw w.0 at (numbers_more c.in_ok-x.ensures (numbers_more c.in_ok-y.ensures (numbers_more c.in_ok-z.ensures (numbers-last c.in_ok-u.ensures)))))
