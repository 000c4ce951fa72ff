-- `reader::Reader::whole_line` meets its contract. The byte before the next line is 10, or the text ends there. Assumes nothing.
use Rattle.std.proofs.Common.{refl, ◌∙◌, arith}
use Rattle.reader.proofs.Lines.{next-most, after-byte, absent, after-other, after_none}
use Rattle.reader.proofs.Reader.whole_line.Goals as goal
use Rattle.reader.proofs.Reader.whole_line.Goals.{else-self-next-via-then-self-next+else-self-next-eq-LINE_END, else-self-next-via-else-self-next}

pub bounds-self-next : goal.bounds-self-next
bounds-self-next c = omega (arith, next-most _ _ _ c.requires (c.place-next.ensures ∙ c.next_line.ensures.1))

pub slice_bounds-value-end : goal.slice_bounds-value-end
slice_bounds-value-end c = omega (arith, next-most _ _ _ c.requires (c.place-next.ensures ∙ c.next_line.ensures.1))

pub returns-then-self-next-eq-LINE_END : goal.returns-then-self-next-eq-LINE_END
returns-then-self-next-eq-LINE_END c =
    let g = c.place-next.ensures ∙ c.next_line.ensures.1 in
    let e = after-byte _ _ _ c.requires g c.if-self-next.true c.if-self-next-eq-LINE_END.true in
    (omega (arith, e, next-most _ _ _ c.requires g), (rw e refl, g))

pub returns : goal.returns
returns c =
    let g = c.place-next.ensures ∙ c.next_line.ensures.1 in
    elim c.else-self-next.branch [
      | else-self-next-via-then-self-next+else-self-next-eq-LINE_END w ↦ absent _ _ _ c.requires g (after-other _ _ _ c.requires g w.if-self-next.true w.if-self-next-eq-LINE_END.false)
      | else-self-next-via-else-self-next w ↦ absent _ _ _ c.requires g (after_none _ _ _ c.requires g w.if-self-next.false)
    ]
