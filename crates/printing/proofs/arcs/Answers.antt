-- `printing::arcs` meets its contract. The arc count as it is read back from its bits; then the cut at the count, or at the end of the row.
-- Assumes nothing.
use Rattle.std.proofs.Common.{◌≡◌, ap, sym, ◌∙◌, ◌-◌, length, get_or, take, drop, min, pos, arith, rules, length-drop, drop_of_length-le}
use Rattle.std.proofs.lemmas.List.{take_min}
use lib.Seq.{take_all, take-nil}
use mir.Syntax.{w64}
use mir.Val.{SFits}
use mir.ValLaws.{to_z-of_z}
use Rattle.lists.specs.Laws.Integer.{up}
use Rattle.timing.specs.Printed.{row_arcs}
use Rattle.printing.proofs.arcs.Goals as goal

-- no place for them
pub returns-in_default : goal.returns-in_default
unfolding row_arcs
returns-in_default c = rw (drop_of_length-le c.args.row.now {i = 5} (omega arith)) (sym (take-nil (up (get_or c.args.row.now 4 (pos 0)))))

-- as many as the count says, or all that are there
pub returns : goal.returns
unfolding row_arcs
returns c =
    let row = c.args.row.now in
    let count = get_or row 4 (pos 0) in
    let own : SFits w64 count = search rules in
    let all : take (length row - 5) (drop 5 row) ≡ drop 5 row = take_all (length row - 5) (drop 5 row) (omega (arith, length-drop 5 row)) in
    let told : c.above-count.result ≡ up count = c.above-count.ensures ∙ ap up (to_z-of_z w64 count own) in
    let cut : c.min.result ≡ min (up count) (length (drop 5 row)) = c.min.ensures ∙ rw (told, all) in
    rw (all, cut) (take_min (up count) (drop 5 row))
