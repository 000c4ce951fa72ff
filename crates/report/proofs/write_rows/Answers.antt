-- `report::write_rows` meets its contract. Assumes nothing.
use Rattle.std.proofs.Common.{ℕ, List, ℤ, ◌≡◌, ◌+◌, ◌-◌, ◌*◌, ◌≤◌, ◌<◌, ◌++◌, refl, ap, ◌∙◌, zero-mul, suc-mul, mul-le-mul_right, add-one, arith, length, get_or, take, drop, length-take, length-drop}
use borrow.Rule.Slice.PartMut.{put_mid, same_len_mid}
use Rattle.lists.specs.Parts.{below, each, gather}
use Rattle.lists.specs.Laws.Write.{Wrote}
use Rattle.lists.proofs.Laws.Write.{wrote_none}
use Rattle.timing.specs.Table.{Table}
use Rattle.timing.specs.declared.Candidate.{Candidate}
use Rattle.clocks.specs.Small.{few-pins}
use Rattle.winners.specs.Held.{nobody}
use Rattle.report.specs.Rowed.{row_in}
use Rattle.report.specs.Row.{head_length}
use Rattle.report.specs.Writing.{rows_in, wrote-part, wrote-all, rows_more}
use Rattle.report.proofs.write_rows.Invariants.{So}
use Rattle.report.proofs.write_rows.Goals as goal

-- there is room for a row more
row_room : (n size i m : ℕ) → i < n → n * size ≤ m → i * size + size ≤ m
row_room n size i m h l = omega (arith, suc-mul i size, mul-le-mul_right size h)

one_more : (t : Table) (w : List ℕ) (list : List Candidate) (slots : List ℕ) (n size : ℕ) (room₀ room room' y : List ℤ) (i at : ℕ)
    → So t w list slots size room₀ room i → at ≡ i * size → i < n → y ≡ row_in t w (get_or list i nobody) (get_or slots i 0)
    → length y ≡ length (take (at + size - at) (drop at room)) → n * size ≤ length room₀ → room' ≡ put_mid at (at + size - at) room y
    → So t w list slots size room₀ room' (i + 1)
one_more t w list slots n size room₀ room room' y i at s a h e g r f =
    let z : at + size - at ≡ size = omega arith in
    let before = gather (λ (r : List ℤ). r) (rows_in t w list slots i) in
    let part : length (take (at + size - at) (drop at room)) ≡ at + size - at =
    simp (length-take, length-drop) (omega (arith, row_room n size i (length room₀) h r, s.len)) in
    let wrote : Wrote (before ++ y) room' room₀ (at + (at + size - at)) = rw f (wrote-part before room room₀ at (at + size - at) y (rw a s.so_far) (g ∙ part)) in
    let next : (i + 1) * size ≡ at + size = rw (add-one i) (omega (arith, suc-mul i size)) in
    record {
      so_far = rw (rows_more t w list slots i, ← e, next) (rw z at wrote);
      len = ap length f ∙ same_len_mid at (at + size - at) room y g ∙ s.len;
    }

begin : (t : Table) (w : List ℕ) (list : List Candidate) (slots : List ℕ) (size : ℕ) (room₀ : List ℤ) → So t w list slots size room₀ room₀ 0
unfolding rows_in each gather below
begin t w list slots size room₀ = record { so_far = rw zero-mul (wrote_none room₀); len = refl }

pub overflow_add-size : goal.overflow_add-size
overflow_add-size c = omega (arith, c.pin_count-size.ensures, few-pins c.args.table.now c.requires.clocked.ready.checked)

pub loop-i-init : goal.loop-i-init
loop-i-init c = begin _ _ _ _ _ _

pub loop-i-preserved : goal.loop-i-preserved
loop-i-preserved c =
    let r = c.row_of in
    one_more c.args.table.now c.args.work.now c.args.won.now.list c.args.won.now.slots c.args.won.now.count (c.pin_count-size.result + head_length) c.args.room.now c.loop-i.room _
    r.new.row c.loop-i.i _ c.loop-i.invariant refl c.loop-i-test.true r.ensures r.auto.row (rw c.pin_count-size.ensures c.requires.room) refl

pub returns : goal.returns
returns c =
    let l = c.loop-i in
    let e : l.i ≡ c.args.won.now.count = omega arith in
    rw e at (wrote-all _ l.room c.args.room.now _ l.invariant.so_far)
