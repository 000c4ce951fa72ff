-- `report::ask` meets its contract: it either refuses and writes nothing, or lends the named length of the work area to the answer. Assumes nothing.
use Rattle.std.proofs.Common.{ℕ, ◌≡◌, arith, rules, length, take, length-take-le}
use Rattle.std.specs.Prelude.{Ok}
use Rattle.std.proofs.lemmas.Result.{err_from_is_err_and}
use Rattle.timing.specs.Limits.{work_length}
use Rattle.timing.specs.Refusals.{checked_of}
use Rattle.timing.specs.Table.{Table}
use Rattle.timing.specs.Asked.{asking_fault}
use Rattle.report.specs.Answered.{Granted, granted, refused_all, given-all}
use Rattle.report.proofs.Order.{found_none, found_some}
use Rattle.report.proofs.ask.Goals as goal

-- nothing is refused
allowed : (t : Table) (mode k room work : ℕ) → Ok tt ≡ checked_of (asking_fault t mode k room work) → Granted t k room work
allowed t mode k room work e = granted t mode k room work (found_none _ e)

pub returns-in_err-asking_fine : goal.returns-in_err-asking_fine
returns-in_err-asking_fine c =
    let a = c.args in
    let p = err_from_is_err_and c.from_residual.result c.from_residual.ensures.1 in
    rw (p.1, p.2) (refused_all a.table.now a.mode a.k a.room.now a.work.now _ (found_some _ _ c.in_err-asking_fine.ensures))

pub slice_bounds-given-end : goal.slice_bounds-given-end
slice_bounds-given-end c = (allowed _ _ _ _ _ c.in_ok-asking_fine.ensures).area

pub slice_bounds-given-end-2 : goal.slice_bounds-given-end-2
slice_bounds-given-end-2 c = let area = (allowed _ _ _ _ _ c.in_ok-asking_fine.ensures).area in search rules

pub given-requires : goal.given-requires
given-requires c =
    let g = allowed _ _ _ _ _ c.in_ok-asking_fine.ensures in
    let e : length (take work_length c.args.work.now) ≡ work_length = length-take-le work_length c.args.work.now g.area in
    (record { checked = g.checked; some = g.some; few = g.few; places = g.places; area = omega arith }, e)

pub returns : goal.returns
returns c =
    let a = c.args in
    given-all a.table.now a.mode a.k a.room.now a.work.now c.given.result c.given.new.room c.given.new.work
    (found_none _ c.in_ok-asking_fine.ensures) c.given.ensures
