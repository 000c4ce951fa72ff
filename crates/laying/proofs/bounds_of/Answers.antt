-- `laying::bounds_of` meets its contract. The invariant: each test passed has its bound.
-- Assumes nothing.
use Prim.Native.Nat.{◌<◌}
use native.Mathlib.Nat.{not-suc-le-zero}
use native.Mathlib.Omega.{arith}
use borrow.Author.Rules.{rules}
use Rattle.timing.specs.Table.{test_count}
use Rattle.timing.proofs.Laws.Accepted.{accepted}
use Rattle.laying.proofs.Turns.{one_more, low-data}
use Rattle.laying.proofs.bounds_of.Goals as goal

pub loop-test-init : goal.loop-test-init
loop-test-init c = record { len = search rules; so_far = λ j k. absurd (not-suc-le-zero k) }

pub bounds-work-data : goal.bounds-work-data
bounds-work-data c =
    let r = c.lay_shared.ensures.prepared.clocked.ready in
    omega (arith, low-data _ r.checked c.loop-test.test (omega arith) _ c.test_data-data.ensures, r.room)

pub bounds-bounds-test : goal.bounds-bounds-test
bounds-bounds-test c =
    let i = c.loop-test.invariant in
    omega (arith, (accepted _ c.lay_shared.ensures.prepared.clocked.ready.checked).header.few-tests)

pub overflow_cast-bounds : goal.overflow_cast-bounds
overflow_cast-bounds c =
    let inside : c.loop-test.test < test_count c.args.table.now = omega arith in
    rw c.test_data-data.ensures (omega (arith, (c.lay_shared.ensures.bounds _ inside).small))

pub loop-test-preserved : goal.loop-test-preserved
loop-test-preserved c =
    let inside : c.loop-test.test < test_count c.args.table.now = omega arith in
    let few : c.loop-test.test < 64 = omega (arith, (accepted _ c.lay_shared.ensures.prepared.clocked.ready.checked).header.few-tests) in
    one_more _ _ _ _ _ c.loop-test.invariant few (rw c.test_data-data.ensures (c.lay_shared.ensures.bounds _ inside))

pub returns : goal.returns
returns c =
    let i = c.loop-test.invariant in
    ((λ j k. i.so_far j (omega arith)), c.lay_shared.ensures.prepared, i.len)
