-- `winners::walk_test` meets its contract. The invariant: what is still to come makes of the list what all walks of the test make of the list at the start. Each turn
-- of the loop has a walk less to come.
-- Assumes nothing.
use Rattle.std.proofs.Common.{◌≡◌, ◌≢◌, ℕ, refl, w64}
use Rattle.std.proofs.lemmas.Int.{to_z-of_z}
use Rattle.walker.specs.declared.State.{State}
use Rattle.walker.specs.declared.State.TheVariants.{Going, Found, Ended}
use Rattle.walker.specs.Laws.Slots.{still-none, still-then, still-turns}
use Rattle.winners.specs.Laws.Walked.{going-head, added-start, going_more, going_less, going_end, asks-keep, sized_on, at_on, still-on, found-small, tested-still, data-asks, begins, begins-all}
use Rattle.winners.proofs.walk_test.Goals as goal

-- a cursor that does not go on and found no walk has none left
at_end : (s : State) → s ≢ Going → ((x : ℕ) → s ≢ Found x) → s ≡ Ended
at_end Going n f = absurd (n refl)
at_end (Found x) n f = absurd (f x refl)
at_end Ended n f = refl

pub begin-c-requires : goal.begin-c-requires
begin-c-requires c =
    rw c.test_data.ensures (data-asks _ _ _ _ c.requires.0)

pub next-c-requires : goal.next-c-requires
next-c-requires c = (
  tested-still _ _ _ _ c.requires.0 _ (still-none _),
  rw (c.begin-c.ensures, c.test_data.ensures) (begins _ _ _ _ c.requires.0),
  c.requires.1,
)

pub loop-c-init : goal.loop-c-init
loop-c-init c = (
  going-head _ _ _ _ c.requires.0 _ _ _ _ _ _ c.requires.1 c.requires.2
      (rw (c.begin-c.ensures, c.test_data.ensures) (begins-all _ _ _ _ c.requires.0))
      c.next-c.ensures,
  still-none _,
)

pub take_walk-requires : goal.take_walk-requires
take_walk-requires c =
    let G = c.loop-c.invariant.0 in
    record {
      tested = tested-still _ _ _ _ c.requires.0 _ (still-then _ _ _ (still-turns _ _ c.next-c.ensures.went.kept) c.loop-c.invariant.1);
      sized = G.sized;
      keeps = asks-keep _ _ _ _ c.requires.0 _ _ _ _ _ _ _ G _ c.in-Found.is;
      small = found-small _ _ _ _ c.requires.0 _ _ _ _ _ _ _ G _ c.in-Found.is;
    }

pub next-c-requires-in-Found : goal.next-c-requires-in-Found
next-c-requires-in-Found c =
    let G = c.loop-c.invariant.0 in
    let T = c.take_walk.ensures in
    let l = c.in-Found.is in (
      tested-still _ _ _ _ c.requires.0 _ (still-then _ _ _ (still-then _ _ _ (still-turns _ _ c.next-c.ensures.went.kept) c.loop-c.invariant.1) (still-on _ _ _ _ c.requires.0 _ _ _ _ _ _ _ G _ l _ T.walk _ T.entered)),
      at_on _ _ _ _ c.requires.0 _ _ _ _ _ _ _ G _ l _ T.walk _ T.entered,
      sized_on _ _ _ _ c.requires.0 _ _ _ _ _ _ _ G _ l _ T.walk _ T.entered,
    )

pub loop-c-smaller : goal.loop-c-smaller
loop-c-smaller c =
    let T = c.take_walk.ensures in
    going_less _ _ _ _ c.requires.0 _ _ _ _ _ _ _ c.loop-c.invariant.0 _ c.in-Found.is _ T.walk _ T.entered _ _ c.next-c-in-Found.ensures

pub loop-c-preserved : goal.loop-c-preserved
loop-c-preserved c =
    let G = c.loop-c.invariant.0 in
    let T = c.take_walk.ensures in
    let l = c.in-Found.is in (
      going_more _ _ _ _ c.requires.0 _ _ _ _ _ _ _ G _ l _ T.walk _ T.entered _ _ c.next-c-in-Found.ensures,
      still-then _ _ _ c.loop-c.invariant.1
          (still-then _ _ _ (still-on _ _ _ _ c.requires.0 _ _ _ _ _ _ _ G _ l _ T.walk _ T.entered) (still-turns _ _ c.next-c-in-Found.ensures.went.kept)),
    )

pub returns : goal.returns
returns c = (
  rw (to_z-of_z w64 c.args.hint c.ranges.hint) at
      (added-start _ _ _ _ c.requires.0 _ _ _ _ _ _ _ c.next-c.ensures.went.kept c.requires.1 c.requires.2 (going_end _ _ _ _ c.requires.0 _ _ _ _ _ _ _ c.loop-c.invariant.0 (at_end _ c.loop-c.invariant.0.ended c.in_default.not-Found))),
  -- nothing but slots and turns is new since the start
  still-then _ _ _ (still-turns _ _ c.next-c.ensures.went.kept) c.loop-c.invariant.1,
)
