-- The structure of a table, place by place: each column holds the table's numbers. Here the table's layout ends.
-- Assumes nothing.
use Rattle.std.specs.Prelude.{◌≡◌, ℕ, ◌<◌}
use Rattle.std.proofs.Math.Path.{ap}
use Rattle.std.proofs.Common.{◌∙◌}
use Rattle.std.proofs.Math.Dec.{eqb}
use Rattle.lists.specs.Parts.{below, those}
use Rattle.lists.proofs.Laws.Member.{those-cong, in-below}
use Rattle.lists.proofs.Laws.Column.{column-length, column-at}
use Rattle.timing.specs.Kinds.{R}
use Rattle.timing.specs.Table.{Table, pin_count, arc_count, test_count, pin_kind, arc_from, arc_to, test_clock, test_data}
use Rattle.timing.specs.Structure.{pins, arcs, tests, kind, leaves, enters, clock_pin, data_pin, structure}
use Rattle.timing.specs.Clock.{into}
use Rattle.timing.specs.Check.{is_root, arcs_into}

module _ (t : Table) where
  pub pins-is : pins (structure t) ≡ pin_count t
  unfolding pins structure
  pins-is = column-length (pin_kind t) (pin_count t)

  pub arcs-is : arcs (structure t) ≡ arc_count t
  unfolding arcs structure
  arcs-is = column-length (arc_to t) (arc_count t)

  pub tests-is : tests (structure t) ≡ test_count t
  unfolding tests structure
  tests-is = column-length (test_data t) (test_count t)

  pub kind-is : (p : ℕ) → p < pin_count t → kind (structure t) p ≡ pin_kind t p
  unfolding kind structure
  kind-is p h = column-at (pin_kind t) 0 (pin_count t) p h

  pub leaves-is : (a : ℕ) → a < arc_count t → leaves (structure t) a ≡ arc_from t a
  unfolding leaves structure
  leaves-is a h = column-at (arc_from t) 0 (arc_count t) a h

  pub enters_is : (a : ℕ) → a < arc_count t → enters (structure t) a ≡ arc_to t a
  unfolding enters structure
  enters_is a h = column-at (arc_to t) 0 (arc_count t) a h

  pub clock-is : (j : ℕ) → j < test_count t → clock_pin (structure t) j ≡ test_clock t j
  unfolding clock_pin structure
  clock-is j h = column-at (test_clock t) 0 (test_count t) j h

  pub data_is : (j : ℕ) → j < test_count t → data_pin (structure t) j ≡ test_data t j
  unfolding data_pin structure
  data_is j h = column-at (test_data t) 0 (test_count t) j h

  -- the arcs into a pin
  pub into-is : (p : ℕ) → into (structure t) p ≡ arcs_into t p
  unfolding into arcs_into
  into-is p =
      ap (λ (n : ℕ). those (λ (a : ℕ). eqb (enters (structure t) a) p) (below n)) arcs-is
      ∙ those-cong (λ (a : ℕ). eqb (enters (structure t) a) p) (λ (a : ℕ). eqb (arc_to t a) p) (below (arc_count t))
      (λ a h. ap (λ (v : ℕ). eqb v p) (enters_is a (in-below a (arc_count t) h)))

  -- the pins of kind R
  pub roots-are : those (λ (p : ℕ). eqb (kind (structure t) p) R) (below (pins (structure t))) ≡ those (is_root t) (below (pin_count t))
  roots-are =
      ap (λ (n : ℕ). those (λ (p : ℕ). eqb (kind (structure t) p) R) (below n)) pins-is
      ∙ those-cong (λ (p : ℕ). eqb (kind (structure t) p) R) (is_root t) (below (pin_count t))
      (λ p h. ap (λ (k : ℕ). eqb k R) (kind-is p (in-below p (pin_count t) h)))
