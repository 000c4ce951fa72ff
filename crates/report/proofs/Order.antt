-- The refusals of an asking, stage by stage: those of its table, 14, 15, none.
-- Assumes nothing.
use mathlib.Core.Path.{◌≡◌, refl, ap, ◌∙◌}
use mathlib.Core.Bool.{true, false, ◌||◌}
use mathlib.Core.List.{List, [], ◌∷◌}
use mathlib.Core.Option.{Option, none, some}
use Prim.Native.Nat.{ℕ, ◌≤◌}
use native.Mathlib.Omega.{arith}
use borrow.Author.Tests.{ltb-false}
use lib.Dec.{eqb, ltb}
use Rattle.lists.specs.Choice.{Ground, ground, first_met}
use Rattle.lists.proofs.Laws.Cases.{or-none}
use Rattle.lists.proofs.Laws.Chosen.{met-append, met-front, met-none, ground-here, ground-on}
use Rattle.timing.specs.Limits.{most_k}
use Rattle.timing.specs.Table.{Table, pin_count}
use Rattle.timing.specs.Check.{table_grounds, table_fault}
use Rattle.timing.specs.Refusals.{checked_of}
use Rattle.timing.specs.Asked.{asking_bad, room_bad, asking_grounds, asking_fault}
use Rattle.timing.specs.declared.Refusal.{Refusal}
use Rattle.timing.specs.declared.Refusal.TheVariants.{ModeOrK, RowRoom}
use Rattle.std.specs.Prelude.{Ok, Err}

-- what the check of the table answers, as what it finds
pub found_none : (o : Option Refusal) → Ok tt ≡ checked_of o → o ≡ none
found_none none e = refl
found_none (some r) e = let z : ◌≡◌ {A = ℕ} 0 1 = cc in absurd (omega arith)

pub found_some : (r : Refusal) (o : Option Refusal) → Err r ≡ checked_of o → o ≡ some r
found_some r none e = let z : ◌≡◌ {A = ℕ} 0 1 = cc in absurd (omega arith)
found_some r (some q) e = cc

-- behind 14
pub few-rows : (mode k : ℕ) → asking_bad mode k ≡ false → k ≤ most_k
few-rows mode k h = ltb-false most_k k (or-none (ltb 1 mode || eqb k 0) (ltb most_k k) h).1

module _ (t : Table) (mode k room work : ℕ) where
  -- 15
  abbrev from15 : List (Ground Refusal)
  from15 = ground (room_bad (pin_count t) k room work) RowRoom ∷ []

  -- 14 and 15
  abbrev from14 : List (Ground Refusal)
  from14 = ground (asking_bad mode k) ModeOrK ∷ from15

  pub refuse-table : (r : Refusal) → table_fault t ≡ some r → checked_of (asking_fault t mode k room work) ≡ Err r
  unfolding asking_fault asking_grounds table_fault
  refuse-table r h = ap checked_of (met-front (table_grounds t) from14 r h)

  module _ (h : table_fault t ≡ none) where
    pub refuse-14 : asking_bad mode k ≡ true → checked_of (asking_fault t mode k room work) ≡ Err ModeOrK
    unfolding asking_fault asking_grounds table_fault
    refuse-14 g = ap checked_of (met-append (table_grounds t) from14 h ∙ ground-here (asking_bad mode k) ModeOrK from15 g)

    past-14 : asking_bad mode k ≡ false → asking_fault t mode k room work ≡ first_met from15
    unfolding asking_fault asking_grounds table_fault
    past-14 g = met-append (table_grounds t) from14 h ∙ ground-on (asking_bad mode k) ModeOrK from15 g

    pub refuse-15 : asking_bad mode k ≡ false → room_bad (pin_count t) k room work ≡ true → checked_of (asking_fault t mode k room work) ≡ Err RowRoom
    refuse-15 g e = ap checked_of (past-14 g ∙ ground-here (room_bad (pin_count t) k room work) RowRoom [] e)

    pub past-15 : asking_bad mode k ≡ false → room_bad (pin_count t) k room work ≡ false → checked_of (asking_fault t mode k room work) ≡ Ok tt
    past-15 g e = ap checked_of (past-14 g ∙ ground-on (room_bad (pin_count t) k room work) RowRoom [] e ∙ met-none)
