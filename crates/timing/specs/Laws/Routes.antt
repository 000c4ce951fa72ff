-- The clock routes of a sound structure: every climb is bounded by the pin's level, every clock pin's route ends at R, two K have a common pin, and from
-- it up their climbs are one.
--
-- A climb is defined by a bound on its steps. `climb-top`, `climb-step` and the induction `climb-ind` hide that bound: nothing below unfolds a climb.
-- Assumes nothing.
use Rattle.std.proofs.Math.Path.{◌≡◌}
use Rattle.std.specs.Prelude.{◌⊎◌}
use mathlib.Core.List.{List, ◌++◌}
use Prim.Native.Nat.{ℕ, ◌+◌, ◌≤◌}
use Rattle.std.proofs.Math.ListN.{length}
use Rattle.timing.specs.Kinds.{R, B, K}
use Rattle.timing.specs.Structure.{Structure, kind}
use Rattle.timing.specs.Clock.{climb, common}
use Rattle.timing.specs.Laws.Sound.{Sound}

-- a pin's climb, up to what it shares with the climb of x
pub record Split (s : Structure) (ok : Sound s) (x p : ℕ) : Type 0 where
  pub front : List ℕ
  pub meets : climb s p ≡ front ++ climb s x
  pub short : length front + ok.level x ≤ ok.level p

module _ (s : Structure) (ok : Sound s) where
  -- ---- every clock pin's route ends at R
  abbrev pub Clocked : ℕ → Type 0
  Clocked p = (kind s p ≡ R) ⊎ ((kind s p ≡ B) ⊎ (kind s p ≡ K))

  pub record Meeting (p q : ℕ) : Type 0 where
    pub own : Split s ok (common s p q) p
    pub other : Split s ok (common s p q) q
