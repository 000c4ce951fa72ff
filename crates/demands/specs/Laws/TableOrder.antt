-- The refusals of a table and of an asking in 01's order: what the checks give is the first whose sentence holds.
-- Assumes nothing.
use Rattle.std.specs.Prelude.{ℕ, ◌≤◌}
use Rattle.timing.specs.declared.Refusal.{Refusal}
use Rattle.demands.specs.Conditions.{turn}

-- ---- parts of an order, by turns

-- the turns of those of which C holds are from lo to hi
abbrev pub Turns : (Refusal → Type 0) → ℕ → ℕ → Type 0
Turns C lo hi = (q : Refusal) → C q → (lo ≤ turn q) × (turn q ≤ hi)
