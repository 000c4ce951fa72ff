-- `timing::may_drive` meets its contract: one test, computed at all 25 entries, is the rule of the table. Assumes nothing.
use mathlib.Core.Path.{◌≡◌, refl, sym}
use mathlib.Core.Bool.{Bool, true, false, not}
use mathlib.Core.List.{List, [], ◌∷◌}
use Prim.Native.Nat.{ℕ, ◌<◌}
use borrow.Author.Rules.{rules}
use lib.ListN.{get_or}
use Rattle.lists.specs.Choice.{pick}
use Rattle.lists.specs.Parts.{below, any, every}
use Rattle.lists.proofs.Laws.Member.{every_in, into-below}
use Rattle.timing.specs.Kinds.{allowed, may_drive}
use Rattle.timing.proofs.Laws.Kinds.{drive-kinds}
use Rattle.timing.proofs.may_drive.Goals as goal

-- the code's table
entries : List (List Bool)
entries =
    (false ∷ true ∷ true ∷ false ∷ false ∷ [])
    ∷ (false ∷ true ∷ true ∷ false ∷ false ∷ [])
    ∷ (false ∷ false ∷ false ∷ false ∷ true ∷ [])
    ∷ (false ∷ false ∷ false ∷ false ∷ true ∷ [])
    ∷ (false ∷ false ∷ false ∷ false ∷ true ∷ [])
    ∷ []

agree : Bool → Bool → Bool
agree true b = b
agree false b = not b

agree-is : (a b : Bool) → agree a b ≡ true → a ≡ b
unfolding agree
agree-is true true e = refl
agree-is true false e = sym e
agree-is false true e = e
agree-is false false e = refl

-- entry for entry
right : ℕ → ℕ → Bool
right from onto = agree (get_or (get_or entries from []) onto false) (may_drive from onto)

all_right : every (λ (f : ℕ). every (right f) (below 5)) (below 5) ≡ true
unfolding every below pick right agree entries may_drive any allowed
all_right = refl

right-at : (f k : ℕ) → f < 5 → k < 5 → get_or (get_or entries f []) k false ≡ may_drive f k
unfolding right
right-at f k l m =
    agree-is (get_or (get_or entries f []) k false) (may_drive f k)
    (every_in (right f) (below 5) (every_in (λ (f : ℕ). every (right f) (below 5)) (below 5) all_right f (into-below f 5 l)) k (into-below k 5 m))

-- beyond the five kinds nothing is allowed
beyond : (b : Bool) → b ≡ false → (f k : ℕ) → (f < 5 → k < 5 → ⊥) → b ≡ may_drive f k
beyond b e f k h = rw e (go (may_drive f k) refl)
  where
    go : (b : Bool) → may_drive f k ≡ b → false ≡ b
    go true e = let r = drive-kinds f k e in absurd (h r.0 r.1)
    go false e = refl

pub returns-then-to-lt-KINDS : goal.returns-then-to-lt-KINDS
unfolding entries
returns-then-to-lt-KINDS c = right-at _ _ (search rules) (search rules)

pub returns-else-to-lt-KINDS : goal.returns-else-to-lt-KINDS
returns-else-to-lt-KINDS c = beyond _ (search rules) _ _ (λ l m. search rules)

pub returns-else-from-lt-KINDS : goal.returns-else-from-lt-KINDS
returns-else-from-lt-KINDS c = beyond _ (search rules) _ _ (λ l m. search rules)
