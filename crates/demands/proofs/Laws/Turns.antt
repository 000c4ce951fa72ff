-- The order of refusals leaves no two unordered: number and place tell every refusal from every other.
-- Assumes nothing.
use Rattle.std.specs.Prelude.{◌≡◌, refl, ◌⊎◌, ℕ, ◌<◌, eqb}
use Rattle.std.proofs.Common.{sym, ap₂, ◌∙◌, inl, inr, arith}
use Rattle.std.proofs.Math.Decide.{dec_lt}
use Rattle.lists.specs.Choice.{pick}
use Rattle.timing.specs.declared.Refusal.{Refusal}
use Rattle.timing.specs.declared.Refusal.TheVariants.{TextLong, LineNotDue, FieldCount, FieldForm, TableRoom, TableHeader, PinNumbers, RootCount, ArcEnds, ArcKinds, ArcRange, ArcsInto, TestNumbers, ModeOrK, RowRoom, ListCount}
use Rattle.timing.specs.Refusals.{number_of, place_of}
use Rattle.demands.specs.Conditions.{turn, Earlier}

-- the refusal with a number and a place
abbrev refusal_of : ℕ → ℕ → Refusal
refusal_of n p =
    pick (eqb n 1) TextLong
    (pick (eqb n 2) (LineNotDue p)
    (pick (eqb n 3) (FieldCount p)
    (pick (eqb n 4) (FieldForm p)
    (pick (eqb n 5) TableRoom
    (pick (eqb n 6) TableHeader
    (pick (eqb n 7) (PinNumbers p)
    (pick (eqb n 8) RootCount
    (pick (eqb n 9) (ArcEnds p)
    (pick (eqb n 10) (ArcKinds p)
    (pick (eqb n 11) (ArcRange p)
    (pick (eqb n 12) (ArcsInto p)
    (pick (eqb n 13) (TestNumbers p)
    (pick (eqb n 14) ModeOrK
    (pick (eqb n 15) RowRoom ListCount))))))))))))))

refusal-of : (r : Refusal) → refusal_of (number_of r) (place_of r) ≡ r
unfolding pick
refusal-of TextLong = refl
refusal-of (LineNotDue n) = refl
refusal-of (FieldCount n) = refl
refusal-of (FieldForm n) = refl
refusal-of TableRoom = refl
refusal-of TableHeader = refl
refusal-of (PinNumbers p) = refl
refusal-of RootCount = refl
refusal-of (ArcEnds a) = refl
refusal-of (ArcKinds a) = refl
refusal-of (ArcRange a) = refl
refusal-of (ArcsInto p) = refl
refusal-of (TestNumbers j) = refl
refusal-of ModeOrK = refl
refusal-of RowRoom = refl
refusal-of ListCount = refl

-- number and place tell a refusal
pub same-refusal : (q r : Refusal) → number_of q ≡ number_of r → place_of q ≡ place_of r → q ≡ r
same-refusal q r e f = sym (refusal-of q) ∙ ap₂ refusal_of e f ∙ refusal-of r

-- no refusal is earlier than itself
pub not_itself : (q : Refusal) → Earlier q q → ⊥
not_itself q (inl h) = omega arith
not_itself q (inr (e, inl h)) = omega arith
not_itself q (inr (e, inr h)) = omega (arith, h.1)

-- nor are two earlier than each other
pub not_back : (q r : Refusal) → Earlier q r → Earlier r q → ⊥
not_back q r (inl h) (inl k) = omega arith
not_back q r (inl h) (inr k) = omega (arith, k.0)
not_back q r (inr h) (inl k) = omega (arith, h.0)
not_back q r (inr (e, inl h)) (inr (f, inl k)) = omega arith
not_back q r (inr (e, inl h)) (inr (f, inr k)) = omega (arith, k.0)
not_back q r (inr (e, inr h)) (inr (f, inl k)) = omega (arith, h.0)
not_back q r (inr (e, inr h)) (inr (f, inr k)) = omega (arith, h.1, k.1)

-- of two that differ one is earlier
either : (a b : ℕ) → (a < b) ⊎ (a ≡ b) ⊎ (b < a)
either a b = elim (dec_lt a b) [
  | yes l ↦ inl l
  | no l ↦ elim (dec_lt b a) [ yes m ↦ inr (inr m) | no m ↦ inr (inl (omega arith)) ]
]

pub one_earlier : (q r : Refusal) → Earlier q r ⊎ ((q ≡ r) ⊎ Earlier r q)
one_earlier q r = by_turn (either (turn q) (turn r))
  where
    by_number : turn q ≡ turn r → place_of q ≡ place_of r → (number_of q < number_of r) ⊎ (number_of q ≡ number_of r) ⊎ (number_of r < number_of q)
        → Earlier q r ⊎ ((q ≡ r) ⊎ Earlier r q)
    by_number e f (inl h) = inl (inr (e, inr (f, h)))
    by_number e f (inr (inl h)) = inr (inl (same-refusal q r h f))
    by_number e f (inr (inr h)) = inr (inr (inr (sym e, inr (sym f, h))))

    by_place : turn q ≡ turn r → (place_of q < place_of r) ⊎ (place_of q ≡ place_of r) ⊎ (place_of r < place_of q) → Earlier q r ⊎ ((q ≡ r) ⊎ Earlier r q)
    by_place e (inl h) = inl (inr (e, inl h))
    by_place e (inr (inl h)) = by_number e h (either (number_of q) (number_of r))
    by_place e (inr (inr h)) = inr (inr (inr (sym e, inl h)))

    by_turn : (turn q < turn r) ⊎ (turn q ≡ turn r) ⊎ (turn r < turn q) → Earlier q r ⊎ ((q ≡ r) ⊎ Earlier r q)
    by_turn (inl h) = inl (inl h)
    by_turn (inr (inl h)) = by_place h (either (place_of q) (place_of r))
    by_turn (inr (inr h)) = inr (inr (inl h))
