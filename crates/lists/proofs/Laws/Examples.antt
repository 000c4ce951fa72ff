-- Worked examples of the definitions, computed: a reader sees what each does, and a definition that is changed is refused by a value.
-- Assumes nothing.
use Rattle.std.specs.Prelude.{ℕ, ◌/◌, ◌≡◌, refl, true, false, [], ◌∷◌, ℤ, pos}
use Rattle.std.proofs.Math.Option.{some}
use Rattle.lists.specs.Choice.{pick, ground, first_met}
use Rattle.lists.specs.Parts.{capped, onto, split, written}
use Rattle.lists.specs.Rank.{enter, rank, by}
use Rattle.lists.specs.Laws.Top.{rank_top}

-- the first ground that is met decides, whatever is met behind it
first-met : first_met {X = ℕ} (ground false 1 ∷ ground true 2 ∷ ground true 3 ∷ []) ≡ some 2
unfolding first_met
first-met = refl

-- "ab\n\nc\n" has four lines: two bytes, none, one, and none behind the last end of line; no line has the byte that ends it
four-lines : split 10 (97 ∷ 98 ∷ 10 ∷ 10 ∷ 99 ∷ 10 ∷ []) ≡ (97 ∷ 98 ∷ []) ∷ [] ∷ (99 ∷ []) ∷ [] ∷ []
unfolding split onto pick
four-lines = refl

-- two rows written to a room of four
two-written : written {A = ℕ} (7 ∷ 8 ∷ []) (1 ∷ 2 ∷ 3 ∷ 4 ∷ []) ≡ 7 ∷ 8 ∷ 3 ∷ 4 ∷ []
unfolding written
two-written = refl

-- a cap of 10
below-cap : capped 10 4 5 ≡ 9
unfolding capped
below-cap = refl

at_cap : capped 10 8 5 ≡ 10
unfolding capped
at_cap = refl

-- numbers ranked by their tens
tens : ℕ → ℤ
tens n = pos (n / 10)

-- 15 has the tens of 12 and 18 and goes behind both
behind-equals : enter (by tens) 15 (7 ∷ 12 ∷ 18 ∷ 31 ∷ []) ≡ 7 ∷ 12 ∷ 18 ∷ 15 ∷ 31 ∷ []
unfolding enter pick tens
behind-equals = refl

-- of equal tens, the one that came first stays first
in_order : rank (by tens) [] (25 ∷ 11 ∷ 23 ∷ 4 ∷ 18 ∷ []) ≡ 4 ∷ 11 ∷ 18 ∷ 25 ∷ 23 ∷ []
unfolding rank enter pick tens
in_order = refl

-- cut to three after each entering: the first three of the whole
first_three : rank_top (by tens) 3 [] (25 ∷ 11 ∷ 23 ∷ 4 ∷ 18 ∷ []) ≡ 4 ∷ 11 ∷ 18 ∷ []
unfolding rank_top enter pick tens
first_three = refl
