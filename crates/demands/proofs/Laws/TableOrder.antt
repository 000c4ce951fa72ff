-- The refusals of a table and of an asking in 01's order: what the checks give is the first whose sentence holds.
-- Assumes nothing.
use Rattle.std.specs.Prelude.{◌≡◌, refl, ◌⊎◌, List, [], ◌∷◌, ◌++◌, ℕ, ◌≤◌, ◌<◌}
use Rattle.std.proofs.Math.Path.{sym}
use Rattle.std.proofs.Common.{◌∙◌, arith}
use Rattle.std.proofs.Math.Logic.{inl, inr, ⊎_elim}
use Rattle.lists.specs.Choice.{Ground, ground, first_met}
use Rattle.lists.specs.Laws.Decides.{Decides}
use Rattle.lists.proofs.Laws.Decides.{decides-as, decides-one, decides-append, decides-cons, decides-gather, decides-each}
use Rattle.timing.specs.declared.Refusal.{Refusal}
use Rattle.timing.specs.declared.Refusal.TheVariants.{TextLong, LineNotDue, FieldCount, FieldForm, TableRoom, TableHeader, PinNumbers, RootCount, ArcEnds, ArcKinds, ArcRange, ArcsInto, TestNumbers, ModeOrK, RowRoom, ListCount}
use Rattle.timing.specs.Refusals.{place_of}
use Rattle.timing.specs.Table.{Table, pin_count, arc_count, test_count, early, late, arc_time}
use Rattle.timing.specs.Check.{header_bad, pin_bad, roots_bad, ends_bad, kinds_bad, delay_bad, into_bad, test_bad, pin_grounds, arc_ground, arc_grounds, into_grounds, test_grounds, table_grounds, table_fault}
use Rattle.timing.specs.Asked.{asking_bad, room_bad, asking_grounds, asking_fault}
use Rattle.demands.specs.Conditions.{turn, Earlier, HeaderWrong, BadRange, PinWrong, OneRoot, EndsWrong, KindsWrong, IntoWrong, TestWrong, TableHolds, AskingWrong, RoomShort, AskHolds}
use Rattle.demands.proofs.Laws.Turns.{not_itself, not_back}
use Rattle.demands.proofs.Laws.TableTests.{header-means, pin-means, delay-means, roots-means, ends-means, kinds-means, into-means, test-means, asking-means, room-means}
use Rattle.demands.specs.Laws.TableOrder.{Turns}

pub turns-either : {C D : Refusal → Type 0} (a b c d : ℕ) → Turns C a b → Turns D c d → a ≤ b → b < c → c ≤ d → Turns (λ q. C q ⊎ D q) a d
turns-either a b c d f g h k l q (inl z) = let r = f q z in (r.0, omega (arith, r.1))
turns-either a b c d f g h k l q (inr z) = let r = g q z in (omega (arith, r.0), r.1)

-- one refusal, and one for each number
pub turns-one : (x : Refusal) {P : Type 0} → Turns (λ q. (q ≡ x) × P) (turn x) (turn x)
turns-one x q h = rw h.0 (omega arith, omega arith)

pub turns-each : (g : ℕ → Refusal) (P : ℕ → Type 0) (n m : ℕ) → ((i : ℕ) → turn (g i) ≡ m) → Turns (λ q. (i : ℕ) × (i < n) × ((q ≡ g i) × P i)) m m
turns-each g P n m f q h = let e = f h.0 in rw h.2.0 (omega arith, omega arith)

-- a part behind another by its turns
pub decides-turns : {C D : Refusal → Type 0} (a b c d : ℕ) (xs ys : List (Ground Refusal)) → Turns C a b → Turns D c d → b < c
    → Decides Earlier C (first_met xs) → Decides Earlier D (first_met ys) → Decides Earlier (λ q. C q ⊎ D q) (first_met (xs ++ ys))
decides-turns a b c d xs ys f g l u v =
    decides-append Earlier not_itself not_back xs ys u v (λ q r h k. let x = f q h in let y = g r k in inl (inl (omega (arith, x.1, y.0))))

-- ---- a table
module _ (t : Table) where
  abbrev Header : Refusal → Type 0
  Header q = (q ≡ TableHeader) × HeaderWrong t

  abbrev Pins : Refusal → Type 0
  Pins q = (p : ℕ) × (p < pin_count t) × ((q ≡ PinNumbers p) × PinWrong t p)

  abbrev Roots : Refusal → Type 0
  Roots q = (q ≡ RootCount) × (OneRoot t → ⊥)

  abbrev Arc : ℕ → Refusal → Type 0
  Arc a q =
      ((q ≡ ArcEnds a) × EndsWrong t a)
      ⊎ ((q ≡ ArcKinds a) × KindsWrong t a)
      ⊎ ((q ≡ ArcRange a) × BadRange (arc_time t early a) (arc_time t late a))

  abbrev Arcs : Refusal → Type 0
  Arcs q = (a : ℕ) × (a < arc_count t) × Arc a q

  abbrev Intos : Refusal → Type 0
  Intos q = (p : ℕ) × (p < pin_count t) × ((q ≡ ArcsInto p) × IntoWrong t p)

  abbrev Tests : Refusal → Type 0
  Tests q = (j : ℕ) × (j < test_count t) × ((q ≡ TestNumbers j) × TestWrong t j)

  abbrev Some : Refusal → Type 0
  Some q = Header q ⊎ Pins q ⊎ Roots q ⊎ Arcs q ⊎ Intos q ⊎ Tests q

  some_holds : (q : Refusal) → Some q → TableHolds t q
  some_holds q (inl (e, h)) = rw e h
  some_holds q (inr (inl (p, l, (e, h)))) = rw e (l, h)
  some_holds q (inr (inr (inl (e, h)))) = rw e h
  some_holds q (inr (inr (inr (inl (a, l, inl (e, h)))))) = rw e (l, h)
  some_holds q (inr (inr (inr (inl (a, l, inr (inl (e, h))))))) = rw e (l, h)
  some_holds q (inr (inr (inr (inl (a, l, inr (inr (e, h))))))) = rw e (l, h)
  some_holds q (inr (inr (inr (inr (inl (p, l, (e, h))))))) = rw e (l, h)
  some_holds q (inr (inr (inr (inr (inr (j, l, (e, h))))))) = rw e (l, h)

  holds-some : (q : Refusal) → TableHolds t q → Some q
  holds-some TextLong h = absurd h
  holds-some (LineNotDue n) h = absurd h
  holds-some (FieldCount n) h = absurd h
  holds-some (FieldForm n) h = absurd h
  holds-some TableRoom h = absurd h
  holds-some TableHeader h = inl (refl, h)
  holds-some (PinNumbers p) h = inr (inl (p, h.0, (refl, h.1)))
  holds-some RootCount h = inr (inr (inl (refl, h)))
  holds-some (ArcEnds a) h = inr (inr (inr (inl (a, h.0, inl (refl, h.1)))))
  holds-some (ArcKinds a) h = inr (inr (inr (inl (a, h.0, inr (inl (refl, h.1))))))
  holds-some (ArcRange a) h = inr (inr (inr (inl (a, h.0, inr (inr (refl, h.1))))))
  holds-some (ArcsInto p) h = inr (inr (inr (inr (inl (p, h.0, (refl, h.1))))))
  holds-some (TestNumbers j) h = inr (inr (inr (inr (inr (j, h.0, (refl, h.1))))))
  holds-some ModeOrK h = absurd h
  holds-some RowRoom h = absurd h
  holds-some ListCount h = absurd h

  -- one arc: 9, 10, 11 at its place
  arc-at : (a : ℕ) (q : Refusal) → Arc a q → (turn q ≡ 6) × (place_of q ≡ a)
  arc-at a q (inl (e, h)) = rw e (refl, refl)
  arc-at a q (inr (inl (e, h))) = rw e (refl, refl)
  arc-at a q (inr (inr (e, h))) = rw e (refl, refl)

  arc-decides : (a : ℕ) → Decides Earlier (Arc a) (first_met (arc_ground t a))
  unfolding arc_ground
  arc-decides a =
      decides-cons Earlier not_itself not_back (ends_bad t a) (ArcEnds a) _ (ends-means t a)
      (decides-cons Earlier not_itself not_back (kinds_bad t a) (ArcKinds a) _ (kinds-means t a)
      (decides-one Earlier not_itself (delay_bad t a) (ArcRange a) (delay-means t a))
      (λ r k. rw k.0 (inl (inr (refl, inr (refl, omega arith))))))
      (λ r. ⊎_elim (λ k. rw k.0 (inl (inr (refl, inr (refl, omega arith))))) (λ k. rw k.0 (inl (inr (refl, inr (refl, omega arith))))))

  arcs-decide : Decides Earlier Arcs (first_met (arc_grounds t))
  unfolding arc_grounds
  arcs-decide =
      decides-gather Earlier not_itself not_back (arc_ground t) Arc (arc_count t) (λ a l. arc-decides a)
      (λ i j l q r h k.
      let x = arc-at i q h in
      let y = arc-at j r k in
      inr (x.0 ∙ sym y.0, inl (rw (x.1, y.1) l)))

  pins-decide : Decides Earlier Pins (first_met (pin_grounds t))
  unfolding pin_grounds
  pins-decide = decides-each Earlier not_itself not_back (pin_bad t) PinNumbers (PinWrong t) (pin_count t) (λ p l. pin-means t p) (λ i j l. inr (refl, inl l))

  intos-decide : Decides Earlier Intos (first_met (into_grounds t))
  unfolding into_grounds
  intos-decide = decides-each Earlier not_itself not_back (into_bad t) ArcsInto (IntoWrong t) (pin_count t) (λ p l. into-means t p) (λ i j l. inr (refl, inl l))

  tests-decide : Decides Earlier Tests (first_met (test_grounds t))
  unfolding test_grounds
  tests-decide =
      decides-each Earlier not_itself not_back (test_bad t) TestNumbers (TestWrong t) (test_count t) (λ j l. test-means t j) (λ i j l. inr (refl, inl l))

  arcs-turns : Turns Arcs 6 6
  arcs-turns q h = let e = (arc-at h.0 q h.2).0 in (omega arith, omega arith)

  -- from 12 on, from arcs on, from 8 on, from pins on, and all
  turns-12 : Turns (λ q. Intos q ⊎ Tests q) 7 8
  turns-12 =
      turns-either 7 7 8 8 (turns-each ArcsInto (IntoWrong t) (pin_count t) 7 (λ i. refl)) (turns-each TestNumbers (TestWrong t) (test_count t) 8 (λ i. refl))
      (omega arith) (omega arith) (omega arith)

  turns-9 : Turns (λ q. Arcs q ⊎ Intos q ⊎ Tests q) 6 8
  turns-9 = turns-either 6 6 7 8 arcs-turns turns-12 (omega arith) (omega arith) (omega arith)

  turns-8 : Turns (λ q. Roots q ⊎ Arcs q ⊎ Intos q ⊎ Tests q) 5 8
  turns-8 = turns-either 5 5 6 8 (turns-one RootCount) turns-9 (omega arith) (omega arith) (omega arith)

  turns-7 : Turns (λ q. Pins q ⊎ Roots q ⊎ Arcs q ⊎ Intos q ⊎ Tests q) 4 8
  turns-7 = turns-either 4 4 5 8 (turns-each PinNumbers (PinWrong t) (pin_count t) 4 (λ i. refl)) turns-8 (omega arith) (omega arith) (omega arith)

  turns-6 : Turns Some 3 8
  turns-6 = turns-either 3 3 4 8 (turns-one TableHeader) turns-7 (omega arith) (omega arith) (omega arith)

  -- 6 to 13
  some-decides : Decides Earlier Some (first_met (table_grounds t))
  unfolding table_grounds
  some-decides =
      decides-turns 3 3 4 8 (ground (header_bad t) TableHeader ∷ []) _ (turns-one TableHeader) turns-7 (omega arith)
      (decides-one Earlier not_itself (header_bad t) TableHeader (header-means t))
      (decides-turns 4 4 5 8 (pin_grounds t) _ (turns-each PinNumbers (PinWrong t) (pin_count t) 4 (λ i. refl)) turns-8 (omega arith) pins-decide
      (decides-turns 5 5 6 8 (ground (roots_bad t) RootCount ∷ []) _ (turns-one RootCount) turns-9 (omega arith)
      (decides-one Earlier not_itself (roots_bad t) RootCount (roots-means t))
      (decides-turns 6 6 7 8 (arc_grounds t) _ arcs-turns turns-12 (omega arith) arcs-decide
      (decides-turns 7 7 8 8 (into_grounds t) (test_grounds t) (turns-each ArcsInto (IntoWrong t) (pin_count t) 7 (λ i. refl))
      (turns-each TestNumbers (TestWrong t) (test_count t) 8 (λ i. refl)) (omega arith) intos-decide tests-decide))))

  pub table-decides : Decides Earlier (TableHolds t) (table_fault t)
  unfolding table_fault
  table-decides = decides-as Earlier some-decides some_holds holds-some

  -- ---- an asking
  module _ (mode k room work : ℕ) where
    abbrev Asked : Refusal → Type 0
    Asked q = ((q ≡ ModeOrK) × AskingWrong mode k) ⊎ ((q ≡ RowRoom) × RoomShort t k room work)

    either-holds : (q : Refusal) → TableHolds t q ⊎ Asked q → AskHolds t mode k room work q
    either-holds q (inr (inl (e, h))) = rw e h
    either-holds q (inr (inr (e, h))) = rw e h
    either-holds TextLong (inl h) = h
    either-holds (LineNotDue n) (inl h) = h
    either-holds (FieldCount n) (inl h) = h
    either-holds (FieldForm n) (inl h) = h
    either-holds TableRoom (inl h) = h
    either-holds TableHeader (inl h) = h
    either-holds (PinNumbers p) (inl h) = h
    either-holds RootCount (inl h) = h
    either-holds (ArcEnds a) (inl h) = h
    either-holds (ArcKinds a) (inl h) = h
    either-holds (ArcRange a) (inl h) = h
    either-holds (ArcsInto p) (inl h) = h
    either-holds (TestNumbers j) (inl h) = h
    either-holds ModeOrK (inl h) = absurd h
    either-holds RowRoom (inl h) = absurd h
    either-holds ListCount (inl h) = h

    holds-either : (q : Refusal) → AskHolds t mode k room work q → TableHolds t q ⊎ Asked q
    holds-either TextLong h = absurd h
    holds-either (LineNotDue n) h = absurd h
    holds-either (FieldCount n) h = absurd h
    holds-either (FieldForm n) h = absurd h
    holds-either TableRoom h = absurd h
    holds-either TableHeader h = inl h
    holds-either (PinNumbers p) h = inl h
    holds-either RootCount h = inl h
    holds-either (ArcEnds a) h = inl h
    holds-either (ArcKinds a) h = inl h
    holds-either (ArcRange a) h = inl h
    holds-either (ArcsInto p) h = inl h
    holds-either (TestNumbers j) h = inl h
    holds-either ModeOrK h = inr (inl (refl, h))
    holds-either RowRoom h = inr (inr (refl, h))
    holds-either ListCount h = absurd h

    pub ask-decides : Decides Earlier (AskHolds t mode k room work) (asking_fault t mode k room work)
    unfolding asking_fault asking_grounds table_fault
    ask-decides =
        let b14 = asking_bad mode k in
        let b15 = room_bad (pin_count t) k room work in
        decides-as Earlier
        (decides-turns 3 8 9 10 (table_grounds t) (ground b14 ModeOrK ∷ ground b15 RowRoom ∷ []) (λ q h. turns-6 q (holds-some q h))
        (turns-either 9 9 10 10 (turns-one ModeOrK) (turns-one RowRoom) (omega arith) (omega arith) (omega arith)) (omega arith) table-decides
        (decides-turns 9 9 10 10 (ground b14 ModeOrK ∷ []) (ground b15 RowRoom ∷ []) (turns-one ModeOrK) (turns-one RowRoom) (omega arith)
        (decides-one Earlier not_itself b14 ModeOrK (asking-means mode k)) (decides-one Earlier not_itself b15 RowRoom (room-means t k room work))))
        either-holds holds-either
