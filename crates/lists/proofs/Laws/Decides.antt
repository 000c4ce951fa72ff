-- The law of the order of refusals, with sentences in place of tests: "Each is given exactly when its condition holds and none earlier in the order does."
--
-- `Decides C o`: o is the first, in the order `Earlier`, of those of which the condition C holds, or none. A list of grounds decides part by part: one ground,
-- one list behind another, one list for each number. Where the order leaves no two unordered, what is decided is exactly what the sentence says
-- (`decides-exactly`).
-- Assumes nothing.
use Rattle.std.specs.Prelude.{◌≡◌, refl, ◌⊎◌, ◌↔◌, Bool, true, false}
use Rattle.std.proofs.Common.{sym, ap, ◌∙◌}
use Rattle.std.proofs.Math.Logic.{inl, inr, ⊎_elim}
use mathlib.Core.List.{List, [], ◌∷◌, ◌++◌, append-nil}
use Rattle.std.proofs.Math.Option.{Option, none, some, some-injective}
use Prim.Native.Nat.{ℕ, zero, suc, ◌<◌}
use Rattle.std.proofs.Math.Nat.{not-suc-le-zero}
use native.Mathlib.Omega.{arith}
use Rattle.std.proofs.Math.Decide.{dec_lt}
use Rattle.lists.specs.Choice.{Ground, ground, first_met}
use Rattle.lists.specs.Parts.{below, each, gather}
use Rattle.lists.proofs.Laws.Cases.{by-test}
use Rattle.lists.proofs.Laws.Join.{gather-join, each-gather}
use Rattle.lists.proofs.Laws.Chosen.{met-none, ground-here, ground-on, met-append, met-front}
use Rattle.lists.specs.Laws.Means.{Means}
use Rattle.lists.proofs.Laws.Means.{means-fails}
use Rattle.lists.specs.Laws.Decides as Of

module _ {X : Type 0} (Earlier : X → X → Type 0) where
  abbrev First : (X → Type 0) → X → Type 0
  First = Of.First Earlier

  abbrev Decides : (X → Type 0) → Option X → Type 0
  Decides = Of.Decides Earlier

  not-both {ℓ} : {Y : Type ℓ} (r : X) → none ≡ some r → Y
  not-both r e = let q : ◌≡◌ {A = ℕ} 0 1 = cc in absurd (omega arith)

  -- the same of conditions that say as much
  pub decides-as : {C D : X → Type 0} {o : Option X} → Decides C o → ((q : X) → C q → D q) → ((q : X) → D q → C q) → Decides D o
  decides-as d f g =
      record {
        first = λ r e. let h = d.first r e in (f r h.0, λ q l k. h.1 q l (g q k));
        clean = λ e q k. d.clean e q (g q k);
      }

  -- no ground: nothing holds
  pub decides-none : Decides (λ q. ⊥) (first_met [])
  decides-none = record { first = λ r e. not-both r (sym met-none ∙ e); clean = λ e q k. k }

  module _ (not_itself : (q : X) → Earlier q q → ⊥) where
    -- one ground
    pub decides-one : (b : Bool) (x : X) {P : Type 0} → Means b P → Decides (λ q. (q ≡ x) × P) (first_met (ground b x ∷ []))
    decides-one b x {P} m = by-test b yes-b no-b
      where
        yes-b : b ≡ true → Decides (λ q. (q ≡ x) × P) (first_met (ground b x ∷ []))
        yes-b e =
            let h : first_met (ground b x ∷ []) ≡ some x = ground-here b x [] e in
            record {
              first = λ r z.
                  let q : r ≡ x = sym (some-injective x r (sym h ∙ z)) in
                  ((q, m.0 e), λ y l k. not_itself x (rw (k.0, q) at l));
              clean = λ z q k. not-both x (sym z ∙ h);
            }

        no-b : b ≡ false → Decides (λ q. (q ≡ x) × P) (first_met (ground b x ∷ []))
        no-b e =
            let h : first_met (ground b x ∷ []) ≡ none = ground-on b x [] e ∙ met-none in
            record { first = λ r z. not-both r (sym h ∙ z); clean = λ z q k. means-fails m e k.1 }

    module _ (not_back : (q r : X) → Earlier q r → Earlier r q → ⊥) where
      abbrev NotLater : X → X → Type 0
      NotLater = Of.NotLater Earlier not_itself not_back

      -- one list behind another, none of the second's before one of the first's
      pub decides-append : {C D : X → Type 0} (xs ys : List (Ground X)) → Decides C (first_met xs) → Decides D (first_met ys)
          → ((q r : X) → C q → D r → NotLater q r) → Decides (λ q. C q ⊎ D q) (first_met (xs ++ ys))
      decides-append {C} {D} xs ys c d o = by_first (first_met xs) refl
        where
          late : (q r : X) → C r → D q → Earlier q r → NotLater r q → ⊥
          late q r h k l (inl z) = not_back q r l z
          late q r h k l (inr z) = not_itself q (rw z at l)

          none_before : (r : X) → First C r → (q : X) → Earlier q r → C q ⊎ D q → ⊥
          none_before r f q l (inl k) = f.1 q l k
          none_before r f q l (inr k) = late q r f.0 k l (o r q f.0 k)

          by_first : (f : Option X) → first_met xs ≡ f → Decides (λ q. C q ⊎ D q) (first_met (xs ++ ys))
          by_first (some x) e =
              let h : first_met (xs ++ ys) ≡ some x = met-front xs ys x e in
              record {
                first = λ r z.
                    let q : x ≡ r = some-injective x r (sym h ∙ z) in
                    let f = c.first r (e ∙ ap some q) in
                    (inl f.0, none_before r f);
                clean = λ z q k. not-both x (sym z ∙ h);
              }
          by_first none e =
              let h : first_met (xs ++ ys) ≡ first_met ys = met-append xs ys e in
              let n = c.clean e in
              record {
                first = λ r z. let f = d.first r (sym h ∙ z) in (inr f.0, λ q l. ⊎_elim (n q) (f.1 q l));
                clean = λ z q. ⊎_elim (n q) (d.clean (sym h ∙ z) q);
              }

      -- one ground before others
      pub decides-cons : (b : Bool) (x : X) {P : Type 0} {D : X → Type 0} (ys : List (Ground X)) → Means b P → Decides D (first_met ys)
          → ((r : X) → D r → NotLater x r) → Decides (λ q. ((q ≡ x) × P) ⊎ D q) (first_met (ground b x ∷ ys))
      decides-cons b x {P} {D} ys m d o = decides-append (ground b x ∷ []) ys (decides-one b x m) d (λ q r k h. rw k.0 (o r h))

      -- for each number below n a list, in the order of the numbers
      pub decides-gather : (f : ℕ → List (Ground X)) (C : ℕ → X → Type 0) (n : ℕ) → ((i : ℕ) → i < n → Decides (C i) (first_met (f i)))
          → ((i j : ℕ) → i < j → (q r : X) → C i q → C j r → Earlier q r) → Decides (λ q. (i : ℕ) × (i < n) × C i q) (first_met (gather f (below n)))
      unfolding below gather
      decides-gather f C zero d o = decides-as decides-none (λ q k. absurd k) (λ q k. not-suc-le-zero k.1)
      decides-gather f C (suc n) d o =
          let front = decides-gather f C n (λ i l. d i (omega arith)) o in
          rw (gather-join f (below n) (n ∷ []), append-nil (f n))
          (decides-as
          (decides-append (gather f (below n)) (f n) front (d n (omega arith)) (λ q r h k. inl (o h.0 n h.1 q r h.2 k)))
          (λ q. ⊎_elim (λ k. (k.0, omega (arith, k.1), k.2)) (λ k. (n, omega arith, k)))
          (λ q k. last q k.0 k.1 k.2))
        where
          last : (q : X) (i : ℕ) → i < suc n → C i q → ((j : ℕ) × (j < n) × C j q) ⊎ C n q
          last q i l k = elim (dec_lt i n) [
            | yes h ↦ inl (i, h, k)
            | no h ↦ let e : i ≡ n = omega arith in inr (rw e at k)
          ]

      -- and one ground for each
      pub decides-each : (bad : ℕ → Bool) (g : ℕ → X) (P : ℕ → Type 0) (n : ℕ) → ((i : ℕ) → i < n → Means (bad i) (P i))
          → ((i j : ℕ) → i < j → Earlier (g i) (g j))
          → Decides (λ q. (i : ℕ) × (i < n) × ((q ≡ g i) × P i)) (first_met (each (λ (i : ℕ). ground (bad i) (g i)) (below n)))
      decides-each bad g P n m o =
          rw each-gather
          (decides-gather (λ i. ground (bad i) (g i) ∷ []) (λ i q. (q ≡ g i) × P i) n (λ i l. decides-one (bad i) (g i) (m i l))
          (λ i j l q r h k. rw (h.0, k.0) (o i j l)))

  -- ---- the sentence

  -- where of every two one is earlier: given exactly when the condition holds and none earlier does, and none exactly when none holds
  pub decides-exactly : ((q r : X) → Earlier q r ⊎ ((q ≡ r) ⊎ Earlier r q)) → {C : X → Type 0} {o : Option X} → Decides C o
      → ((r : X) → (o ≡ some r) ↔ First C r) × ((o ≡ none) ↔ ((q : X) → C q → ⊥))
  decides-exactly total {C} {o} d = ((λ r. (d.first r, λ f. by-case o refl r f)), (d.clean, λ n. none-case o refl n))
    where
      by-case : (p : Option X) → o ≡ p → (r : X) → First C r → o ≡ some r
      by-case none e r f = absurd (d.clean e r f.0)
      by-case (some q) e r f =
          let g = d.first q e in
          ⊎_elim (λ l. absurd (f.1 q l g.0)) (⊎_elim (λ z. e ∙ ap some z) (λ l. absurd (g.1 r l f.0))) (total q r)

      none-case : (p : Option X) → o ≡ p → ((q : X) → C q → ⊥) → o ≡ none
      none-case none e n = e
      none-case (some q) e n = absurd (n q (d.first q e).0)
