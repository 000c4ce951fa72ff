-- What `try_for_each` and `count` over the numbers below n answer, in the words of the definitions. Assumes nothing.
use Rattle.std.specs.Prelude.{ℕ, zero, suc, ◌++◌, ◌+◌, ◌<◌, ◌≡◌, Bool, true, false, List, ◌∷◌, [], Result, Ok, Err, Option, length, Some, IfSome, IsSomeAnd}
use Rattle.std.proofs.Common.{arith, refl, sym, subst, ap, ◌∙◌}
use Rattle.std.proofs.Math.Option.{none}
use Rattle.std.specs.Result.{IsErr, IsErrAnd, result_from_control_flow}
use Rattle.std.specs.Fn.{Called}
use denote.Param.Members.{Mut}
use Rattle.std.specs.Iterator.Runs.{Run, SomeRun, CallKeepsClosure, IsTryForEachRun}
use Rattle.std.specs.List.{filter, range_with_len}
use Rattle.std.specs.Bool.{MatchBool}
use Rattle.std.proofs.lemmas.Iterator.Adapters.{option_map_id}
use Rattle.std.proofs.iter.Yields.{nat_range_steps}
use Rattle.std.proofs.iter.runs.Sources.{range_runs}
use Rattle.lists.specs.Choice.{pick, Ground, ground, first_met}
use Rattle.lists.specs.Parts.{below, those, each, gather}
use Rattle.lists.specs.Laws.Scan.{tally}
use Rattle.lists.proofs.Laws.Cases.{by-test}
use Rattle.lists.proofs.Laws.Join.{each-gather}
use Rattle.lists.proofs.Laws.Scan.{gather_none, gather-some}
use Rattle.timing.specs.declared.Refusal.{Refusal}
use Rattle.timing.specs.Refusals.{checked_of}
use Rattle.tables.specs.Parts.{refused}
use Rattle.tables.specs.Known.{fine-none, refused-fault}

-- the item at place y of a run over a range
at_place : (p : Run nat_range_steps) (y : ℕ) → y < p.len → p.at y ≡ Some (p.from.start + y)
at_place p y l = sym (option_map_id (p.at y)) ∙ (range_runs p p.seen).3 y l

if_at : {A : Type 0} (P : A → Type 0) (o : Option A) (x : A) → o ≡ Some x → IfSome o P → P x
if_at P o x e h = subst (λ q. IfSome q P) e h

and_at : {A : Type 0} (P : A → Type 0) (o : Option A) (x : A) → o ≡ Some x → IsSomeAnd o P → P x
and_at P o x e h = subst (λ q. IsSomeAnd q P) e h

is_err : (r : Result Unit Refusal) (e : Refusal) → IsErrAnd r (λ x. x ≡ e) → r ≡ Err e
is_err (Ok u) e h = absurd h
is_err (Err x) e h = ap Err h

by_bool : {X : Type 0} (b : Bool) (P Q : Type 0) → MatchBool b P Q → (b ≡ true → P → X) → (b ≡ false → Q → X) → X
by_bool true P Q m f g = f refl m
by_bool false P Q m f g = g refl m

module _ {F : Type 0} (g : Mut F (ℕ × Unit {0}) (Result Unit Refusal)) (f : F) (k : ℕ → List (Ground Refusal))
    (tells : (x : ℕ) (v : Result Unit Refusal) (q : F) → Called g f (x, tt) v q → (q ≡ f) × (v ≡ checked_of (first_met (k x)))) where
  keeps : CallKeepsClosure g f
  keeps a r q h = (tells a.0 r q h).0

  clear : (x : ℕ) (v : Result Unit Refusal) → Called g f (x, tt) v f → v ≡ Ok tt → first_met (k x) ≡ none
  clear x v c e = fine-none (first_met (k x)) (sym e ∙ (tells x v f c).1)

  pub tried : (r : Result Unit Refusal) {n m : ℕ} → m ≡ n
      → SomeRun nat_range_steps (record { start = 0; end = m }) (λ p. IsTryForEachRun p g f (λ s c. s ≡ result_from_control_flow c) (λ e s. IsErr s × IsErrAnd s (λ x. x ≡ e.0)) r)
      → r ≡ checked_of (first_met (gather k (below n)))
  tried r {n} {m} count h =
      let c = range_runs h.0 h.0.seen in
      let from : h.0.from.start ≡ 0 = ap (λ s. s.start) h.1 in
      let to : h.0.from.end ≡ n = ap (λ s. s.end) h.1 ∙ count in
      let place : (y : ℕ) → y < h.0.len → h.0.at y ≡ Some y = λ y l. at_place h.0 y l ∙ ap Some (omega (arith, from)) in
      by_bool h.0.whole _ _ h.2
      (λ w q.
      let l : h.0.len ≡ n = omega (arith, c.1 w, from, to) in
      q.0 ∙ ap checked_of (sym (gather_none k n (λ y b. let d = if_at _ (h.0.at y) y (place y (omega arith)) (q.1 keeps y) in clear y d.0 d.1 d.2))))
      (λ w q.
      let l : q.1 < n = omega (arith, c.0, from, to, q.3) in
      let a = q.4 keeps in
      let d = and_at _ (h.0.at q.1) q.1 (place q.1 (omega (arith, q.3))) a.0 in
      is_err r q.0.0 q.2.1
      ∙ ap checked_of (sym (gather-some k n q.1 q.0.0 l
      (λ y b. let z = and_at _ (h.0.at y) y (place y (omega (arith, q.3))) (a.1 y b) in clear y z.0 z.1 z.2)
      (refused-fault (first_met (k q.1)) q.0.0 (sym d.2 ∙ (tells q.1 d.0 f d.1).1)))))

-- the same where each number has one ground
module _ {F : Type 0} (g : Mut F (ℕ × Unit {0}) (Result Unit Refusal)) (f : F) (bad : ℕ → Bool) (gives : ℕ → Refusal)
    (tells : (x : ℕ) (v : Result Unit Refusal) (q : F) → Called g f (x, tt) v q → (q ≡ f) × (v ≡ refused (bad x) (gives x))) where
  pub tried-each : (r : Result Unit Refusal) {n m : ℕ} → m ≡ n
      → SomeRun nat_range_steps (record { start = 0; end = m }) (λ p. IsTryForEachRun p g f (λ s c. s ≡ result_from_control_flow c) (λ e s. IsErr s × IsErrAnd s (λ x. x ≡ e.0)) r)
      → r ≡ checked_of (first_met (each (λ y. ground (bad y) (gives y)) (below n)))
  tried-each r {n} count h = tried g f (λ y. ground (bad y) (gives y) ∷ []) tells r count h ∙ ap (λ gs. checked_of (first_met gs)) (sym (each-gather (λ y. ground (bad y) (gives y)) (below n)))

-- ---- counting

more : (a n : ℕ) → range_with_len a (suc n) ≡ range_with_len a n ++ ((a + n) ∷ [])
more a zero = ap {B = List ℕ} (λ x. x ∷ []) (omega arith)
more a (suc n) = ap {B = List ℕ} (λ l. a ∷ l) (more (a + 1) n ∙ ap {B = List ℕ} (λ x. range_with_len (a + 1) n ++ (x ∷ [])) (omega arith))

-- std's range from 0 is the list of the numbers below n
range-below : (n : ℕ) → range_with_len 0 n ≡ below n
unfolding below
range-below zero = refl
range-below (suc n) = more 0 n ∙ ap {B = List ℕ} (λ x. range_with_len 0 n ++ (x ∷ [])) (omega arith) ∙ ap (λ (l : List ℕ). l ++ (n ∷ [])) (range-below n)

-- std's `filter` is `those`
filter-those : (f : ℕ → Bool) (l : List ℕ) → filter f l ≡ those f l
unfolding those pick
filter-those f [] = refl
filter-those f (x ∷ l) = by-test (f x) (λ e. rw e (ap (λ (m : List ℕ). x ∷ m) (filter-those f l))) (λ e. rw e (filter-those f l))

pub counted : (f : ℕ → Bool) (n : ℕ) → length (filter f (range_with_len 0 n)) ≡ tally f n
unfolding tally
counted f n = ap length (filter-those f (range_with_len 0 n) ∙ ap (those f) (range-below n))
