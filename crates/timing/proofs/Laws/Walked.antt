-- Walks by the document's own sentence, and that `walks` lists exactly these, each once, in the order of the tie rule.
-- Assumes nothing.
use Rattle.std.specs.Prelude.{◌≡◌, ◌≢◌, ◌↔◌, Bool, length}
use Rattle.std.proofs.Math.Path.{refl}
use Rattle.std.proofs.Common.{ap, inl, not-suc-le-zero}
use Rattle.std.proofs.Math.Logic.{inr}
use Rattle.std.proofs.Math.Bool.{true, false}
use mathlib.Core.List.{List, [], ◌∷◌}
use Prim.Native.Nat.{ℕ, zero, suc, ◌+◌, ◌≤◌, ◌<◌}
use native.Mathlib.Omega.{arith}
use Rattle.lists.specs.Choice.{pick}
use Rattle.lists.specs.Parts.{below, each, last}
use Rattle.lists.specs.Laws.Member.{In, Pairs}
use Rattle.lists.proofs.Laws.Member.{of-all, pairs-map, in-each, into-each, in-gather, into-gather, pairs-each, pairs-gather, pairs-those, pairs_below}
use Rattle.lists.specs.Laws.Sum.{Distinct}
use Rattle.timing.specs.Structure.{Structure, pins, arcs, leaves, enters}
use Rattle.timing.specs.Clock.{into}
use Rattle.timing.specs.Paths.{is_start, walks_by, walks}
use Rattle.timing.specs.Laws.Sound.{Sound}
use Rattle.timing.proofs.Laws.Routes.{in-into, into-into}
use Rattle.timing.specs.Laws.Walked.{Walk, Before}

module _ (s : Structure) where
  walk-cons : (v a : ℕ) (w : List ℕ) → a < arcs s → enters s a ≡ v → is_start s (leaves s a) ≡ false → Walk s (leaves s a) w → Walk s v (a ∷ w)
  walk-cons v a [] l e b h = absurd h
  walk-cons v a (c ∷ w) l e b h = (l, e, b, h)

  -- what `walks` has of one arc
  abbrev over : ℕ → ℕ → List (List ℕ)
  over n a = pick (is_start s (leaves s a)) ((a ∷ []) ∷ []) (each (λ (w : List ℕ). a ∷ w) (walks_by s n (leaves s a)))

  pub walks-sound : (n v : ℕ) (w : List ℕ) → In w (walks_by s n v) → Walk s v w
  unfolding walks_by pick
  walks-sound zero v w h = absurd h
  walks-sound (suc n) v w h =
      let r = in-gather (over n) w (into s v) h in
      let a = r.0 in
      let i = in-into s v a r.1 in
      go a i.0 i.1 (is_start s (leaves s a)) refl (λ w k. walks-sound n (leaves s a) w k) r.2
    where
      go : (a : ℕ) → a < arcs s → enters s a ≡ v → (b : Bool) → is_start s (leaves s a) ≡ b → ((w : List ℕ) → In w (walks_by s n (leaves s a)) → Walk s (leaves s a) w)
          → In w (pick b ((a ∷ []) ∷ []) (each (λ (w : List ℕ). a ∷ w) (walks_by s n (leaves s a)))) → Walk s v w
      go a l e true b ih (inl q) = rw q (l, e, b)
      go a l e true b ih (inr k) = absurd k
      go a l e false b ih k = let r = in-each (λ (w : List ℕ). a ∷ w) w (walks_by s n (leaves s a)) k in rw r.2 (walk-cons v a r.0 l e b (ih r.0 r.1))

  pub walks-complete : (n v : ℕ) (w : List ℕ) → length w ≤ n → Walk s v w → In w (walks_by s n v)
  unfolding walks_by pick
  walks-complete n v [] l h = absurd h
  walks-complete zero v (a ∷ w) l h = absurd (not-suc-le-zero l)
  walks-complete (suc n) v (a ∷ []) l h =
      into-gather (over n) (a ∷ []) a (into s v) (into-into s v a h.0 h.1) (rw h.2 (inl refl))
  walks-complete (suc n) v (a ∷ b ∷ w) l h =
      into-gather (over n) (a ∷ b ∷ w) a (into s v) (into-into s v a h.0 h.1)
      (rw h.2 (into-each (λ (w : List ℕ). a ∷ w) (b ∷ w) (walks_by s n (leaves s a)) (walks-complete n (leaves s a) (b ∷ w) (omega arith) h.3)))

pub last-arc : (s : Structure) (w : List ℕ) (v : ℕ) → Walk s v w → last 0 w < arcs s
unfolding last
last-arc s [] v h = absurd h
last-arc s (a ∷ []) v h = h.0
last-arc s (a ∷ b ∷ w) v h = last-arc s (b ∷ w) (leaves s a) h.3

module _ (s : Structure) where
  head_of : (n a : ℕ) (w : List ℕ) → In w (over s n a) → (r : List ℕ) × (w ≡ a ∷ r)
  unfolding pick
  head_of n a w h = go (is_start s (leaves s a)) h
    where
      go : (b : Bool) → In w (pick b ((a ∷ []) ∷ []) (each (λ (w : List ℕ). a ∷ w) (walks_by s n (leaves s a)))) → (r : List ℕ) × (w ≡ a ∷ r)
      go true (inl e) = ([], e)
      go true (inr k) = absurd k
      go false k = let r = in-each (λ (w : List ℕ). a ∷ w) w (walks_by s n (leaves s a)) k in (r.0, r.2)

  pub walks-order : (n v : ℕ) → Pairs Before (walks_by s n v)
  unfolding walks_by pick into
  walks-order zero v = tt
  walks-order (suc n) v =
      pairs-gather Before (over s n) (into s v) (λ a h. one a (is_start s (leaves s a)) (walks-order n (leaves s a)))
      (pairs-map ◌<◌ (λ a b. (x y : List ℕ) → In x (over s n a) → In y (over s n b) → Before x y) cross (into s v)
      (pairs-those ◌<◌ _ (below (arcs s)) (pairs_below (arcs s))))
    where
      one : (a : ℕ) (b : Bool) → Pairs Before (walks_by s n (leaves s a))
          → Pairs Before (pick b ((a ∷ []) ∷ []) (each (λ (w : List ℕ). a ∷ w) (walks_by s n (leaves s a))))
      one a true h = (tt, tt)
      one a false h =
          pairs-each Before (λ (w : List ℕ). a ∷ w) (walks_by s n (leaves s a))
          (pairs-map Before (λ x y. Before (a ∷ x) (a ∷ y)) (λ x y q. inr (refl, q)) (walks_by s n (leaves s a)) h)

      cross : (a b : ℕ) → a < b → (x y : List ℕ) → In x (over s n a) → In y (over s n b) → Before x y
      cross a b l x y h k = let p = head_of n a x h in let q = head_of n b y k in rw (p.1, q.1) (inl l)

-- ---- a walk of a sound structure: its arcs rise from the start to v

module _ (s : Structure) (ok : Sound s) where
  pub walk_start : (v : ℕ) (w : List ℕ) → Walk s v w → is_start s (leaves s (last 0 w)) ≡ true
  unfolding last
  walk_start v [] h = absurd h
  walk_start v (a ∷ []) h = h.2
  walk_start v (a ∷ b ∷ w) h = walk_start (leaves s a) (b ∷ w) h.3

  pub walk-rises : (v : ℕ) (w : List ℕ) → Walk s v w → length w + ok.level (leaves s (last 0 w)) ≤ ok.level v
  unfolding last
  walk-rises v [] h = absurd h
  walk-rises v (a ∷ []) h = rw (← h.1) (omega (arith, ok.rises a h.0))
  walk-rises v (a ∷ b ∷ w) h = rw (← h.1) (omega (arith, ok.rises a h.0, walk-rises (leaves s a) (b ∷ w) h.3))

  pub walk-arcs : (v : ℕ) (w : List ℕ) → Walk s v w → (x : ℕ) → In x w
      → (x < arcs s) × (ok.level (enters s x) ≤ ok.level v) × (ok.level (leaves s (last 0 w)) < ok.level (enters s x))
  unfolding last
  walk-arcs v [] h x m = absurd h
  walk-arcs v (a ∷ []) h x (inl e) = rw (e, ← h.1) (h.0, omega arith, ok.rises a h.0)
  walk-arcs v (a ∷ []) h x (inr m) = absurd m
  walk-arcs v (a ∷ b ∷ w) h x (inl e) =
      rw (e, ← h.1) (h.0, omega arith, omega (arith, walk-rises (leaves s a) (b ∷ w) h.3, ok.rises a h.0))
  walk-arcs v (a ∷ b ∷ w) h x (inr m) =
      let r = walk-arcs (leaves s a) (b ∷ w) h.3 x m in
      rw (← h.1) (r.0, omega (arith, r.1, ok.rises a h.0), r.2)

  pub walk-distinct : (v : ℕ) (w : List ℕ) → Walk s v w → Distinct w
  walk-distinct v [] h = absurd h
  walk-distinct v (a ∷ []) h = (tt, tt)
  walk-distinct v (a ∷ b ∷ w) h = (
    of-all (λ c. a ≢ c) (b ∷ w)
        (λ c k q. no_way (ok.level (leaves s a)) (ok.level (enters s a)) (ok.level (enters s c)) (ok.rises a h.0) (ap (λ (x : ℕ). ok.level (enters s x)) q) (walk-arcs (leaves s a) (b ∷ w) h.3 c k).1),
    walk-distinct (leaves s a) (b ∷ w) h.3,
  )
    where
      no_way : (x y z : ℕ) → x < y → y ≡ z → z ≤ x → ⊥
      no_way x y z h e k = omega arith

-- a walk from a pin is in the list, and nothing else is
pub exactly-walks : (s : Structure) → Sound s → (v : ℕ) → v < pins s → (w : List ℕ) → In w (walks s v) ↔ Walk s v w
unfolding walks
exactly-walks s ok v l w =
    (walks-sound s (pins s) v w, λ h. walks-complete s (pins s) v w (omega (arith, walk-rises s ok v w h, ok.level_in v l)) h)
