-- Credits go down the clock tree, from driver to driven, and each start's seed is its base with its credit: what a turn of the pass asks, and what holds after
-- the first pins. Assumes nothing.
use mathlib.Core.Path.{◌≡◌, refl, sym, ap, ap₂, ◌∙◌}
use mathlib.Core.Logic.{◌⊎◌, inl, inr, ⊎_elim, ◌≢◌}
use mathlib.Core.Bool.{Bool, true, false, true≢false}
use mathlib.Core.List.{List}
use mathlib.Core.Option.{none}
use Prim.Native.Nat.{ℕ, ◌+◌, ◌≤◌, ◌<◌}
use native.Mathlib.Decide.{ℕ_discrete}
use native.Mathlib.Omega.{arith}
use borrow.Author.Tests.{lt-ltb, le-ltb, ne_eqb}
use lib.Dec.{eqb}
use lib.ListN.{length, get_or, set, length-set}
use lib.Seq.{get_or-set_same, get_or-set_other}
use Rattle.lists.specs.Choice.{pick}
use Rattle.lists.specs.Parts.{any}
use Rattle.lists.specs.Laws.Member.{In}
use Rattle.timing.specs.Limits.{work_length}
use Rattle.timing.specs.Kinds.{R, B, K, I}
use Rattle.timing.specs.Table.{Table, pin_count}
use Rattle.timing.specs.Structure.{kind, structure, times}
use Rattle.timing.specs.Clock.{route, root, common, pin_credit}
use Rattle.timing.specs.Slack.{Mode}
use Rattle.timing.specs.Check.{table_fault}
use Rattle.timing.proofs.Laws.Routes.{any_here, here-any, root-only, root-route}
use Rattle.timing.proofs.Laws.Common.{common-here}
use Rattle.timing.proofs.Laws.Columns.{kind-is}
use Rattle.timing.proofs.Laws.Accepted.{accepted}
use Rattle.area.specs.Area.{Kept, seeds_at, credits_at, clocks_at, drivers_at, bases_at}
use Rattle.area.specs.Area as area
use Rattle.clocks.specs.Clocked.{ClockPin, Clocked, Based, Seeded, driver_for, base_for, seed_for, seed_with}
use Rattle.clocks.specs.Route.{Marked, NextSeed, route_credit, driver_in, credit_down, with_seed}
use Rattle.clocks.specs.Small.{few-pins, pin-place, common-most}
use Rattle.clocks.specs.Tree.{driver-none}
use Rattle.clocks.specs.Known.{seed-base, seed-with}
use Rattle.area.specs.Laws.Kept.{kept-none, kept_set}
use Rattle.clocks.proofs.Seeding.{credit-some, credit-none}
use Rattle.clocks.proofs.Routing.{Rising, rising, driven-or-free, driver-pin}

-- ---- one turn, as the code takes it

module _ (w : List ℕ) (p d : ℕ) (e : d ≡ driver_in w p) where
  pub turn-driven : (x b y : ℕ) → d < area.none → x ≡ credit_down w p d → b ≡ get_or w (bases_at + p) 0 → y ≡ seed_with b x
      → set (set w (credits_at + p) x) (seeds_at + p) y ≡ with_seed w p
  unfolding with_seed pick
  turn-driven x b y l f g h = rw (← e, lt-ltb d area.none l, ← f, ← g, ← h)

  pub turn-free : (b : ℕ) → area.none ≤ d → b ≡ get_or w (bases_at + p) 0 → set w (seeds_at + p) b ≡ with_seed w p
  unfolding with_seed pick
  turn-free b l g = rw (← e, le-ltb d area.none l, ← g)

-- ---- the seed of a pin

module _ (t : Table) (h : table_fault t ≡ none) (m : Mode) (c p : ℕ) (l : p < pin_count t) where
  -- where a pin drives p: a K has the credit of the common pin, a B no seed
  seed-driven : (kind (structure t) p ≡ B) ⊎ (kind (structure t) p ≡ K)
      → seed_with (base_for m t p) (pin_credit (structure t) (times t) (common (structure t) p c)) ≡ seed_for m t c p
  unfolding seed_with base_for seed_for pick
  seed-driven (inl e) = rw e
  seed-driven (inr e) = ap (seed_with (base_for m t p)) (sym (credit-some t p l m c (sym (kind-is t p l) ∙ e))) ∙ sym (seed-with t h p l m c)

  -- where none does: an I has no credit
  seed-free : kind (structure t) p ≢ K → base_for m t p ≡ seed_for m t c p
  unfolding base_for seed_for pick
  seed-free n = elim (ℕ_discrete (kind (structure t) p) I) [
    | yes e ↦ omega (arith, seed-base t h p l m c (inr e), credit-none t p l m c (λ k. n (kind-is t p l ∙ k)))
    | no e ↦ rw (ne_eqb (kind (structure t) p) K n, ne_eqb (kind (structure t) p) I e)
  ]

-- ---- the pass

-- the credits and the seeds of the pins below p are laid; the other pins have what the route gave them
pub record Handing (t : Table) (c p : ℕ) (w₀ w : List ℕ) : Type 0 where
  pub clocked : Clocked t w₀
  pub clock : ClockPin t c
  pub done : (q : ℕ) → q < p → ClockPin t q → get_or w (credits_at + q) 0 ≡ pin_credit (structure t) (times t) (common (structure t) q c)
  pub ahead : (q : ℕ) → p ≤ q → q < pin_count t → get_or w (credits_at + q) 0 ≡ route_credit t c q
  pub seeds : (m : Mode) → Based m t w₀ → Seeded m t c p w
  pub kept : Kept seeds_at clocks_at w₀ w

pub handing-none : (t : Table) (c : ℕ) (w : List ℕ) → Clocked t w → ClockPin t c → Marked t c w → Handing t c 0 w w
handing-none t c w k h m =
    record {
      clocked = k;
      clock = h;
      done = λ q l g. absurd (omega arith);
      ahead = λ q l g. m.credit q g;
      seeds = λ n b. record { seed = λ q l. absurd (omega arith) };
      kept = kept-none _ _ w;
    }

module _ (t : Table) (c p : ℕ) (w₀ w : List ℕ) (s : Handing t c p w₀ w) (l : p < pin_count t) where
  good : table_fault t ≡ none
  good = s.clocked.ready.checked

  few : p < 256
  few = omega (arith, few-pins t good)

  room : work_length ≤ length w
  room = omega (arith, s.kept.long, s.clocked.ready.room)

  driver-is : driver_in w p ≡ driver_for t p
  driver-is = s.kept.back (drivers_at + p) (omega arith) ∙ s.clocked.pins.driver p l

  -- on c's route the common pin of p and c is p
  on-route : (v : ℕ) → v ≡ route_credit t c p → In p (route (structure t) c) → v ≡ pin_credit (structure t) (times t) (common (structure t) p c)
  unfolding route_credit pick
  on-route v e i =
      (rw (here-any p (route (structure t) c) i) at e)
      ∙ ap (pin_credit (structure t) (times t)) (sym (common-here (structure t) (accepted t good).sound p c i))

  off-route : (v : ℕ) → v ≡ route_credit t c p → any (eqb p) (route (structure t) c) ≡ false → v ≡ area.none
  unfolding route_credit pick
  off-route v e f = rw f at e

  -- the credit that comes down to a B or a K
  comes_down : (kind (structure t) p ≡ B) ⊎ (kind (structure t) p ≡ K)
      → credit_down w p (driver_in w p) ≡ pin_credit (structure t) (times t) (common (structure t) p c)
  unfolding credit_down pick
  comes_down k = go (any (eqb p) (route (structure t) c)) refl
    where
      own : get_or w (credits_at + p) 0 ≡ route_credit t c p
      own = s.ahead p (omega arith) l

      r : Rising t p (driver_for t p)
      r = rising t good w₀ s.clocked.parents p l k

      go : (b : Bool) → any (eqb p) (route (structure t) c) ≡ b → credit_down w p (driver_in w p) ≡ pin_credit (structure t) (times t) (common (structure t) p c)
      go true e =
          let i = any_here p (route (structure t) c) e in
          let z = on-route _ own i in
          let small : get_or w (credits_at + p) 0 < area.none = omega (arith, z, common-most t good p c (record { inside = l; clock = inr k }) s.clock) in
          rw (lt-ltb _ _ small) z
      go false e =
          let z = off-route _ own e in
          let large : area.none ≤ get_or w (credits_at + p) 0 = omega (arith, z) in
          rw (le-ltb _ _ large, driver-is)
          (s.done (driver_for t p) r.below r.pin
          ∙ ap (pin_credit (structure t) (times t)) (sym (r.up c (λ i. true≢false (sym (here-any p (route (structure t) c) i) ∙ e)))))

  -- R is on every route
  at_top : (kind (structure t) p ≢ B) × (kind (structure t) p ≢ K) → ClockPin t p → get_or w (credits_at + p) 0 ≡ pin_credit (structure t) (times t) (common (structure t) p c)
  at_top n k = go k.clock
    where
      go : (kind (structure t) p ≡ R) ⊎ ((kind (structure t) p ≡ B) ⊎ (kind (structure t) p ≡ K)) → get_or w (credits_at + p) 0 ≡ pin_credit (structure t) (times t) (common (structure t) p c)
      go (inl e) =
          let ok = (accepted t good).sound in
          let z : p ≡ root (structure t) = root-only (structure t) ok p (pin-place t good p l) e in
          on-route _ (s.ahead p (omega arith) l) (rw z (root-route (structure t) ok c (pin-place t good c s.clock.inside) s.clock.clock))
      go (inr (inl e)) = absurd (n.0 e)
      go (inr (inr e)) = absurd (n.1 e)

  pub handing-next : NextSeed w p
  handing-next =
      record {
        room = omega (arith, few, room);
        below = λ g. rw driver-is (driver-pin t w₀ s.clocked p l (rw driver-is at g)).1;
        light = λ g. ⊎_elim
            (λ k. omega (arith, comes_down k, common-most t good p c (record { inside = l; clock = inr k }) s.clock))
            (λ n. absurd (no_way g (driver-is ∙ driver-none t p n.0 n.1)))
            (driven-or-free (kind (structure t) p));
      }
    where
      no_way : driver_in w p < area.none → driver_in w p ≡ area.none → ⊥
      no_way g e = omega arith

  -- one turn: what it leaves of the other pins, and what it gives p
  more : (v : List ℕ) → ((q : ℕ) → q < pin_count t → q ≢ p → get_or v (credits_at + q) 0 ≡ get_or w (credits_at + q) 0)
      → ((q : ℕ) → q < p → get_or v (seeds_at + q) 0 ≡ get_or w (seeds_at + q) 0)
      → (ClockPin t p → get_or v (credits_at + p) 0 ≡ pin_credit (structure t) (times t) (common (structure t) p c))
      → ((m : Mode) → Based m t w₀ → get_or v (seeds_at + p) 0 ≡ seed_for m t c p)
      → Kept seeds_at clocks_at w₀ v → Handing t c (p + 1) w₀ v
  more v credits seeds credit seed kept =
      record {
        clocked = s.clocked;
        clock = s.clock;
        done = λ q g k. elim (ℕ_discrete q p) [
          | yes z ↦ rw z (credit (rw z at k))
          | no z ↦ credits q k.inside z ∙ s.done q (omega arith) k
        ];
        ahead = λ q g k. credits q k (λ z. omega arith) ∙ s.ahead q (omega arith) k;
        seeds = λ m b. record {
          seed = λ q g. elim (ℕ_discrete q p) [
            | yes z ↦ rw z (seed m b)
            | no z ↦ let g' : q < p = omega arith in seeds q g' ∙ (s.seeds m b).seed q g'
          ];
        };
        kept = kept;
      }

  base-is : (m : Mode) → Based m t w₀ → get_or w (bases_at + p) 0 ≡ base_for m t p
  base-is m b = s.kept.back (bases_at + p) (omega arith) ∙ b.base p l

  step-driven : (kind (structure t) p ≡ B) ⊎ (kind (structure t) p ≡ K) → Handing t c (p + 1) w₀ (with_seed w p)
  step-driven k =
      let x = credit_down w p (driver_in w p) in
      let y = seed_with (get_or w (bases_at + p) 0) x in
      let one = set w (credits_at + p) x in
      let r = rising t good w₀ s.clocked.parents p l k in
      let small : driver_in w p < area.none = omega (arith, driver-is, r.below, few) in
      rw (sym (turn-driven w p (driver_in w p) refl x (get_or w (bases_at + p) 0) y small refl refl refl))
      (more (set one (seeds_at + p) y)
      (λ q g z. get_or-set_other one (seeds_at + p) (credits_at + q) y 0 (λ a. omega (arith, few)) ∙ get_or-set_other w (credits_at + p) (credits_at + q) x 0 (λ a. z (omega arith)))
      (λ q g. get_or-set_other one (seeds_at + p) (seeds_at + q) y 0 (λ a. omega arith) ∙ get_or-set_other w (credits_at + p) (seeds_at + q) x 0 (λ a. omega (arith, few)))
      (λ z. get_or-set_other one (seeds_at + p) (credits_at + p) y 0 (λ a. omega arith) ∙ get_or-set_same w (credits_at + p) x 0 (omega (arith, few, room)) ∙ comes_down k)
      (λ m b. get_or-set_same one (seeds_at + p) y 0 (rw length-set (omega (arith, few, room))) ∙ ap₂ seed_with (base-is m b) (comes_down k) ∙ seed-driven t good m c p l k)
      (kept_set _ _ w₀ one (seeds_at + p) y (kept_set _ _ w₀ w (credits_at + p) x s.kept (omega arith) (omega (arith, few))) (omega arith) (omega (arith, few))))

  step-free : (kind (structure t) p ≢ B) × (kind (structure t) p ≢ K) → Handing t c (p + 1) w₀ (with_seed w p)
  step-free n =
      let y = get_or w (bases_at + p) 0 in
      let large : area.none ≤ driver_in w p = omega (arith, driver-is, driver-none t p n.0 n.1) in
      rw (sym (turn-free w p (driver_in w p) refl y large refl))
      (more (set w (seeds_at + p) y)
      (λ q g z. get_or-set_other w (seeds_at + p) (credits_at + q) y 0 (λ a. omega (arith, few)))
      (λ q g. get_or-set_other w (seeds_at + p) (seeds_at + q) y 0 (λ a. omega arith))
      (λ k. get_or-set_other w (seeds_at + p) (credits_at + p) y 0 (λ a. omega arith) ∙ at_top n k)
      (λ m b. get_or-set_same w (seeds_at + p) y 0 (omega (arith, few, room)) ∙ base-is m b ∙ seed-free t good m c p l n.1)
      (kept_set _ _ w₀ w (seeds_at + p) y s.kept (omega arith) (omega (arith, few))))

  pub handing-step : Handing t c (p + 1) w₀ (with_seed w p)
  handing-step = ⊎_elim step-driven step-free (driven-or-free (kind (structure t) p))

pub handing-end : (t : Table) (c p : ℕ) (w₀ w : List ℕ) → Handing t c p w₀ w → pin_count t ≤ p → (m : Mode) → Based m t w₀ → Seeded m t c (pin_count t) w
handing-end t c p w₀ w s l m b = record { seed = λ q g. (s.seeds m b).seed q (omega arith) }
