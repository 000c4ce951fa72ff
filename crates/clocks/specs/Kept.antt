-- What a write to one part of the work area leaves of the others.
-- Assumes nothing.
use Rattle.std.specs.Prelude.{◌≡◌, List, ℕ, ◌+◌, ◌-◌, ◌≤◌, ◌<◌, length, get_or, drop}
use Rattle.std.proofs.Common.{sym, ap, ◌∙◌, arith, get_or-drop}
use Rattle.std.proofs.Math.Option.{none}
use Rattle.timing.specs.Table.{Table, Edge, early, late, pin_count}
use Rattle.timing.specs.Structure.{enters, structure}
use Rattle.timing.specs.Slack.{Mode}
use Rattle.timing.specs.Check.{table_fault}
use Rattle.timing.proofs.Laws.Columns.{pins-is}
use Rattle.timing.proofs.Laws.Accepted.{accepted}
use Rattle.area.specs.Area.{Kept, arrivals_at, clocks_at, parents_at, depths_at, drivers_at, bases_at, turns_at}
use Rattle.clocks.specs.Clocked.{Ready, Parented, ClockedTo, Clocked, Based}

-- ---- the clock tree stays where its parts stay

module _ (t : Table) (w v : List ℕ) (long : length v ≡ length w) (same : (i : ℕ) → clocks_at ≤ i → i < bases_at → get_or v i 0 ≡ get_or w i 0) (r : Ready t w) where
  few : pin_count t ≤ 256
  few = (accepted t r.checked).header.few-pins

  stays-ready : Ready t v
  stays-ready = record { checked = r.checked; room = omega (arith, r.room, long) }

  stays-parents : Parented t w → Parented t v
  stays-parents h =
      record {
        parent = λ a l k.
            let g : enters (structure t) a < pin_count t = rw (pins-is t) at ((accepted t r.checked).sound.to_in a l) in
            same (parents_at + enters (structure t) a) (omega arith) (omega (arith, few)) ∙ h.parent a l k;
      }

  stays-pins : ClockedTo t (pin_count t) w → ClockedTo t (pin_count t) v
  stays-pins h =
      record {
        arrival = λ e p l k. came e p l ∙ h.arrival e p l k;
        depth = λ p l k. same (depths_at + p) (omega arith) (omega (arith, few)) ∙ h.depth p l k;
        driver = λ p l. same (drivers_at + p) (omega arith) (omega (arith, few)) ∙ h.driver p l;
      }
    where
      came : (e : Edge) (p : ℕ) → p < pin_count t → get_or v (arrivals_at e + p) 0 ≡ get_or w (arrivals_at e + p) 0
      came early p l = same (arrivals_at early + p) (omega arith) (omega (arith, few))
      came late p l = same (arrivals_at late + p) (omega arith) (omega (arith, few))

-- place by place
pub tree-same : (t : Table) (w v : List ℕ) → length v ≡ length w → ((i : ℕ) → clocks_at ≤ i → i < bases_at → get_or v i 0 ≡ get_or w i 0)
    → Clocked t w → Clocked t v
tree-same t w v long same h =
    record {
      ready = stays-ready t w v long same h.ready;
      parents = stays-parents t w v long same h.ready h.parents;
      pins = stays-pins t w v long same h.ready h.pins;
    }

-- with the bases
pub clocked-same : (t : Table) (w v : List ℕ) → length v ≡ length w → ((i : ℕ) → clocks_at ≤ i → i < turns_at → get_or v i 0 ≡ get_or w i 0)
    → Clocked t w → Clocked t v
clocked-same t w v long same h = tree-same t w v long (λ i l m. same i l (omega arith)) h

-- after a write behind it, of the bases or of what follows
pub clocked-behind : (t : Table) (a e : ℕ) (w v : List ℕ) → bases_at ≤ a → Kept a e w v → Clocked t w → Clocked t v
clocked-behind t a e w v h k c = tree-same t w v k.long (λ i l m. k.front i (omega arith)) c

-- after a write before it
pub clocked-kept : (t : Table) (a e : ℕ) (w v : List ℕ) → e ≤ clocks_at → Kept a e w v → Clocked t w → Clocked t v
clocked-kept t a e w v h k c = clocked-same t w v k.long (λ i l m. k.back i (omega arith)) c

-- or as lists
pub clocked-drop : (t : Table) (w v : List ℕ) → length v ≡ length w → drop clocks_at v ≡ drop clocks_at w → Clocked t w → Clocked t v
clocked-drop t w v long e c = clocked-same t w v long (λ i h l. there i h) c
  where
    there : (i : ℕ) → clocks_at ≤ i → get_or v i 0 ≡ get_or w i 0
    there i h =
        let q : clocks_at + (i - clocks_at) ≡ i = omega arith in
        ap (λ (j : ℕ). get_or v j 0) (sym q) ∙ sym (get_or-drop clocks_at v (i - clocks_at) 0)
        ∙ ap (λ (l : List ℕ). get_or l (i - clocks_at) 0) e
        ∙ get_or-drop clocks_at w (i - clocks_at) 0 ∙ ap (λ (j : ℕ). get_or w j 0) q

-- ---- the bases stay where their part stays

pub based-same : (m : Mode) (t : Table) (w v : List ℕ) → table_fault t ≡ none → ((i : ℕ) → bases_at ≤ i → i < turns_at → get_or v i 0 ≡ get_or w i 0)
    → Based m t w → Based m t v
based-same m t w v h same b =
    record { base = λ p l. same (bases_at + p) (omega arith) (omega (arith, (accepted t h).header.few-pins)) ∙ b.base p l }

-- after a write before it
pub based-kept : (m : Mode) (t : Table) (a e : ℕ) (w v : List ℕ) → table_fault t ≡ none → e ≤ bases_at → Kept a e w v → Based m t w → Based m t v
based-kept m t a e w v h l k b = based-same m t w v h (λ i g n. k.back i (omega arith)) b
