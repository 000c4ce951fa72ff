-- The least values, pin after pin.
-- Assumes nothing.
use Rattle.std.specs.Prelude.{◌≡◌, refl, List, ℕ, ◌+◌, ◌≤◌, ◌<◌, length, get_or, set}
use Rattle.std.proofs.Common.{sym, ◌∙◌, arith, length-set, get_or-set_same, get_or-set_other}
use Rattle.std.proofs.Math.Decide.{ℕ_discrete}
use Rattle.std.proofs.lemmas.List.{take-set-le}
use Rattle.lists.proofs.Laws.Pieces.{place_of}
use Rattle.timing.specs.Structure.{Structure, pins, leaves, enters}
use Rattle.timing.specs.Clock.{into}
use Rattle.timing.proofs.Laws.Routes.{into-into}
use Rattle.area.specs.Area.{none, plan, word_at, first_at, seed_at, from_in, weight_in, arc_in, leasts_at, clocks_at, arcs_at, firsts_at, seeds_at}
use Rattle.area.specs.Laws.Kept.{kept-none, kept_set}
use Rattle.area.specs.Laws.Plan.{word-at, first-at, seed-at, plan-same, plan-kept}
use Rattle.walker.specs.Cursors.{Planned, Lower, least_at}
use Rattle.walker.specs.Leasts.{Into, Least, LeastAt, Rises, Laid, Beside, Leasts, AllLeasts}
use Rattle.walker.specs.Laws.Rest.{read}

-- ---- the arcs into a pin, one after another

pub record So (w : List ℕ) (v e i n : ℕ) : Type 0 where
  pub here : first_at (plan w) v ≤ i
  pub stop : e ≡ first_at (plan w) (v + 1)
  pub most : n ≤ none
  pub so_far : (k : ℕ) → first_at (plan w) v ≤ k → k < i → n ≤ least_at w (from_in (word_at (plan w) k)) + weight_in (word_at (plan w) k)

pub so-none : (w : List ℕ) (v : ℕ) → v < 256 → So w v (get_or w (firsts_at + v + 1) 0) (get_or w (firsts_at + v) 0) none
so-none w v h =
    let b : first_at (plan w) v ≡ get_or w (firsts_at + v) 0 = first-at w v (omega arith) in
    let z : firsts_at + (v + 1) ≡ firsts_at + v + 1 = omega arith in
    record {
      here = omega arith;
      stop = sym (rw z at (first-at w (v + 1) (omega arith)));
      most = omega arith;
      so_far = λ k a c. absurd (omega arith);
    }

-- u and g are the pin that the arc at place i leaves and what the arc weighs
module _ (w : List ℕ) (v e i n u g : ℕ) (s : So w v e i n) (h : i < e) (I : Into w v) (x : u ≡ from_in (get_or w (arcs_at + i) 0)) (y : g ≡ weight_in (get_or w (arcs_at + i) 0)) where
  so-low : i < 1024
  so-low = omega (arith, s.stop, I.fits)

  so-from : from_in (word_at (plan w) i) ≡ u
  so-from = rw (word-at w i so-low) (sym x)

  pub so-small : least_at w u ≤ none
  so-small = rw so-from at (I.low i s.here (omega (arith, s.stop)))

  pub so-more : (q : ℕ) → q ≤ n → q ≤ least_at w u + g → So w v e (i + 1) q
  so-more q c d =
      record {
        here = omega (arith, s.here);
        stop = s.stop;
        most = omega (arith, s.most);
        so_far = λ k a b. elim (ℕ_discrete k i) [
          | yes z ↦ rw (z, so-from, word-at w i so-low, ← y) d
          | no z ↦ omega (arith, s.so_far k a (omega arith))
        ];
      }

pub so-all : (w : List ℕ) (v e i n : ℕ) → So w v e i n → e ≤ i → Least w v n
so-all w v e i n s h = record { most = s.most; under = λ k a b. s.so_far k a (omega (arith, s.stop)) }

-- ---- the pins, one after another

plan-set : (w : List ℕ) (v x : ℕ) → clocks_at ≤ length w → plan (set w (leasts_at + v) x) ≡ plan w
plan-set w v x h =
    plan-kept (set w (leasts_at + v) x) w (omega (arith, length-set w (leasts_at + v) x)) (omega arith) (take-set-le leasts_at w (leasts_at + v) x (omega arith))

module _ (s : Structure) (weight seed : ℕ → ℕ) (up : Rises s) where
  -- an arc into a pin leaves a lower one
  falls : (m : List ℕ) → Planned s weight seed m → (v i : ℕ) → v < pins s → first_at m v ≤ i → i < first_at m (v + 1) → from_in (word_at m i) < v
  falls m P v i q a b =
      let r = read s weight seed m P v i q a b in
      rw (r.from, ← r.enters-it) (up (arc_in (word_at m i)) r.arc)

  pub leasts-more : (w₀ w : List ℕ) (v x : ℕ) → Planned s weight seed (plan w) → clocks_at ≤ length w → v < pins s → Leasts w₀ w v → LeastAt w v x
      → Leasts w₀ (set w (leasts_at + v) x) (v + 1)
  leasts-more w₀ w v x P l q S I =
      let few = P.ok.few-pins in
      let w' = set w (leasts_at + v) x in
      let e : plan w' ≡ plan w = plan-set w v x l in
      let other : (u : ℕ) → (u ≡ v → ⊥) → least_at w' u ≡ least_at w u = λ u n. get_or-set_other w (leasts_at + v) (leasts_at + u) x 0 (λ z. n (omega arith)) in
      let moved : (u r : ℕ) → u ≤ v → u < pins s → LeastAt w u r → LeastAt w' u r =
      λ u r h k J.
      record {
        most = J.most;
        start = rw e J.start;
        other = rw e
            (λ n.
            record {
              most = J.most;
              under = rw e
                  (λ i a b.
                  let f = falls (plan w) P u i k a b in
                  rw (other (from_in (word_at (plan w) i)) (λ z. omega arith)) ((J.other n).under i a b));
            });
      } in
      record {
        beside = kept_set leasts_at clocks_at w₀ w (leasts_at + v) x S.beside (omega arith) (omega arith);
        are = λ u h. elim (ℕ_discrete u v) [
          | yes z ↦ rw (z, get_or-set_same w (leasts_at + v) x 0 (omega arith)) (moved v x (omega arith) q I)
          | no z ↦ rw (other u z) (moved u (least_at w u) (omega arith) (omega arith) (S.are u (omega arith)))
        ];
      }

plan-beside : (w₀ w : List ℕ) → Beside w₀ w → plan w ≡ plan w₀
plan-beside w₀ w B = plan-same w w₀ B.long (λ i l h. B.front i h)

pub leasts-all : (w₀ w : List ℕ) (p v : ℕ) → p ≤ v → Leasts w₀ w v → AllLeasts w₀ w p
leasts-all w₀ w p v h S = record { beside = S.beside; lower = λ s weight seed P e. bounds s weight seed (rw (plan-beside w₀ w S.beside) P) (omega arith) }
  where
    bounds : (s : Structure) (weight seed : ℕ → ℕ) → Planned s weight seed (plan w) → pins s ≤ v → Lower s weight seed (least_at w)
    bounds s weight seed P n =
        record {
          most = λ u k. (S.are u (omega arith)).most;
          start = λ u k e.
              let z = P.by-seeds.start u k e in
              (S.are u (omega arith)).start (rw z (omega (arith, P.by-seeds.light u k e))) ∙ z;
          over = λ a k e.
              let u = enters s a in
              let q : u < pins s = P.ok.to_in a k in
              let m = plan w in
              let b = place_of 0 a (into s u) (into-into s u a k refl) in
              let i = first_at m u + b.0 in
              let o : none ≤ seed_at m u = rw (P.by-seeds.other u q e) (omega arith) in
              let x = P.by-arcs.word u b.0 q b.1 in
              let fr : leaves s a < pins s = P.ok.from_in a k in
              let y : from_in (word_at m i) ≡ leaves s a = rw (x, b.2) (omega (arith, P.few-arcs, P.ok.few-pins)) in
              let z : weight_in (word_at m i) ≡ weight a = rw (x, b.2) (omega (arith, P.few-arcs, P.ok.few-pins)) in
              rw (y, z) at (((S.are u (omega arith)).other o).under i (omega arith) (omega (arith, P.by-arcs.ends u q, b.1)));
        }

-- ---- what the code asks

pub into-asks : (w₀ w : List ℕ) (p v : ℕ) → Laid w₀ p → Leasts w₀ w v → v < p → Into w v
into-asks w₀ w p v R S h =
    let P : Planned R.of R.weight R.seed (plan w) = rw (plan-beside w₀ w S.beside) R.planned in
    let q : v < pins R.of = omega (arith, R.size) in
    record {
      long = omega (arith, R.long, S.beside.long);
      pin = omega (arith, P.ok.few-pins);
      fits = P.by-arcs.fits v q;
      low = λ i a b. (S.are (from_in (word_at (plan w) i)) (falls R.of R.weight R.seed R.rises (plan w) P v i q a b)).most;
    }

pub leasts-none : (w : List ℕ) → Leasts w w 0
leasts-none w = record { beside = kept-none leasts_at clocks_at w; are = λ u h. absurd (omega arith) }

pub leasts-next : (w₀ w : List ℕ) (p v x : ℕ) → Laid w₀ p → Leasts w₀ w v → v < p → LeastAt w v x → Leasts w₀ (set w (leasts_at + v) x) (v + 1)
leasts-next w₀ w p v x R S h I =
    leasts-more R.of R.weight R.seed R.rises w₀ w v x (rw (plan-beside w₀ w S.beside) R.planned) (omega (arith, R.long, S.beside.long))
    (omega (arith, R.size)) S I

-- at a start, and at any other pin
pub at-start : (w : List ℕ) (v : ℕ) → v < 256 → get_or w (seeds_at + v) 0 < none → LeastAt w v (get_or w (seeds_at + v) 0)
at-start w v h l =
    let z : seed_at (plan w) v ≡ get_or w (seeds_at + v) 0 = seed-at w v h in
    record { most = omega arith; start = λ k. sym z; other = λ k. absurd (omega arith) }

pub at_other : (w : List ℕ) (v r : ℕ) → v < 256 → none ≤ get_or w (seeds_at + v) 0 → Least w v r → LeastAt w v r
at_other w v r h l L =
    let z : seed_at (plan w) v ≡ get_or w (seeds_at + v) 0 = seed-at w v h in
    record { most = L.most; start = λ k. absurd (omega arith); other = λ k. L }
