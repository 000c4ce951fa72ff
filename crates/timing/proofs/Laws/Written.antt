-- The rows as numbers: each has P + 5 of them.
-- Assumes nothing.
use Rattle.std.specs.Prelude.{◌≡◌, refl, ℕ, zero, suc, ◌*◌, ◌-◌, ◌<◌, take, replicate, ℤ, pos}
use Rattle.std.proofs.Common.{sym, ◌∙◌, inl, inr, not-suc-le-zero}
use mathlib.Core.List.{List, [], ◌∷◌, reverse}
use native.Mathlib.Omega.{arith}
use Rattle.std.proofs.Math.ListN.{length, length-append}
use Rattle.std.proofs.lemmas.List.{length-replicate, length-reverse}
use Rattle.lists.specs.Parts.{each, gather}
use Rattle.lists.specs.Laws.Member.{In}
use Rattle.lists.proofs.Laws.Member.{in_take, length-each}
use Rattle.lists.specs.Laws.Integer.{Within}
use Rattle.lists.specs.Laws.Ranking.{Both}
use Rattle.lists.proofs.Laws.Ranking.{both-length, both-take}
use Rattle.timing.specs.Structure.{Structure, pins, Times}
use Rattle.timing.specs.Paths.{Path, paths}
use Rattle.timing.specs.Slack.{Mode, slack, ranked}
use Rattle.timing.specs.Rows.{row_length, row, first_paths, rows}
use Rattle.timing.specs.Laws.Sound.{Sound}
use Rattle.timing.proofs.Laws.Bounds.{path-arcs}
use Rattle.timing.proofs.Laws.Order.{ranked-paths}
use Rattle.timing.specs.Laws.Written.{slack_at}

-- "Rows are P + 5 numbers"
pub row-length : (m : Mode) (s : Structure) (x : Times) → Sound s → (p : Path) → In p (paths s) → length (row m s x p) ≡ row_length (pins s)
unfolding row
row-length m s x ok p h =
    let few = path-arcs s ok p h in
    let arcs : length (each pos (reverse p.walk)) ≡ length p.walk = length-each pos (reverse p.walk) ∙ length-reverse p.walk in
    let zeros : length (replicate (pins s - length p.walk) (pos 0)) ≡ pins s - length p.walk = length-replicate (pins s - length p.walk) (pos 0) in
    let both = length-append (each pos (reverse p.walk)) (replicate (pins s - length p.walk) (pos 0)) in
    omega (arith, few.few-arcs)

module _ (m : Mode) (s : Structure) (x : Times) (k : ℕ) where
  -- all their numbers
  pub rows-length : Sound s → length (gather (λ (r : List ℤ). r) (rows m s x k)) ≡ length (rows m s x k) * row_length (pins s)
  unfolding rows first_paths each gather
  rows-length ok = go (take k (ranked m s x)) (λ p i. row-length m s x ok p (ranked-paths m s x p (in_take p k (ranked m s x) i)))
    where
      go : (l : List Path) → ((p : Path) → In p l → length (row m s x p) ≡ row_length (pins s))
          → length (gather (λ (r : List ℤ). r) (each (row m s x) l)) ≡ length (each (row m s x) l) * row_length (pins s)
      go [] h = omega arith
      go (p ∷ l) h =
          let ih = go l (λ q i. h q (inr i)) in
          let a : length (row m s x p) ≡ row_length (pins s) = h p (inl refl) in
          let b = length-append (row m s x p) (gather (λ (r : List ℤ). r) (each (row m s x) l)) in
          omega (arith, ih)

-- two lists of paths whose slacks are related rank by rank
pub rows_both : (m : Mode) (s : Structure) (x y : Times) (k w : ℕ) → Both (λ (p q : Path). Within w (slack m s x p) (slack m s y q)) (ranked m s x) (ranked m s y)
    → (length (rows m s x k) ≡ length (rows m s y k))
    × ((r : ℕ) → r < length (rows m s x k) → Within w (slack_at (rows m s x k) r) (slack_at (rows m s y k) r))
unfolding rows first_paths slack_at row each
rows_both m s x y k w h =
    let cut = both-take (λ (p q : Path). Within w (slack m s x p) (slack m s y q)) k (ranked m s x) (ranked m s y) h in
    go (take k (ranked m s x)) (take k (ranked m s y)) cut
  where
    go : (l n : List Path) → Both (λ (p q : Path). Within w (slack m s x p) (slack m s y q)) l n
        → (length (each (row m s x) l) ≡ length (each (row m s y) n))
        × ((r : ℕ) → r < length (each (row m s x) l) → Within w (slack_at (each (row m s x) l) r) (slack_at (each (row m s y) n) r))
    go l n b = (length-each (row m s x) l ∙ both-length (λ (p q : Path). Within w (slack m s x p) (slack m s y q)) l n b ∙ sym (length-each (row m s y) n), at l n b)
      where
        at : (l n : List Path) → Both (λ (p q : Path). Within w (slack m s x p) (slack m s y q)) l n
            → (r : ℕ) → r < length (each (row m s x) l) → Within w (slack_at (each (row m s x) l) r) (slack_at (each (row m s y) n) r)
        at [] [] b r i = absurd (not-suc-le-zero i)
        at [] (q ∷ n) b r i = absurd b
        at (p ∷ l) [] b r i = absurd b
        at (p ∷ l) (q ∷ n) b zero i = b.0
        at (p ∷ l) (q ∷ n) b (suc r) i = at l n b.1 r (omega arith)
