-- `winners::turn` meets its contract. Assumes nothing.
use Rattle.std.proofs.Common.{arith, ◌∙◌, ap, ⊎_elim, refl}
use Rattle.std.specs.Prelude.{ℕ, ◌+◌, ◌-◌, ◌≤◌, ◌<◌, ◌≡◌, List, length, get_or}
use Rattle.winners.specs.Laws.Stored.{Moving, moving-all}
use Rattle.winners.proofs.turn.Goals as goal

pub returns : goal.returns
returns c =
    let a = c.args in
    let xs : List ℕ = a.slots.now in
    moving-all xs a.at a.n _ a.at c.told-slots c.requires.1 refl (
    record {
      long = c.copy_within.ensures.len;
      low = omega arith;
      high = c.requires.0;
      same = λ q o. ⊎_elim (λ b. c.copy_within.ensures.by_index.1 q 0 (omega arith)) (λ b. c.copy_within.ensures.by_index.2 q 0 (omega arith)) o;
      on = λ q h l. c.copy_within.ensures.by_index.0 q 0 (omega arith) (omega arith) ∙ ap (λ (m : ℕ). get_or xs m 0) (omega arith);
    })
