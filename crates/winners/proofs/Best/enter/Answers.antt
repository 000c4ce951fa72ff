-- `winners::Best::enter` meets its contract.
-- Assumes nothing.
use Rattle.std.proofs.Common.{◌≡◌, sym, subst, ap, ◌∙◌, ℕ, ◌+◌, ◌<◌, arith, le-ltb}
use Rattle.std.specs.Prelude.{Result, Ok}
use Rattle.std.specs.Result.{result_unwrap_or}
use Rattle.lists.specs.Choice.{pick, first_met}
use Rattle.timing.specs.declared.Refusal.{Refusal}
use Rattle.timing.specs.Limits.{most_k}
use Rattle.timing.specs.Ranked.{enter_answer, entered_of, enter_fault}
use Rattle.winners.specs.Stored.{Place}
use Rattle.winners.proofs.Places.{place-found}
use Rattle.winners.proofs.Best.enter.Goals as goal

-- as many as stay, and the newcomer
count-more : (n : ℕ) → n < most_k → enter_answer n most_k ≡ Ok (n + 1)
unfolding enter_answer entered_of enter_fault first_met pick
count-more n h = rw (le-ltb most_k n (omega arith)) (ap Ok (omega arith))

pub turn-requires : goal.turn-requires
turn-requires c =
    let e = c.stay-stay.ensures in
    let n : c.stay-stay.result < most_k = rw e (omega (arith, c.requires.few, c.requires.some, c.requires.most)) in
    let P = place-found c.args.self.now.list c.stay-stay.result c.args.c (omega (arith, n, c.requires.places)) in
    (rw c.place_of-at.ensures P.most, n)

pub returns : goal.returns
returns c =
    let e = c.stay-stay.ensures in
    let low : c.stay-stay.result < most_k = rw e (omega (arith, c.requires.few, c.requires.some, c.requires.most)) in
    let answer = rw c.requires.places at c.enter.ensures.0 ∙ count-more c.stay-stay.result low in
    record {
      list-is = rw e at c.enter.ensures.1;
      count-is = c.unwrap_or-self.ensures ∙ ap (λ (r : Result ℕ Refusal). result_unwrap_or r 0) answer ∙ ap (λ (n : ℕ). n + 1) e;
      later = omega (arith, c.saturating_add-self.ensures);
      place = c.place_of-at.result;
      at = rw e at (subst (λ (r : ℕ). Place c.args.self.now.list c.stay-stay.result c.args.c r) (sym c.place_of-at.ensures)
          (place-found c.args.self.now.list c.stay-stay.result c.args.c (omega (arith, low, c.requires.places))));
      moved = rw e at c.turn.ensures;
    }
