-- The place that `ranked::place_of` gives among the records that stay. Assumes nothing.
use Rattle.std.specs.Prelude.{ℕ, List, ◌≤◌, take, not}
use Rattle.std.specs.List.{position_or_len}
use Rattle.std.proofs.Common.{sym, ap, ◌∙◌, arith, length-take, get_or-take}
use Rattle.std.proofs.lemmas.List.Sums.{prefix_len-le-length, fails_before_first, passes_at_first}
use Rattle.timing.specs.declared.Candidate.{Candidate}
use Rattle.timing.specs.Ranked.{greater}
use Rattle.winners.specs.Held.{nobody}
use Rattle.winners.specs.Stored.{Place}
use Rattle.std.proofs.Math.ListN.{length}

pub place-found : (list : List Candidate) (n : ℕ) (c : Candidate) → n ≤ length list → Place list n c (position_or_len (λ x. greater x c) (take n list))
place-found list n c h =
    let most = prefix_len-le-length (λ x. not (greater x c)) (take n list) in
    let long = length-take n list in
    record {
      most = omega (arith, most, long);
      behind = λ i a.
          sym (ap (λ (x : Candidate). greater x c) (get_or-take n list i nobody (omega (arith, most, long))))
          ∙ fails_before_first (λ x. greater x c) (take n list) i nobody a;
      before = λ a.
          sym (ap (λ (x : Candidate). greater x c) (get_or-take n list _ nobody a))
          ∙ passes_at_first (λ x. greater x c) (take n list) nobody (omega (arith, long));
    }
