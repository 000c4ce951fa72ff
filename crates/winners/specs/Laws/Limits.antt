-- What a slack, and what a value must be below to enter.
-- Assumes nothing.
use Rattle.std.specs.Prelude.{◌≡◌, ℕ, ◌+◌, ◌-◌, ◌≤◌, ◌<◌, ℤ, get_or}
use Rattle.std.proofs.Common.{inl, inr, arith}
use Rattle.std.specs.Int.Signed.{lt_z}
use Rattle.lists.specs.Choice.{pick}
use Rattle.lists.proofs.Laws.Cases.{by-test}
use Rattle.lists.specs.Laws.Integer.{up, down}
use Rattle.lists.proofs.Laws.Integer.{less-within, not-less-within, sub_is}
use Rattle.winners.specs.declared.Best.{Best}
use Rattle.winners.specs.Held.{nobody, Limit, Reach}

pub limit-open : (k : ℕ) (hint : ℤ) (best : Best) → best.count < k → Limit k hint best hint
limit-open k hint best h = record { under = λ z l. (l, λ e. absurd (omega arith)); over = λ z l. inl l }

pub limit-full : (k : ℕ) (hint : ℤ) (best : Best) (r : ℤ) → best.count ≡ k
    → r ≡ pick (lt_z (get_or best.list (k - 1) nobody).slack hint) (get_or best.list (k - 1) nobody).slack hint → Limit k hint best r
unfolding pick
limit-full k hint best r h e =
    let last = (get_or best.list (k - 1) nobody).slack in
    by-test (lt_z last hint)
    (λ f.
    let q : r ≡ last = rw f at e in
    let lt = less-within last hint f in
    rw q (record { under = λ z l. (omega arith, λ e. l); over = λ z l. inr (h, l) }))
    (λ f.
    let q : r ≡ hint = rw f at e in
    let ge = not-less-within last hint f in
    rw q (record { under = λ z l. (l, λ e. omega arith); over = λ z l. inl l }))

module _ (limit : ℤ) (raise lower : ℕ) where
  pub reach-none : up limit + lower < down limit + raise → Reach raise lower limit 0
  reach-none h =
      record { most = omega arith; under = λ v l. absurd (omega arith); over = λ v s l. omega (arith, sub_is (v + raise) lower) }

  pub reach-some : (r : ℕ) → down limit + raise ≤ up limit + lower → r ≡ up limit + lower - (down limit + raise) → r < 1152921504606846976 → Reach raise lower limit r
  reach-some r h e f =
      record {
        most = omega arith;
        under = λ v l. omega (arith, sub_is (v + raise) lower);
        over = λ v s l. omega (arith, sub_is (v + raise) lower);
      }

  pub reach-all : down limit + raise ≤ up limit + lower → 1152921504606846976 ≤ up limit + lower - (down limit + raise) → Reach raise lower limit 1152921504606846976
  reach-all h e =
      record { most = omega arith; under = λ v l. omega (arith, sub_is (v + raise) lower); over = λ v s l. absurd (omega arith) }
