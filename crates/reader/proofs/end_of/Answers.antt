-- `reader::end_of` meets its contract. The first byte b of the rest, or its length. Assumes nothing.
use Rattle.std.specs.Prelude.{ℕ, Bool, List}
use Rattle.std.proofs.Common.{rules, tests, ◌≡◌, ◌+◌, ◌-◌, eqb, length, take, drop, take_all, ap, ◌∙◌, arith, length-drop}
use Rattle.std.proofs.lemmas.Iterator.{YieldsList-from_slice}
use Rattle.std.proofs.lemmas.Iterator.Search.{position_from_yields_List}
use Rattle.lists.specs.Laws.Cut.{reach}
use Rattle.lists.proofs.Laws.Cut.{end-most}
use Rattle.reader.proofs.Places.{found}
use Rattle.reader.proofs.end_of.Goals as goal

pub returns : goal.returns
returns c =
    let t : ℕ → Bool = λ x. eqb x c.args.b in
    let rest : List ℕ = take (length c.args.s.now - c.args.a) (drop c.args.a c.args.s.now) in
    let w : rest ≡ drop c.args.a c.args.s.now = take_all _ _ (omega (arith, length-drop c.args.a c.args.s.now)) in
    let f = found c.args.b rest c.position.result (position_from_yields_List t _ _ c.position.result c.position.ensures.ran (YieldsList-from_slice rest cc) (λ x b q k. search (rules, tests))) in
    let e : c.unwrap_or.result ≡ reach c.args.b (drop c.args.a c.args.s.now) = c.unwrap_or.ensures ∙ f ∙ ap (reach c.args.b) w in
    (ap (λ (n : ℕ). c.args.a + n) e, (omega arith, omega (arith, e, end-most c.args.b c.args.s.now c.args.a c.requires)))
