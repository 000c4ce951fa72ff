-- The order of the refusals: what the grounds in front refuse is refused, and where they refuse nothing the grounds behind are left. Assumes nothing.
use Rattle.std.specs.Prelude.{◌≡◌, refl, Bool, true, false, not, eqb, List, ◌++◌, ◌∷◌, [], Result, Ok}
use Rattle.std.proofs.Common.{arith, ap, ◌∙◌}
use Rattle.std.proofs.Math.Option.{Option, none, some}
use Rattle.lists.specs.Choice.{Ground, ground, first_met}
use Rattle.lists.specs.Laws.Scan.{tally}
use Rattle.lists.proofs.Laws.Chosen.{met-append, met-front}
use Rattle.timing.specs.declared.Refusal.{Refusal}
use Rattle.timing.specs.declared.Refusal.TheVariants.{TableHeader, RootCount}
use Rattle.timing.specs.Refusals.{checked_of}
use Rattle.timing.specs.Table.{Table, pin_count}
use Rattle.timing.specs.Check.{header_bad, is_root, roots_bad, pin_grounds, arc_grounds, into_grounds, test_grounds, table_grounds, table_fault}
use Rattle.tables.specs.Parts.{refused, then_check}

abbrev says : List (Ground Refusal) → Result Unit Refusal
says gs = checked_of (first_met gs)

-- two checks in a row answer what all their grounds say
says_join : (xs ys : List (Ground Refusal)) → says (xs ++ ys) ≡ then_check (says xs) (says ys)
unfolding then_check
says_join xs ys = by (first_met xs) refl
  where
    by : (o : Option Refusal) → first_met xs ≡ o → says (xs ++ ys) ≡ then_check (says xs) (says ys)
    by none e = rw e (ap checked_of (met-append xs ys e))
    by (some r) e = rw e (ap checked_of (met-front xs ys r e))

-- the order of document 01
pub in_order : (t : Table) → checked_of (table_fault t)
    ≡ then_check (refused (header_bad t) TableHeader)
    (then_check (says (pin_grounds t))
    (then_check (refused (not (eqb (tally (is_root t) (pin_count t)) 1)) RootCount)
    (then_check (says (arc_grounds t)) (then_check (says (into_grounds t)) (says (test_grounds t))))))
unfolding table_fault table_grounds roots_bad tally
in_order t =
    let pins = pin_grounds t in
    let roots = ground (roots_bad t) RootCount ∷ [] in
    let arcs = arc_grounds t in
    let into = into_grounds t in
    let tests = test_grounds t in
    says_join (ground (header_bad t) TableHeader ∷ []) (pins ++ (roots ++ (arcs ++ (into ++ tests))))
    ∙ ap (then_check (refused (header_bad t) TableHeader)) (says_join pins (roots ++ (arcs ++ (into ++ tests)))
    ∙ ap (then_check (says pins)) (says_join roots (arcs ++ (into ++ tests))
    ∙ ap (then_check (says roots)) (says_join arcs (into ++ tests)
    ∙ ap (then_check (says arcs)) (says_join into tests))))

-- what is not refused is not due
pub fine-not : (b : Bool) (r : Refusal) → Ok tt ≡ refused b r → b ≡ false
unfolding first_met
fine-not true r e = grind arith
fine-not false r e = refl
