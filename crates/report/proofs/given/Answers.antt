-- `report::given` meets its contract: the list tells the first k paths, and their rows are those of the table. Assumes nothing.
use Rattle.std.proofs.Common.{◌≡◌, ap, ap₂, ◌∙◌, replicate}
use native.Mathlib.Omega.{arith}
use lib.ListN.{length}
use Rattle.timing.specs.Limits.{work_length}
use Rattle.timing.specs.declared.Answer.{Answer}
use Rattle.std.specs.Prelude.{ℕ}
use Rattle.report.specs.Answered.{won-writes, rows_are, rows-count}
use Rattle.report.proofs.given.Goals as goal

-- an answer by its parts
abbrev given : ℕ → ℕ → Answer
given rows total = record { rows = rows; total = total }

pub write_rows-requires : goal.write_rows-requires
write_rows-requires c =
    let won = c.first-won.result in
    won-writes c.args.table.now c.args.mode c.args.k _ won.list won.count won.slots c.requires.0.few c.first-won.ensures _ c.requires.0.places

pub returns : goal.returns
returns c =
    let r = c.write_rows in
    let won = c.first-won.result in
    let t = c.args.table.now in
    let w = c.first-won.new.work in
    let long : length w ≡ work_length = omega (arith, c.first-won.auto.work, c.total-total.auto.work, c.prepare.auto.work, c.requires.1) in
    record {
      told = ap₂ given (rows-count t c.args.mode c.args.k w won.list won.count won.slots c.requires.0.few c.first-won.ensures) c.total-total.ensures.0;
      rows-stand = rw (rows_are t c.args.mode c.args.k w won.list won.count won.slots c.requires.0.few c.first-won.ensures) at r.ensures;
      cleared = c.fill.ensures.after (λ y e. e) ∙ ap (λ (n : ℕ). replicate n 0) long;
    }
