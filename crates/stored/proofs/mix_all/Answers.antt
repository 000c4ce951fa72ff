use Rattle.std.proofs.Common.{rules, refl}
use Rattle.std.proofs.lemmas.Fn.{fold_over, fronts, slice_gives, FoldsTo-push}
use Rattle.std.specs.List.{FoldsTo}
use Rattle.stored.specs.Sums.{mixes}
use Rattle.stored.proofs.mix_all.Goals as goal

-- each call leads the sum one value on
pub returns : goal.returns
returns g c =
    let step = FoldsTo-push (mixes g.T.Into.converts) c.args.before in
    let all = slice_gives c.iter.result in
    rw (← c.iter.ensures.rest)
    (fold_over fronts (λ y. y.now) _ (FoldsTo (mixes g.T.Into.converts) c.args.before) _ (λ ys a x b f' j k. (step ys a x.now b j (search rules), search rules)) c.iter.result _ _ _ all refl c.fold.ensures.ran)
