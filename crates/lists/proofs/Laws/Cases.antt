-- A test passes or fails: the two cases of a proof about `pick`, `those`, `enter` and whatever else a test decides.
-- Assumes nothing.
use Rattle.std.specs.Prelude.{◌≡◌, refl, Bool, true, false, ◌&&◌, ◌||◌}
use Rattle.std.proofs.Common.{sym, ◌∙◌, true≢false}

-- what holds where the test passes and where it fails holds
pub by-test {ℓ} : {X : Type ℓ} (b : Bool) → (b ≡ true → X) → (b ≡ false → X) → X
by-test true f g = f refl
by-test false f g = g refl

-- no test both passes and fails
pub clash {ℓ} : {X : Type ℓ} (b : Bool) → b ≡ true → b ≡ false → X
clash b e f = absurd (true≢false (sym e ∙ f))

-- both pass, and neither passes
pub and_both : (a b : Bool) → (a && b) ≡ true → (a ≡ true) × (b ≡ true)
and_both true b e = (refl, e)
and_both false b e = clash false e refl

pub or-none : (a b : Bool) → (a || b) ≡ false → (a ≡ false) × (b ≡ false)
or-none true b e = clash true refl e
or-none false b e = (refl, e)
