-- The refusal that is told, if there is one, and what `ok_or` gives of an answer that may be none. Assumes nothing.
use Rattle.std.proofs.Common.{◌≡◌, Option, Some, None, Ok, Err, refl}
use Rattle.std.specs.Option.{ok_or}
use mathlib.Core.Option.{Option as Fault, none, some}
use Rattle.timing.specs.declared.Refusal.{Refusal}
use Rattle.reader.specs.Answer.{told}

module _ {A : Type 0} where
  pub told-ok : (o : Fault Refusal) (v w : A) → Ok w ≡ told o v → (o ≡ none) × (w ≡ v)
  told-ok none v w e = (refl, cc)
  told-ok (some r) v w e = cc

  pub told-err : (o : Fault Refusal) (v : A) (r : Refusal) → Err r ≡ told o v → o ≡ some r
  told-err none v r e = cc
  told-err (some q) v r e = cc

  pub ok_or-some : (o : Option A) (w : A) (r : Refusal) → Ok w ≡ ok_or o r → o ≡ Some w
  ok_or-some None w r q = cc
  ok_or-some (Some v) w r q = cc

  pub ok_or-none : (o : Option A) (e r : Refusal) → Err e ≡ ok_or o r → (o ≡ None) × (e ≡ r)
  ok_or-none None e r q = (refl, cc)
  ok_or-none (Some v) e r q = cc

-- no fault and a fault
pub no-fault {ℓ} : {Y : Type ℓ} (o : Fault Refusal) (r : Refusal) → o ≡ none → o ≡ some r → Y
no-fault none r e f = cc
no-fault (some q) r e f = cc
