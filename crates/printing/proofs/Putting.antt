-- Bytes put one behind the other, and how a number is spelled.
-- Assumes nothing.
use Rattle.std.specs.Prelude.{ℕ, ◌+◌, ◌<◌, ◌≤◌, ◌^◌, ◌≡◌, [], ◌∷◌, ◌++◌, length, ℤ, pos, negsuc}
use Rattle.std.proofs.Common.{◌∙◌, refl, arith, add-one}
use Rattle.std.specs.Fmt.{decimal, signed_decimal}
use Rattle.std.proofs.lemmas.Fmt.{AppendsLastDigit, decimal_from_appends, length-decimal-le}
use lib.Signed.{mag}
use mir.Syntax.{w64}
use mir.Val.{SFits}
use borrow.Author.Tests.{lt-ltb, le-ltb}
use Rattle.lists.specs.Choice.{pick}
use Rattle.timing.specs.Field.{Bytes}
use Rattle.timing.specs.Printed.{digits_by, digits, tab}
use Rattle.printing.specs.declared.Out.{Out}
use Rattle.printing.specs.Put.{most, put-none, put-join}
use Rattle.printing.specs.Out.{Puts}

-- nothing put
pub puts-none : (o : Out) → o.at ≤ most → Puts [] o o
puts-none o h = record { same = refl; put = put-none o.bytes.now o.at h }

-- one behind the other
pub puts-join : (a b : Bytes) (o p q : Out) → length o.bytes.now ≤ most → Puts a o p → Puts b p q → Puts (a ++ b) o q
puts-join a b o p q h x y = record { same = y.same ∙ x.same; put = put-join a b h x.put y.put }

-- the same bytes, said in another way
pub puts-same : (a b : Bytes) (o p : Out) → Puts a o p → a ≡ b → Puts b o p
puts-same a b o p h e = rw e at h

-- ---- numbers

-- the digits are made from the last one on, as std's are
appends : AppendsLastDigit digits_by
unfolding digits_by pick
appends = record { one = λ k n h. rw (lt-ltb n 10 h) refl; more = λ k n h. rw (le-ltb n 10 h) refl }

-- so they are those that std prints
spelled : (n : ℕ) → n < 2 ^ 64 → digits_by 20 n ≡ decimal n
spelled n h = decimal_from_appends digits_by appends 20 n h (length-decimal-le 20 n (omega arith) (omega arith) h)

-- a tab and a number that has no sign
pub tab_number : (n : ℕ) → n < 2 ^ 64 → 9 ∷ decimal n ≡ tab (pos n)
unfolding tab digits
tab_number n h = rw (spelled n h)

-- a tab and a number
tab_signed : (z : ℤ) → mag z < 2 ^ 63 → 9 ∷ signed_decimal z ≡ tab z
unfolding tab digits
tab_signed (pos n) h = rw (spelled n (omega arith))
tab_signed (negsuc n) h = let e : digits_by 20 (n + 1) ≡ decimal (n + 1) = spelled (n + 1) (omega arith) in rw (e, add-one)

-- put as it is read back from its bits
pub puts_number : (x y : ℤ) (o p : Out) → y ≡ x → SFits w64 x → Puts (9 ∷ signed_decimal y) o p → Puts (tab x) o p
puts_number x y o p e f h = rw (e, tab_signed x f.sfits) at h
