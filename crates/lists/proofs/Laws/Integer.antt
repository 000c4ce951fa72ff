-- The order of ℤ said in ℕ, where `omega` works: z is `up z` less `down z`. Keys are differences of two naturals (`sub_is`), moved by
-- a natural (`plus-is`), so no other law of ℤ is needed.
-- Assumes nothing.
use Rattle.std.specs.Prelude.{◌≡◌, true, false, ℕ, zero, suc, ◌+◌, ◌≤◌, ℤ, pos, negsuc, ◌+ℤ◌, ◌-ℤ◌, ◌≤ℤ◌, ◌<ℤ◌}
use Rattle.std.proofs.Common.{ap, true≢false, arith, ltb-true, ltb-false, lt-ltb, le-ltb, leb→le, le→leb, ltb→lt, lt→ltb}
use Rattle.std.proofs.lemmas.Bool.{false≢true}
use Rattle.std.proofs.Math.Decide.{dec_lt}
use Rattle.std.proofs.Math.IntN.{sub_ℕ}
use Rattle.std.specs.Int.Signed.{lt_z, le_z_yes, lt_z_yes}
use Rattle.lists.specs.Laws.Integer.{up, down, Within, Less}

-- ---- the order, and the test of it
-- x ≤ y in ℤ is so in ℕ
pub le-within : (x y : ℤ) → x ≤ℤ y → Within 0 x y
le-within (pos a) (pos b) h = omega (arith, leb→le a b h.le)
le-within (pos a) (negsuc b) h = absurd h.le
le-within (negsuc a) (pos b) h = omega arith
le-within (negsuc a) (negsuc b) h = omega (arith, leb→le b a h.le)

-- and the other way round
pub within-le : (x y : ℤ) → Within 0 x y → x ≤ℤ y
within-le (pos a) (pos b) h = le_z_yes (le→leb a b (omega arith))
within-le (pos a) (negsuc b) h = absurd (omega arith)
within-le (negsuc a) (pos b) h = le_z_yes tt
within-le (negsuc a) (negsuc b) h = le_z_yes (le→leb b a (omega arith))

-- a test x < y that passed
pub less-within : (x y : ℤ) → lt_z x y ≡ true → Less x y
less-within (pos a) (pos b) h = omega (arith, ltb-true a b h)
less-within (pos a) (negsuc b) h = absurd (false≢true h)
less-within (negsuc a) (pos b) h = omega arith
less-within (negsuc a) (negsuc b) h = omega (arith, ltb-true b a h)

-- a test x < y that failed
pub not-less-within : (x y : ℤ) → lt_z x y ≡ false → Within 0 y x
not-less-within (pos a) (pos b) h = omega (arith, ltb-false a b h)
not-less-within (pos a) (negsuc b) h = omega arith
not-less-within (negsuc a) (pos b) h = absurd (true≢false h)
not-less-within (negsuc a) (negsuc b) h = omega (arith, ltb-false b a h)

-- x < y in ℕ is so in ℤ
pub within-less : (x y : ℤ) → Less x y → x <ℤ y
within-less (pos a) (pos b) h = lt_z_yes (lt→ltb a b (omega arith))
within-less (pos a) (negsuc b) h = absurd (omega arith)
within-less (negsuc a) (pos b) h = lt_z_yes tt
within-less (negsuc a) (negsuc b) h = lt_z_yes (lt→ltb b a (omega arith))

-- and the other way round
pub less-at : (x y : ℤ) → x <ℤ y → Less x y
less-at (pos a) (pos b) h = omega (arith, ltb→lt a b h.lt)
less-at (pos a) (negsuc b) h = absurd h.lt
less-at (negsuc a) (pos b) h = omega arith
less-at (negsuc a) (negsuc b) h = omega (arith, ltb→lt b a h.lt)

-- what is less is not at least
pub less-not {ℓ} : {X : Type ℓ} (x y : ℤ) → Less x y → Within 0 y x → X
less-not x y h k = absurd (omega arith)

-- what may be lacking adds up
pub trans-within : (v w : ℕ) (x y z : ℤ) → Within v x y → Within w y z → Within (v + w) x z
trans-within v w x y z h k = omega arith

-- neither is less: they are the same
pub both-within : (x y : ℤ) → Within 0 x y → Within 0 y x → x ≡ y
both-within (pos a) (pos b) h k = ap pos (omega arith)
both-within (pos a) (negsuc b) h k = absurd (omega arith)
both-within (negsuc a) (pos b) h k = absurd (omega arith)
both-within (negsuc a) (negsuc b) h k = ap negsuc (omega arith)

-- ---- sums and differences
-- a difference of two naturals
pub sub_is : (a b : ℕ) → up (sub_ℕ a b) + b ≡ a + down (sub_ℕ a b)
sub_is a b = elim (dec_lt a b) [
  | yes l ↦ rw (lt-ltb a b l) (omega arith)
  | no l ↦ rw (le-ltb a b (omega arith)) (omega arith)
]

-- a sum with a natural
pub plus-is : (z : ℤ) (w : ℕ) → up (z +ℤ pos w) + down z ≡ up z + w + down (z +ℤ pos w)
plus-is (pos a) w = omega arith
plus-is (negsuc a) w = omega (arith, sub_is w (suc a))

-- a difference with a natural
pub minus_is : (z : ℤ) (w : ℕ) → up (z -ℤ pos w) + down z + w ≡ up z + down (z -ℤ pos w)
minus_is (pos a) zero = omega arith
minus_is (pos a) (suc w) = omega (arith, sub_is a (suc w))
minus_is (negsuc a) zero = omega (arith, sub_is 0 (suc a))
minus_is (negsuc a) (suc w) = omega arith

-- x at most w above y is at most y + w
pub within-plus : (w : ℕ) (x y : ℤ) → Within w x y → x ≤ℤ (y +ℤ pos w)
within-plus w x y h = within-le x (y +ℤ pos w) (omega (arith, plus-is y w))

-- and the other way round
pub plus-within : (w : ℕ) (x y : ℤ) → x ≤ℤ (y +ℤ pos w) → Within w x y
plus-within w x y h = omega (arith, plus-is y w, le-within x (y +ℤ pos w) h)

-- two differences compared by what is for and against each
pub sub_within : (w a b c d : ℕ) → a + d ≤ c + b + w → Within w (sub_ℕ a b) (sub_ℕ c d)
sub_within w a b c d h = omega (arith, sub_is a b, sub_is c d)

-- and the other way round
pub within-sub : (w a b c d : ℕ) → Within w (sub_ℕ a b) (sub_ℕ c d) → a + d ≤ c + b + w
within-sub w a b c d h = omega (arith, sub_is a b, sub_is c d)

-- two differences are one where for and against balance
pub same-difference : (a b c d : ℕ) → a + d ≡ c + b → sub_ℕ a b ≡ sub_ℕ c d
same-difference a b c d e = both-within (sub_ℕ a b) (sub_ℕ c d) (sub_within 0 a b c d (omega arith)) (sub_within 0 c d a b (omega arith))

-- a difference of two naturals that are at most c
pub sub-range : (a b c : ℕ) → a ≤ c → b ≤ c → Within 0 (sub_ℕ a b) (pos c) × Within 0 (sub_ℕ 0 c) (sub_ℕ a b)
sub-range a b c h k = (omega (arith, sub_is a b), sub_within 0 0 c a b (omega arith))
