-- The kinds of pins, and which may drive which.
-- Assumes nothing.
use Rattle.std.specs.Prelude.{ℕ, Bool, ◌&&◌, ◌||◌, List, [], ◌∷◌, eqb, ◌≡◌, ◌<◌, Result, MatchResult}
use Rattle.lists.specs.Parts.{any}
use Rattle.timing.specs.declared.Kind.{Kind}
use Rattle.timing.specs.declared.Kind.TheVariants as kind
use Rattle.timing.specs.declared.NoKind.{NoKind}

-- "Pin kinds: R clock root (0), B clock buffer pin (1), K flip-flop clock pin (2), I primary input (3), D data pin (4)."
abbrev pub R : ℕ
R = 0

abbrev pub B : ℕ
B = 1

abbrev pub K : ℕ
K = 2

abbrev pub I : ℕ
I = 3

abbrev pub D : ℕ
D = 4

-- the kinds of the code's enum `Kind` by their numbers
abbrev pub kind_number : Kind → ℕ
kind_number kind.R = R
kind_number kind.B = B
kind_number kind.K = K
kind_number kind.I = I
kind_number kind.D = D

-- the kind with a number, or that number where it is above those of all kinds
abbrev pub Decodes : ℕ → Result Kind NoKind → Type 0
Decodes n r = MatchResult r (λ k. kind_number k ≡ n) (λ e. (e.0 ≡ n) × (D < n))

-- "R and I have an early and a late arrival"
abbrev pub has_times : ℕ → Bool
has_times k = eqb k R || eqb k I

-- one kind drives another
pub record Pair : Type 0 where
  pub driver : ℕ
  pub driven : ℕ

abbrev pub ◌to◌ : ℕ → ℕ → Pair
from to onto = record { driver = from; driven = onto }

infix 70 ◌to◌
-- "R to B, R to K, B to B, B to K, K to D, I to D, D to D. The other 18 pairs are refused."
unfoldable pub allowed : List Pair
allowed = R to B ∷ R to K ∷ B to B ∷ B to K ∷ K to D ∷ I to D ∷ D to D ∷ []

unfoldable pub may_drive : ℕ → ℕ → Bool
may_drive from onto = any (λ (p : Pair). eqb from p.driver && eqb onto p.driven) allowed
