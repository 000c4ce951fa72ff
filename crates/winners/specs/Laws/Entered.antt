-- A record enters the list, and its path the list of paths.
-- Assumes nothing.
use Rattle.std.specs.Prelude.{◌≡◌, Bool, ltb, length, ℤ}
use Rattle.std.proofs.Math.Path.{refl, sym, ap}
use Rattle.std.proofs.Common.{ap₂, ◌∙◌, arith, le-ltb, length-take, take-take, take_all}
use mathlib.Core.List.{List, [], ◌∷◌}
use Prim.Native.Nat.{ℕ, zero, suc, ◌+◌, ◌-◌, ◌≤◌, ◌<◌}
use Rattle.std.proofs.Math.Decide.{dec_lt}
use Rattle.std.proofs.Math.ListN.{take}
use Rattle.std.specs.Int.Signed.{lt_z}
use Rattle.lists.specs.Choice.{pick}
use Rattle.lists.specs.Parts.{last}
use Rattle.lists.specs.Rank.{enter, by}
use Rattle.lists.proofs.Laws.Cases.{by-test}
use Rattle.lists.specs.Laws.Integer.{Within, Less}
use Rattle.lists.proofs.Laws.Ranking.{sorted-enter, enter-cases, enter-less, enter-more, length-enter, both-length, both-take}
use Rattle.lists.specs.Laws.Ranking.{Both}
use Rattle.lists.proofs.Laws.Pieces.{pairs-take}
use Rattle.timing.specs.Paths.{Path}
use Rattle.timing.specs.Ranked.{greater, new_count, list_after}
use Rattle.timing.specs.declared.Candidate.{Candidate}
use Rattle.ranked.specs.Laws.{entered-front, after-length}
use Rattle.winners.specs.declared.Best.{Best}
use Rattle.winners.specs.Held.{Told, Holds, kept, Sized}

-- ---- any lists

module _ {A B : Type 0} (R : A → B → Type 0) (gt : A → A → Bool) (lt : B → B → Bool) where
  -- two items enter two lists alike
  both-enter : (a : A) (b : B) (l : List A) (m : List B) → R a b → ((x : A) (y : B) → R x y → gt x a ≡ lt y b) → Both R l m
      → Both R (enter gt a l) (enter lt b m)
  unfolding enter pick
  both-enter a b [] [] r f h = (r, tt)
  both-enter a b [] (y ∷ m) r f h = absurd h
  both-enter a b (x ∷ l) [] r f h = absurd h
  both-enter a b (x ∷ l) (y ∷ m) r f h =
      by-test (gt x a)
      (λ e. rw (e, ← (f x y h.0), e) (r, h))
      (λ e. rw (e, ← (f x y h.0), e) (h.0, both-enter a b l m r f h.1))

module _ {A : Type 0} (key : A → ℤ) where
  -- of a full list whose last is above x the last falls out
  full-enter : (d x : A) (n : ℕ) (l : List A) → length l ≡ suc n → Less (key x) (key (last d l)) → take (suc n) (enter (by key) x l) ≡ enter (by key) x (take n l)
  unfolding last enter
  full-enter d x n [] e h = absurd (omega arith)
  full-enter d x zero (y ∷ []) e h = rw (enter-less key x y [] h) refl
  full-enter d x (suc n) (y ∷ []) e h = absurd (omega arith)
  full-enter d x zero (y ∷ z ∷ l) e h = absurd (omega arith)
  full-enter d x (suc n) (y ∷ z ∷ l) e h =
      enter-cases key (λ m. take (suc (suc n)) m ≡ enter (by key) x (y ∷ take n (z ∷ l))) x y (z ∷ l)
      (λ k. sym (enter-less key x y (take n (z ∷ l)) k))
      (λ k. ap (λ (m : List A). y ∷ m) (full-enter y x n (z ∷ l) (omega arith) h) ∙ sym (enter-more key x y (take n (z ∷ l)) k))

-- ---- records

-- where no record so far is of a later test or serial the slack alone decides
pub slack-decides : (x c : Candidate) → x.test ≤ c.test → x.serial ≤ c.serial → greater x c ≡ lt_z c.slack x.slack
unfolding pick
slack-decides x c h k =
    by-test (lt_z c.slack x.slack) (λ e. rw e refl)
    (λ e. by-test (lt_z x.slack c.slack) (λ f. rw (e, f) refl)
    (λ f. by-test (ltb x.test c.test)
    (λ g. rw (e, f, le-ltb c.test x.test h, g) refl)
    (λ g. rw (e, f, le-ltb c.test x.test h, g, le-ltb c.serial x.serial k) refl)))

module _ (key : Path → ℤ) (k test : ℕ) (best : Best) (l : List Path) where
  -- the first k, by those that stay
  pub tops : (d p : Path) → Sized k best → Holds key k test best.serial best.list best.count l → (best.count ≡ k → Less (key p) (key (last d l)))
      → take k (enter (by key) p l) ≡ enter (by key) p (take (kept k best.count) l)
  tops d p S H low = elim (dec_lt best.count k) [
    | yes h ↦
        let z : kept k best.count ≡ best.count = omega arith in
        take_all k (enter (by key) p l) (omega (arith, length-enter (by key) p l, H.counted))
        ∙ ap (enter (by key) p) (sym (rw z (take_all best.count l (omega (arith, H.counted)))))
    | no h ↦
        let e : best.count ≡ k = omega (arith, S.few) in
        let z : kept k best.count ≡ k - 1 = omega arith in
        let y : k ≡ suc (k - 1) = omega (arith, S.some) in
        rw z (ap (λ (n : ℕ). take n (enter (by key) p l)) y ∙ full-enter key d p (k - 1) l (omega (arith, H.counted)) (low e))
  ]

  -- a record enters behind the records that stay
  pub holds-enter : (d : Path) (c : Candidate) (p : Path) → Sized k best → Holds key k test best.serial best.list best.count l → Told key test best.serial c p
      → c.test ≡ test → c.serial ≡ best.serial → (best.count ≡ k → Less (key p) (key (last d l)))
      → Holds key k test best.serial (list_after best.list (kept k best.count) c) (kept k best.count + 1) (take k (enter (by key) p l))
  holds-enter d c p S H T ct cs low =
      let q = kept k best.count in
      let ql : q < 16 = omega (arith, S.few, S.some, S.most) in
      let D = take q best.list in
      let M = take q l in
      let len = S.places in
      let D-is : D ≡ take q (take best.count best.list) = sym (take-take q best.count best.list (omega arith)) in
      let rel : Both (Told key test best.serial) D M = rw D-is (both-take (Told key test best.serial) q (take best.count best.list) l H.both) in
      let new : Both (Told key test best.serial) (enter greater c D) (enter (by key) p M) =
      both-enter (Told key test best.serial) greater (by key) c p D M T
      (λ x y r. slack-decides x c (omega (arith, r.tests)) (omega (arith, r.serials)) ∙ ap₂ lt_z T.slack r.slack) rel in
      let Dn : length D ≡ q = length-take q best.list ∙ omega arith in
      let En : length (enter greater c D) ≡ suc q = length-enter greater c D ∙ ap suc Dn in
      let front : take (q + 1) (list_after best.list q c) ≡ enter greater c D =
      let z : new_count q (length best.list) ≡ q + 1 = omega arith in
      (rw z at (entered-front best.list q c (omega arith))) ∙ take_all (length best.list) (enter greater c D) (omega arith) in
      let top : take k (enter (by key) p l) ≡ enter (by key) p M = tops d p S H low in
      record {
        places = after-length best.list q c ∙ len;
        counted = omega (arith, ap length top, both-length (Told key test best.serial) (enter greater c D) (enter (by key) p M) new);
        few = omega (arith, length-take k (enter (by key) p l));
        both = rw (front, top) new;
        sorted = pairs-take (λ x y. Within 0 (key x) (key y)) k (enter (by key) p l) (sorted-enter key p l H.sorted);
      }
