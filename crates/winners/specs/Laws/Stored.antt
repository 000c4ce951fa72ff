-- The slots move as the records do.
-- Assumes nothing.
use Rattle.std.specs.Prelude.{◌≡◌, ◌⊎◌, Bool, true, false, length, take, set, ℤ}
use Rattle.std.proofs.Math.Path.{refl}
use borrow.Rule.Slice.PartMut.{mid_of, put_mid, same_len_mid}
use Rattle.std.specs.List.{RotatedRight}
use Rattle.std.proofs.Math.ListN.{drop, get_or-append}
use Rattle.std.proofs.lemmas.List.{get_or-append_right, get_or-drop}
use Rattle.std.proofs.Common.{sym, ap, ap₂, ◌∙◌, inl, inr, ⊎_elim, length-take, length-drop, length-set, get_or-take, get_or-set_same, get_or-set_other}
use mathlib.Core.List.{List, [], ◌∷◌, ◌++◌}
use Prim.Native.Nat.{ℕ, zero, suc, ◌+◌, ◌-◌, ◌*◌, ◌≤◌, ◌<◌}
use native.Mathlib.Omega.{arith}
use Rattle.std.proofs.Math.Decide.{ℕ_discrete, dec_lt}
use Rattle.std.proofs.Math.ListN.{get_or}
use Rattle.std.specs.Int.Signed.{lt_z}
use Rattle.lists.specs.Choice.{pick}
use Rattle.lists.specs.Rank.{enter, by}
use Rattle.lists.proofs.Laws.Ranking.{both_at, both-length, length-enter}
use Rattle.timing.specs.Paths.{Path}
use Rattle.timing.specs.Ranked.{greater}
use Rattle.timing.specs.declared.Candidate.{Candidate}
use Rattle.walker.specs.Slots.{Stands, Aside}
use Rattle.winners.specs.declared.Best.{Best}
use Rattle.winners.specs.Held.{Told, Holds, kept, nobody, Sized}
use Rattle.winners.specs.Stored.{no_path, Shelf, Stored, Source, Moved, Place}
use Rattle.winners.specs.Laws.Entered.{slack-decides}

-- ---- places

source : (at n i : ℕ) → (q : ℕ) × Source at n i q
source at n i = elim (dec_lt i at) [
  | yes h ↦ (i, inl (h, refl))
  | no h ↦ elim (ℕ_discrete i at) [
    | yes e ↦ (n, inr (inl (e, refl)))
    | no e ↦ elim (dec_lt n i) [
      | yes l ↦ (i, inr (inr (inr (l, refl))))
      | no l ↦ (i - 1, inr (inr (inl (omega arith, omega arith, refl))))
    ]
  ]
]

source-low : (at n i q : ℕ) → at ≤ n → n < 16 → i < 16 → Source at n i q → q < 16
source-low at n i q a b h (inl s) = omega arith
source-low at n i q a b h (inr (inl s)) = omega arith
source-low at n i q a b h (inr (inr (inl s))) = omega arith
source-low at n i q a b h (inr (inr (inr s))) = omega arith

-- no two come from one
source_one : (at n i k q : ℕ) → at ≤ n → Source at n i q → Source at n k q → i ≡ k
source_one at n i k q a (inl s) (inl t) = omega arith
source_one at n i k q a (inl s) (inr (inl t)) = omega arith
source_one at n i k q a (inl s) (inr (inr (inl t))) = omega arith
source_one at n i k q a (inl s) (inr (inr (inr t))) = omega arith
source_one at n i k q a (inr (inl s)) (inl t) = omega arith
source_one at n i k q a (inr (inl s)) (inr (inl t)) = omega arith
source_one at n i k q a (inr (inl s)) (inr (inr (inl t))) = omega arith
source_one at n i k q a (inr (inl s)) (inr (inr (inr t))) = omega arith
source_one at n i k q a (inr (inr (inl s))) (inl t) = omega arith
source_one at n i k q a (inr (inr (inl s))) (inr (inl t)) = omega arith
source_one at n i k q a (inr (inr (inl s))) (inr (inr (inl t))) = omega arith
source_one at n i k q a (inr (inr (inl s))) (inr (inr (inr t))) = omega arith
source_one at n i k q a (inr (inr (inr s))) (inl t) = omega arith
source_one at n i k q a (inr (inr (inr s))) (inr (inl t)) = omega arith
source_one at n i k q a (inr (inr (inr s))) (inr (inr (inl t))) = omega arith
source_one at n i k q a (inr (inr (inr s))) (inr (inr (inr t))) = omega arith

pub shelf-moved : (slots : List ℕ) (at n : ℕ) (r : List ℕ) → at ≤ n → n < 16 → Shelf slots → Moved slots at n r → Shelf r
shelf-moved slots at n r a b S M =
    record {
      places = M.places;
      inside = λ i h. let s = source at n i in rw (M.from i s.0 h s.1) (S.inside s.0 (source-low at n i s.0 a b h s.1));
      apart = λ i k h g e.
          let s = source at n i in
          let t = source at n k in
          let z : s.0 ≡ t.0 =
          S.apart s.0 t.0 (source-low at n i s.0 a b h s.1) (source-low at n k t.0 a b g t.1) (sym (M.from i s.0 h s.1) ∙ e ∙ M.from k t.0 g t.1) in
          source_one at n i k t.0 a (rw z at s.1) t.1;
    }

-- ---- entering, by place

module _ {A : Type 0} (gt : A → A → Bool) (d x : A) where
  pub enter-place : (l : List A) (n i : ℕ) → n ≤ length l → ((j : ℕ) → j < n → gt (get_or l j d) x ≡ false) → (n < length l → gt (get_or l n d) x ≡ true)
      → ((i < n) → get_or (enter gt x l) i d ≡ get_or l i d) × ((i ≡ n) → get_or (enter gt x l) i d ≡ x) × ((n < i) → get_or (enter gt x l) i d ≡ get_or l (i - 1) d)
  unfolding enter pick
  enter-place [] zero zero a f g = (λ h. absurd (omega arith), λ h. refl, λ h. absurd (omega arith))
  enter-place [] zero (suc i) a f g = (λ h. absurd (omega arith), λ h. absurd (omega arith), λ h. refl)
  enter-place [] (suc n) i a f g = absurd (omega arith)
  enter-place (y ∷ l) zero zero a f g = rw (g (omega arith)) (λ h. absurd (omega arith), λ h. refl, λ h. absurd (omega arith))
  enter-place (y ∷ l) zero (suc i) a f g =
      let z : suc i - 1 ≡ i = omega arith in
      rw (g (omega arith), z) (λ h. absurd (omega arith), λ h. absurd (omega arith), λ h. refl)
  enter-place (y ∷ l) (suc n) zero a f g = rw (f 0 (omega arith)) (λ h. refl, λ h. absurd (omega arith), λ h. absurd (omega arith))
  enter-place (y ∷ l) (suc n) (suc i) a f g =
      let r = enter-place l n i (omega arith) (λ j h. f (suc j) (omega arith)) (λ h. g (omega arith)) in
      rw (f 0 (omega arith)) (λ h. r.0 (omega arith), λ h. r.1 (omega arith), λ h. r.2 (omega arith) ∙ shift i (omega arith))
    where
      shift : (i : ℕ) → 0 < i → get_or l (i - 1) d ≡ get_or (y ∷ l) (suc i - 1) d
      shift zero h = absurd (omega arith)
      shift (suc i) h =
          let p : suc i - 1 ≡ i = omega arith in
          let q : suc (suc i) - 1 ≡ suc i = omega arith in
          rw (p, q) refl

-- ---- a slot that is written leaves the others

stands-aside : (free slot : ℕ) (w v u : List ℕ) → Aside free w v → (slot ≡ free → ⊥) → Stands w slot u → Stands v slot u
stands-aside free slot w v u A n S =
    record {
      count = A.others (slot * 256) (elim (dec_lt slot free) [ yes h ↦ inl (omega arith) | no h ↦ inr (omega (arith, other h)) ]) ∙ S.count;
      few = S.few;
      arcs = λ i h.
          A.others (slot * 256 + 1 + i) (elim (dec_lt slot free) [ yes l ↦ inl (omega (arith, S.few)) | no l ↦ inr (omega (arith, other l)) ]) ∙ S.arcs i h;
    }
  where
    other : (slot < free → ⊥) → free < slot
    other h = elim (ℕ_discrete slot free) [ yes e ↦ absurd (n e) | no e ↦ omega arith ]

module _ (key : Path → ℤ) (k test : ℕ) (best : Best) (l : List Path) where
  -- the walk of the record that enters stands in the slot at the place behind those that stay
  pub stored-enter : (c : Candidate) (p : Path) (w v r : List ℕ) (at : ℕ) → Sized k best → Holds key k test best.serial best.list best.count l → Told key test best.serial c p
      → c.test ≡ test → c.serial ≡ best.serial → take k (enter (by key) p l) ≡ enter (by key) p (take (kept k best.count) l)
      → Shelf best.slots → Stored w best.slots l → Aside (get_or best.slots (kept k best.count) 0) w v → Stands v (get_or best.slots (kept k best.count) 0) p.walk
      → Place best.list (kept k best.count) c at → Moved best.slots at (kept k best.count) r → Stored v r (take k (enter (by key) p l))
  stored-enter c p w v r at S H T ct cs top F D A K P M i h =
      let q = kept k best.count in
      let qc : q ≤ best.count = omega arith in
      let few : q < 16 = omega (arith, S.few, S.some, S.most) in
      let R = Told key test best.serial in
      let cn = both-length R (take best.count best.list) l H.both in
      let told : (a : ℕ) → a < q → R (get_or best.list a nobody) (get_or l a no_path) =
      λ a b. rw (get_or-take best.count best.list a nobody (omega arith)) at (both_at R (take best.count best.list) l H.both a (omega (arith, H.counted)) nobody no_path) in
      let decides : (a : ℕ) → a < q → greater (get_or best.list a nobody) c ≡ by key (get_or (take q l) a no_path) p =
      λ a b.
      let t = told a b in
      slack-decides (get_or best.list a nobody) c (omega (arith, t.tests)) (omega (arith, t.serials)) ∙ ap₂ lt_z T.slack t.slack
      ∙ ap (λ (z : Path). lt_z (key p) (key z)) (sym (get_or-take q l a no_path b)) in
      let n : length (take q l) ≡ q = length-take q l ∙ omega (arith, H.counted) in
      let E = enter-place (by key) no_path p (take q l) at i (omega (arith, P.most)) (λ j b. sym (decides j (omega (arith, P.most))) ∙ P.behind j b)
      (λ b. sym (decides at (omega arith)) ∙ P.before (omega arith)) in
      let hi : i < suc q = omega (arith, ap length top, length-enter (by key) p (take q l)) in
      let kept-stands : (a : ℕ) → a < q → Stands v (get_or best.slots a 0) (get_or l a no_path).walk =
      λ a b.
      stands-aside (get_or best.slots q 0) (get_or best.slots a 0) w v (get_or l a no_path).walk A (λ e. let z = F.apart a q (omega arith) few e in omega arith) (D a (omega (arith, H.counted))) in
      rw top
      (elim (dec_lt i at) [
        | yes b ↦
            let m = P.most in
            rw (M.from i i (omega arith) (inl (b, refl)), E.0 b, get_or-take q l i no_path (omega arith)) (kept-stands i (omega arith))
        | no b ↦ elim (ℕ_discrete i at) [
          | yes e ↦ rw (M.from i q (omega arith) (inr (inl (e, refl))), E.1 e) K
          | no e ↦
              let g : at < i = omega arith in
              rw (M.from i (i - 1) (omega arith) (inr (inr (inl (g, omega arith, refl)))), E.2 g, get_or-take q l (i - 1) no_path (omega arith)) (kept-stands (i - 1) (omega arith))
        ]
      ])

-- ---- the slots, turned

-- the part from place at to place n, turned by one
module _ (slots part : List ℕ) (at n : ℕ) (long : length slots ≡ 16) (low : at ≤ n) (high : n < 16) (same : length part ≡ length (mid_of at (n + 1 - at) slots))
    (turned : RotatedRight (mid_of at (n + 1 - at) slots) part (length (mid_of at (n + 1 - at) slots)) 1) where
  front : length (take at slots) ≡ at
  front = length-take at slots ∙ omega arith

  middle : length (mid_of at (n + 1 - at) slots) ≡ n + 1 - at
  middle = length-take (n + 1 - at) (drop at slots) ∙ omega (arith, length-drop at slots)

  size : length part ≡ n + 1 - at
  size = same ∙ middle

  in-part : (i : ℕ) → at ≤ i → i ≤ n → get_or (put_mid at (n + 1 - at) slots part) i 0 ≡ get_or part (i - at) 0
  in-part i a b =
      get_or-append_right (take at slots) (part ++ drop (n + 1 - at) (drop at slots)) at i 0 front a
      ∙ get_or-append part (drop (n + 1 - at) (drop at slots)) 0 (i - at) (omega (arith, size))

  in-middle : (i : ℕ) → i < n + 1 - at → get_or (mid_of at (n + 1 - at) slots) i 0 ≡ get_or slots (at + i) 0
  in-middle i h = get_or-take (n + 1 - at) (drop at slots) i 0 h ∙ get_or-drop at slots i 0

  from-place : (i q : ℕ) → i < 16 → Source at n i q → get_or (put_mid at (n + 1 - at) slots part) i 0 ≡ get_or slots q 0
  from-place i q h (inl s) =
      rw s.1 (get_or-append (take at slots) (part ++ drop (n + 1 - at) (drop at slots)) 0 i (omega (arith, front)) ∙ get_or-take at slots i 0 s.0)
  from-place i q h (inr (inl s)) =
      in-part i (omega arith) (omega arith) ∙ ap (λ (m : ℕ). get_or part m 0) (omega arith) ∙ turned.0 0 0 (omega arith)
      ∙ in-middle (length (mid_of at (n + 1 - at) slots) - 1 + 0) (omega (arith, middle)) ∙ ap (λ (m : ℕ). get_or slots m 0) (omega (arith, middle))
  from-place i q h (inr (inr (inl s))) =
      in-part i (omega arith) s.1 ∙ turned.1 (i - at) 0 (omega arith) (omega (arith, middle))
      ∙ in-middle (i - at - 1) (omega arith) ∙ ap (λ (m : ℕ). get_or slots m 0) (omega arith)
  from-place i q h (inr (inr (inr s))) =
      get_or-append_right (take at slots) (part ++ drop (n + 1 - at) (drop at slots)) at i 0 front (omega arith)
      ∙ get_or-append_right part (drop (n + 1 - at) (drop at slots)) (n + 1 - at) (i - at) 0 size (omega arith)
      ∙ get_or-drop (n + 1 - at) (drop at slots) (i - at - (n + 1 - at)) 0 ∙ get_or-drop at slots (n + 1 - at + (i - at - (n + 1 - at))) 0
      ∙ ap (λ (m : ℕ). get_or slots m 0) (omega arith)

  pub moved-turned : Moved slots at n (put_mid at (n + 1 - at) slots part)
  moved-turned = record { places = same_len_mid at (n + 1 - at) slots part same ∙ long; from = from-place }

-- ---- the slots, one after another

pub record Moving (slots : List ℕ) (at n : ℕ) (s : List ℕ) (i : ℕ) : Type 0 where
  pub long : length s ≡ length slots
  pub low : at ≤ i
  pub high : i ≤ n
  pub same : (q : ℕ) → (q ≤ i) ⊎ (n < q) → get_or s q 0 ≡ get_or slots q 0
  pub on : (q : ℕ) → i < q → q ≤ n → get_or s q 0 ≡ get_or slots (q - 1) 0

module _ (slots : List ℕ) (at n : ℕ) where
  pub moving-none : at ≤ n → Moving slots at n slots n
  moving-none h = record { long = refl; low = h; high = omega arith; same = λ q o. refl; on = λ q a b. absurd (omega arith) }

  pub moving-more : (s : List ℕ) (i : ℕ) → n < length slots → at < i → Moving slots at n s i → Moving slots at n (set s i (get_or slots (i - 1) 0)) (i - 1)
  moving-more s i l h M =
      record {
        long = length-set s i (get_or slots (i - 1) 0) ∙ M.long;
        low = omega arith;
        high = omega (arith, M.high);
        same = λ q o.
            get_or-set_other s i q (get_or slots (i - 1) 0) 0 (λ e. ⊎_elim (λ b. omega arith) (λ b. omega (arith, M.high)) o)
            ∙ M.same q (⊎_elim (λ b. inl (omega arith)) (λ b. inr b) o);
        on = λ q a b. elim (ℕ_discrete q i) [
          | yes e ↦ rw e (get_or-set_same s i (get_or slots (i - 1) 0) 0 (omega (arith, M.long, M.high)))
          | no e ↦ get_or-set_other s i q (get_or slots (i - 1) 0) 0 (λ z. e (omega arith)) ∙ M.on q (omega arith) b
        ];
      }

  pub moving-all : (s : List ℕ) (i : ℕ) → length slots ≡ 16 → n < 16 → i ≡ at → Moving slots at n s i → Moved slots at n (set s at (get_or slots n 0))
  moving-all s i l h e M =
      let x = get_or slots n 0 in
      record { places = length-set s at x ∙ M.long ∙ l; from = λ j q b. go j q }
    where
      go : (j q : ℕ) → Source at n j q → get_or (set s at (get_or slots n 0)) j 0 ≡ get_or slots q 0
      go j q (inl c) = rw c.1 (get_or-set_other s at j (get_or slots n 0) 0 (λ z. omega arith) ∙ M.same j (inl (omega arith)))
      go j q (inr (inl c)) = rw (c.0, c.1) (get_or-set_same s at (get_or slots n 0) 0 (omega (arith, M.long, M.high, M.low)))
      go j q (inr (inr (inl c))) = rw c.2 (get_or-set_other s at j (get_or slots n 0) 0 (λ z. omega arith) ∙ M.on j (omega arith) c.1)
      go j q (inr (inr (inr c))) =
          rw c.1 (get_or-set_other s at j (get_or slots n 0) 0 (λ z. omega (arith, M.high, M.low)) ∙ M.same j (inr c.0))
