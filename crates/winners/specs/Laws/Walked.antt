-- The walks of one test enter the list: each step of the loop.
-- Assumes nothing.
use Rattle.std.specs.Prelude.{◌≡◌, refl, ◌⊎◌, true, false, length, get_or, ℤ}
use Rattle.std.proofs.Math.Path.{sym, ap, subst}
use Rattle.std.proofs.Common.{◌∙◌, arith, length-append, get_or-take}
use Rattle.std.proofs.Math.Logic.{inl, inr, ⊎_elim}
use mathlib.Core.List.{List, [], ◌∷◌, ◌++◌, append_assoc, append-nil}
use Rattle.std.proofs.Math.Option as option
use Prim.Native.Nat.{ℕ, zero, suc, ◌+◌, ◌-◌, ◌≤◌, ◌<◌}
use Rattle.std.proofs.Math.ListN.{take}
use Rattle.std.proofs.Math.IntN.{sub_ℕ}
use Rattle.std.specs.Int.Signed.{lt_z}
use Rattle.lists.specs.Parts.{those, each, last}
use Rattle.lists.specs.Rank.{enter, by}
use Rattle.lists.proofs.Laws.Cases.{by-test}
use Rattle.lists.specs.Laws.Member.{In, All}
use Rattle.lists.proofs.Laws.Member.{all_of, of-all, all_map, all_app, in-each, in_left, in_right}
use Rattle.lists.proofs.Laws.Join.{each-join}
use Rattle.lists.specs.Laws.Integer.{Within, Less}
use Rattle.lists.proofs.Laws.Integer.{less-within, not-less-within, less-not}
use Rattle.lists.specs.Laws.Ranking.{Both}
use Rattle.lists.proofs.Laws.Ranking.{both_at, both-length}
use Rattle.lists.specs.Laws.Top.{rank_top}
use Rattle.timing.specs.Table.{Table, test_count, test_data}
use Rattle.timing.specs.Structure.{structure, times, pins, tests, clock_pin, data_pin}
use Rattle.timing.specs.Paths.{Path, path, walks, test_paths}
use Rattle.timing.specs.Slack.{slack}
use Rattle.timing.specs.Value.{value_of, value, raise, lower}
use Rattle.timing.specs.Rows.{mode_of}
use Rattle.timing.specs.Check.{table_fault}
use Rattle.timing.proofs.Laws.Accepted.{accepted, accepted-level}
use Rattle.timing.proofs.Laws.Columns.{tests-is, data_is}
use Rattle.timing.proofs.Laws.Valued.{valued}
use Rattle.timing.specs.declared.Candidate.{Candidate}
use Rattle.timing.specs.Ranked.{list_after}
use Rattle.area.specs.Area.{plan}
use Rattle.arcs.specs.Sorting.{weighing}
use Rattle.laying.specs.Standing.{level, test_seed, Walks}
use Rattle.laying.specs.Bounds.{record_of, slack_of}
use Rattle.laying.specs.Laws.Prepared.{test-small}
use Rattle.walker.specs.declared.Cursor.{Cursor}
use Rattle.walker.specs.declared.State.TheVariants.{Found, Ended}
use Rattle.clocks.specs.Clocked.{Tested}
use Rattle.clocks.specs.Kept.{clocked-same}
use Rattle.ranked.specs.Laws.{after-length}
use Rattle.area.specs.Area.{turns_end}
use Rattle.walker.specs.Cursors.{Planned, begin_at, walk_of, found, coming, Kept}
use Rattle.walker.specs.Laws.Steps.{found-one, found-not}
use Rattle.walker.specs.Slots.{Keeps, Still}
use Rattle.walker.specs.Slots as kept_in
use Rattle.walker.specs.Laws.Gone.{begin-on}
use Rattle.walker.proofs.Laws.Gone.{begin-all}
use Rattle.walker.specs.Laws.Slots.{stands-turns, coming-aside, on-aside, still-slot}
use Rattle.lists.specs.Laws.Under.{Out}
use Rattle.lists.proofs.Laws.Under.{top-cut, top-enter, last-above}
use Rattle.winners.specs.declared.Best.{Best}
use Rattle.winners.specs.Held.{slack_in, Told, Holds, kept, nobody, Sized, Limit, Reach}
use Rattle.winners.specs.Walking.{At, Under, Nexts, paths_over, Gone, Going, Added}
use Rattle.winners.specs.Stored.{no_path, Shelf, Stored, Entered}
use Rattle.winners.specs.Laws.Entered.{holds-enter, tops}
use Rattle.winners.specs.Laws.Stored.{shelf-moved, stored-enter}

-- the test of a slack
pub less-below : (x h : ℤ) → Less x h → lt_z x h ≡ true
less-below x h l = by-test (lt_z x h) (λ e. e) (λ e. less-not x h l (not-less-within x h e))

not-below : (x h : ℤ) → Within 0 h x → lt_z x h ≡ false
not-below x h l = by-test (lt_z x h) (λ e. less-not x h (less-within x h e) l) (λ e. e)

-- the last of a list, by place
last-place : (d e : Path) (l : List Path) (n : ℕ) → length l ≡ suc n → last d l ≡ get_or l n e
unfolding last
last-place d e [] n h = absurd (omega arith)
last-place d e (x ∷ []) zero h = refl
last-place d e (x ∷ []) (suc n) h = absurd (omega arith)
last-place d e (x ∷ y ∷ l) zero h = absurd (omega arith)
last-place d e (x ∷ y ∷ l) (suc n) h = last-place x e (y ∷ l) n (omega arith)

module _ (t : Table) (mode j : ℕ) (h : table_fault t ≡ option.none) (l : j < test_count t) where
  -- a walk's slack is that of its value
  pub slack-valued : (u : List ℕ) → In u (walks (structure t) (data_pin (structure t) j))
      → slack_in t mode (path j u) ≡ slack_of t mode j (value_of (structure t) (weighing t mode) (test_seed t mode j) u)
  unfolding weighing
  slack-valued u i =
      let s = structure t in
      let x = times t in
      let m = mode_of mode in
      let a = accepted t h in
      let d : j < tests s = rw (tests-is t) l in
      subst (λ (f : ℕ → ℕ). slack m s x (path j u) ≡ sub_ℕ (value m f s x (clock_pin s j) u + raise m s x j) (lower m f s x j)) (accepted-level t h)
      (valued s a.sound x a.ranged m j d u i)

  pub value-small : (u : List ℕ) → In u (walks (structure t) (data_pin (structure t) j))
      → value_of (structure t) (weighing t mode) (test_seed t mode j) u < 1073741824
  value-small u i =
      let d : j < tests (structure t) = rw (tests-is t) l in
      test-small t mode j l h (data_pin (structure t) j) u ((accepted t h).sound.data-in j d) i

-- the last slack of a full list is that of the last path
pub last-slack : (t : Table) (mode k j : ℕ) (best : Best) (l : List Path) (d : Path) → Holds (slack_in t mode) k j best.serial best.list best.count l → 0 < k → best.count ≡ k
    → (get_or best.list (k - 1) nobody).slack ≡ slack_in t mode (last d l)
last-slack t mode k j best l d H p e =
    let n : length l ≡ suc (k - 1) = omega (arith, H.counted) in
    let m = both-length (Told (slack_in t mode) j best.serial) (take best.count best.list) l H.both in
    let r = both_at (Told (slack_in t mode) j best.serial) (take best.count best.list) l H.both (k - 1) (omega arith) nobody d in
    ap (λ (c : Candidate). c.slack) (sym (get_or-take best.count best.list (k - 1) nobody (omega arith))) ∙ r.slack ∙ ap (slack_in t mode) (sym (last-place d d l (k - 1) n))

-- a path that is not below the hint, or not below the last slack of a full list, changes nothing
pub out_of : (t : Table) (mode k j : ℕ) (hint : ℤ) (best : Best) (l : List Path) (q : Path) → Holds (slack_in t mode) k j best.serial best.list best.count l → 0 < k
    → Within 0 hint (slack_in t mode q) ⊎ ((best.count ≡ k) × Within 0 (get_or best.list (k - 1) nobody).slack (slack_in t mode q)) → Out (slack_in t mode) hint k l q
out_of t mode k j hint best l q H p (inl a) = inl (not-below (slack_in t mode q) hint a)
out_of t mode k j hint best l q H p (inr a) =
    inr (sym H.counted ∙ a.0, last-above (slack_in t mode) no_path q l H.sorted (rw (← (last-slack t mode k j best l no_path H p a.0)) a.1))

module _ (t : Table) (mode j : ℕ) (w₀ : List ℕ) (W : Walks t mode j w₀) where
  pub slack-is : (u : List ℕ) → In u (walks (structure t) (data_pin (structure t) j))
      → slack_in t mode (path j u) ≡ slack_of t mode j (value_of (structure t) (weighing t mode) (test_seed t mode j) u)
  slack-is = slack-valued t mode j W.sown.prepared.clocked.ready.checked W.test

  pub value_low : (u : List ℕ) → In u (walks (structure t) (data_pin (structure t) j))
      → value_of (structure t) (weighing t mode) (test_seed t mode j) u < 1073741824
  value_low = value-small t mode j W.sown.prepared.clocked.ready.checked W.test

  module _ (k : ℕ) (hint : ℤ) where
    -- the walks left out change nothing
    nexts-same : (best : Best) (l : List Path) (w v : List ℕ) (b c : Cursor) → Holds (slack_in t mode) k j best.serial best.list best.count l → 0 < k
        → Nexts t mode j k hint best w b v c → ((u : List ℕ) → In u (coming (structure t) w b) → In u (walks (structure t) (data_pin (structure t) j)))
        → rank_top (by (slack_in t mode)) k l (paths_over t mode j hint (coming (structure t) w b))
        ≡ rank_top (by (slack_in t mode)) k l (paths_over t mode j hint (found v c ++ coming (structure t) v c))
    nexts-same best l w v b c H p N inside =
        let s = structure t in
        let key = slack_in t mode in
        let P = N.went.passed in
        let rest = found v c ++ coming s v c in
        let out : All (Out key hint k l) (each (path j) P.cut) =
        of-all (Out key hint k l) (each (path j) P.cut)
        (λ q i.
        let r = in-each (path j) q P.cut i in
        let u = r.0 in
        let iu : In u (walks s (data_pin s j)) = inside u (rw P.is (in_left u P.cut rest r.1)) in
        let e : key q ≡ slack_of t mode j (value_of s (weighing t mode) (test_seed t mode j) u) = ap key r.2 ∙ slack-is u iu in
        let o = all_of (λ u. (N.bound ≤ value_of s (weighing t mode) (test_seed t mode j) u) × (c.out ≤ value_of s (weighing t mode) (test_seed t mode j) u)) P.cut P.out u r.1 in
        out_of t mode k j hint best l q H p (rw e (N.is.over (value_of s (weighing t mode) (test_seed t mode j) u) (value_low u iu) o.0))) in
        rw (P.is, each-join (path j) P.cut rest) (top-cut key hint k l (each (path j) P.cut) (each (path j) rest) out)

    -- a walk that was found stands in what was to come
    found-low : (best : Best) (w v : List ℕ) (b c : Cursor) → Nexts t mode j k hint best w b v c → (x : ℕ) → c.state ≡ Found x
        → Less (slack_of t mode j x) hint × (best.count ≡ k → Less (slack_of t mode j x) (get_or best.list (k - 1) nobody).slack)
    found-low best w v b c N x h = N.is.under x (N.went.passed.value x h).1

    values : (best : Best) (w v : List ℕ) (b c : Cursor) → Nexts t mode j k hint best w b v c
        → (x : ℕ) → c.state ≡ Found x → x ≡ value_of (structure t) (weighing t mode) (test_seed t mode j) (walk_of v c)
    values best w v b c N x h = (N.went.passed.value x h).0

    -- turns leave the slots
    stored-turns : (w v slots : List ℕ) (l : List Path) → Shelf slots → length l ≤ 16 → Kept w v → Stored w slots l → Stored v slots l
    stored-turns w v slots l F n K S i h = stands-turns (get_or slots i 0) w v (get_or l i no_path).walk (F.inside i (omega arith)) K (S i h)

    -- those left out are not below the least that was passed over
    passed-by : (best : Best) (w v : List ℕ) (b c : Cursor) (N : Nexts t mode j k hint best w b v c) → All (λ u. Gone t mode j hint c.out u) N.went.passed.cut
    passed-by best w v b c N =
        all_map (λ u. (N.bound ≤ value_of (structure t) (weighing t mode) (test_seed t mode j) u) × (c.out ≤ value_of (structure t) (weighing t mode) (test_seed t mode j) u))
        (λ u. Gone t mode j hint c.out u) (λ u a. inr a.1) N.went.passed.cut N.went.passed.out

    -- before the first
    pub going-head : (best : Best) (w : List ℕ) (b c : Cursor) → Sized k best → Shelf best.slots
        → coming (structure t) w₀ b ≡ walks (structure t) (data_pin (structure t) j) → Nexts t mode j k hint best w₀ b w c
        → Going t mode j k hint w best w best c
    going-head best w b c S F e N =
        let P = N.went.passed in
        record {
          at = N.went.on;
          sized = S;
          shelf = F;
          ended = N.ended;
          done = P.done;
          taken = P.taken;
          part = (P.cut, sym e ∙ P.is);
          past = passed-by best w₀ w b c N;
          value = values best w₀ w b c N;
          low = found-low best w₀ w b c N;
          now = λ l H D. record {
            has = l;
            holds = H;
            stored = D;
            same = sym (nexts-same best l w₀ w b c H S.some N (λ u i. rw e at i)) ∙ ap (λ (r : List (List ℕ)). rank_top (by (slack_in t mode)) k l (paths_over t mode j hint r)) e;
          };
        }

    -- what holds from the loop's head on holds from the start on
    pub added-start : (h₀ : List ℕ) (best₀ : Best) (w : List ℕ) (best : Best)
        (out : ℕ) → Kept w₀ h₀ → Sized k best₀ → Shelf best₀.slots → Added t mode j k hint h₀ best₀ w best out
        → Added t mode j k hint w₀ best₀ w best out
    added-start h₀ best₀ w best out K S F A =
        record {
          sized = A.sized;
          shelf = A.shelf;
          past = A.past;
          adds = λ l H D. A.adds l H (stored-turns w₀ h₀ best₀.slots l F (omega (arith, H.few, S.most)) K D);
        }

    module _ (h₀ : List ℕ) (best₀ : Best) (w : List ℕ) (best : Best) (c : Cursor)
        (G : Going t mode j k hint h₀ best₀ w best c) where
      -- behind the last
      pub going_end : c.state ≡ Ended → Added t mode j k hint h₀ best₀ w best c.out
      unfolding test_paths those each rank_top
      going_end h =
          record {
            sized = G.sized;
            shelf = G.shelf;
            past = λ u i. all_of (λ u. Gone t mode j hint c.out u) G.part.0 G.past u (rw (G.part.1, found-not w c h, G.done h, append-nil G.part.0) at i);
            adds = λ l H D.
                let N = G.now l H D in
                let e : rank_top (by (slack_in t mode)) k l (paths_over t mode j hint (walks (structure t) (data_pin (structure t) j))) ≡ N.has =
                sym (rw (found-not w c h, G.done h) at N.same) in
                rw e (N.holds, N.stored);
          }

      -- the slot that is free
      pub free-low : get_or best.slots (kept k best.count) 0 < 16
      free-low = G.shelf.inside (kept k best.count) (omega (arith, G.sized.few, G.sized.some, G.sized.most))

      pub asks-keep : (x : ℕ) → c.state ≡ Found x → Keeps w c (get_or best.slots (kept k best.count) 0)
      asks-keep x h =
          record {
            ready = record { of = structure t; weight = weighing t mode; seed = test_seed t mode j; on = G.at };
            taken = G.taken x h;
            inside = free-low;
          }

      module _ (x : ℕ) (h : c.state ≡ Found x) where
        -- the walk that was found
        abbrev one : List ℕ
        one = walk_of w c

        one-is : found w c ≡ one ∷ []
        one-is = found-one w c x h

        one_value : x ≡ value_of (structure t) (weighing t mode) (test_seed t mode j) one
        one_value = G.value x h

        inside : (u : List ℕ) → In u (one ∷ coming (structure t) w c) → In u (walks (structure t) (data_pin (structure t) j))
        inside u i = rw (G.part.1, one-is) (in_right u G.part.0 (one ∷ coming (structure t) w c) i)

        one-slack : slack_in t mode (path j one) ≡ slack_of t mode j x
        one-slack = slack-is one (inside one (inl refl)) ∙ ap (slack_of t mode j) (sym one_value)

        pub found-small : x < 1073741824
        found-small = rw one_value (value_low one (inside one (inl refl)))

        told : Told (slack_in t mode) j best.serial (record_of t mode j x best.serial) (path j one)
        told = record { slack = sym one-slack; of = refl; tests = omega arith; serials = omega arith }

        later : (serial' : ℕ) → best.serial ≤ serial' → (l : List Candidate) (m : List Path) → Both (Told (slack_in t mode) j best.serial) l m → Both (Told (slack_in t mode) j serial') l m
        later serial' q [] [] b = tt
        later serial' q [] (y ∷ m) b = absurd b
        later serial' q (x ∷ l) [] b = absurd b
        later serial' q (x ∷ l) (y ∷ m) b =
            (record { slack = b.0.slack; of = b.0.of; tests = b.0.tests; serials = omega (arith, b.0.serials) }, later serial' q l m b.1)

        low-last : (l : List Path) → Holds (slack_in t mode) k j best.serial best.list best.count l → best.count ≡ k → Less (slack_in t mode (path j one)) (slack_in t mode (last no_path l))
        low-last l H e = rw (one-slack, ← (last-slack t mode k j best l no_path H G.sized.some e)) ((G.low x h).1 e)

        -- kept in the free slot, and entered
        module _ (u : List ℕ) (K : kept_in.Kept (get_or best.slots (kept k best.count) 0) w c.depth c.place u) (best' : Best)
            (E : Entered k (record_of t mode j x best.serial) best best') where
          same-coming : coming (structure t) u c ≡ coming (structure t) w c
          same-coming = coming-aside (get_or best.slots (kept k best.count) 0) w u free-low K.aside (structure t) c

          holds_on : (l : List Path) → Holds (slack_in t mode) k j best.serial best.list best.count l
              → Holds (slack_in t mode) k j best'.serial best'.list best'.count (take k (enter (by (slack_in t mode)) (path j one) l))
          holds_on l H =
              let M =
              holds-enter (slack_in t mode) k j best l no_path (record_of t mode j x best.serial) (path j one) G.sized H told refl refl (low-last l H) in
              rw (E.list-is, E.count-is)
              (record {
                places = M.places;
                counted = M.counted;
                few = M.few;
                both = later best'.serial E.later (take (kept k best.count + 1) (list_after best.list (kept k best.count) (record_of t mode j x best.serial))) (take k (enter (by (slack_in t mode)) (path j one) l)) M.both;
                sorted = M.sorted;
              })

          stored_on : (l : List Path) → Holds (slack_in t mode) k j best.serial best.list best.count l → Stored w best.slots l → Stored u best'.slots (take k (enter (by (slack_in t mode)) (path j one) l))
          stored_on l H D =
              stored-enter (slack_in t mode) k j best l (record_of t mode j x best.serial) (path j one) w u best'.slots E.place G.sized H told refl refl
              (tops (slack_in t mode) k j best l no_path (path j one) G.sized H (low-last l H)) G.shelf D K.aside K.stands E.at E.moved

          pub sized_on : Sized k best'
          sized_on =
              let S = G.sized in
              record {
                places = ap length E.list-is ∙ after-length best.list (kept k best.count) (record_of t mode j x best.serial) ∙ S.places;
                few = omega (arith, E.count-is, S.few, S.some);
                some = S.some;
                most = S.most;
              }

          pub shelf-on : Shelf best'.slots
          shelf-on =
              shelf-moved best.slots E.place (kept k best.count) best'.slots E.at.most (omega (arith, G.sized.few, G.sized.some, G.sized.most)) G.shelf E.moved

          pub at_on : At t mode j u c
          at_on = on-aside (get_or best.slots (kept k best.count) 0) w u free-low K.aside (structure t) (weighing t mode) (test_seed t mode j) c G.at

          pub still-on : Still w u
          still-on = still-slot (get_or best.slots (kept k best.count) 0) w u free-low K.aside

          -- on to the next
          pub going_more : (v : List ℕ) (d : Cursor) → Nexts t mode j k hint best' u c v d
              → Going t mode j k hint h₀ best₀ v best' d
          unfolding each
          going_more v d N =
              let s = structure t in
              let P = N.went.passed in
              let key = slack_in t mode in
              let is : coming s w c ≡ P.cut ++ (found v d ++ coming s v d) = sym same-coming ∙ P.is in
              record {
                at = N.went.on;
                sized = sized_on;
                shelf = shelf-on;
                ended = N.ended;
                done = P.done;
                taken = P.taken;
                part = (
                  G.part.0 ++ (one ∷ P.cut),
                  G.part.1 ∙ rw (one-is, is) (sym (append_assoc G.part.0 (one ∷ P.cut) (found v d ++ coming s v d))),
                );
                past = all_app (λ a. Gone t mode j hint d.out a) G.part.0 (one ∷ P.cut)
                    (all_map (λ a. Gone t mode j hint c.out a) (λ a. Gone t mode j hint d.out a)
                    (λ a g. ⊎_elim (λ b. inl b) (λ b. inr (omega (arith, N.went.falls))) g) G.part.0 G.past)
                    (inl (rw (← one_value) (G.low x h).0), passed-by best' u v c d N);
                value = values best' u v c d N;
                low = found-low best' u v c d N;
                now = λ l H D.
                    let M = G.now l H D in
                    let has' = take k (enter (by key) (path j one) M.has) in
                    let J = holds_on M.has M.holds in
                    record {
                      has = has';
                      holds = J;
                      stored = stored-turns u v best'.slots has' shelf-on (omega (arith, J.few, G.sized.most)) N.went.kept (stored_on M.has M.holds M.stored);
                      same = sym (nexts-same best' has' u v c d J G.sized.some N (λ a i. inside a (inr (rw same-coming at i))))
                          ∙ ap (λ (r : List (List ℕ)). rank_top (by key) k has' (paths_over t mode j hint r)) same-coming
                          ∙ sym (top-enter key hint k M.has (path j one) (each (path j) (coming s w c)) (rw one-slack (less-below (slack_of t mode j x) hint (G.low x h).0)))
                          ∙ (rw one-is at M.same);
                    };
              }

          -- with less to come
          pub going_less : (v : List ℕ) (d : Cursor) → Nexts t mode j k hint best' u c v d
              → length (found v d ++ coming (structure t) v d) < length (found w c ++ coming (structure t) w c)
          going_less v d N =
              let P = N.went.passed in
              let s = structure t in
              rw one-is (omega (arith, ap length same-coming, ap length P.is, length-append P.cut (found v d ++ coming s v d)))

-- ---- what a test's walks ask

module _ (t : Table) (mode j : ℕ) (w : List ℕ) (W : Walks t mode j w) where
  -- the clock side stays
  pub tested-still : (v : List ℕ) → Still w v → Tested t v j
  tested-still v K =
      record { clocked = clocked-same t w v K.long (λ i h l. K.same i (omega arith) l) W.sown.prepared.clocked; inside = W.test }

  planned : Planned (structure t) (weighing t mode) (test_seed t mode j) (plan w)
  planned =
      let a = accepted t W.sown.prepared.clocked.ready.checked in
      record {
        ok = a.sound;
        few-arcs = W.sown.laid.ordered.few-arcs;
        by-arcs = W.sown.laid.by-arcs;
        by-seeds = W.sown.laid.by-seeds;
      }

  data-here : test_data t j < pins (structure t)
  data-here =
      let h = W.sown.prepared.clocked.ready.checked in
      let d : j < tests (structure t) = rw (tests-is t) W.test in
      rw (data_is t j W.test) at ((accepted t h).sound.data-in j d)

  pub data-asks : (test_data t j < 256) × (turns_end ≤ length w)
  data-asks = (omega (arith, data-here, planned.ok.few-pins), omega (arith, W.sown.prepared.clocked.ready.room))

  -- before the first walk
  pub begins : At t mode j w (begin_at w (test_data t j))
  begins = begin-on (structure t) (weighing t mode) (test_seed t mode j) w (test_data t j) planned data-here W.lower data-asks.1

  pub begins-all : coming (structure t) w (begin_at w (test_data t j)) ≡ walks (structure t) (data_pin (structure t) j)
  begins-all =
      begin-all (structure t) (weighing t mode) (test_seed t mode j) w (test_data t j) planned data-here ∙ ap (walks (structure t)) (sym (data_is t j W.test))

-- the bound from the limit
pub under-is : (t : Table) (mode j k : ℕ) (hint : ℤ) (best : Best) (limit : ℤ) (x y r : ℕ)
    → x ≡ raise (mode_of mode) (structure t) (times t) j → y ≡ lower (mode_of mode) level (structure t) (times t) j
    → Limit k hint best limit → Reach x y limit r → Under t mode j k hint best r
under-is t mode j k hint best limit x y r e f L R =
    record {
      most = R.most;
      under = λ v l. L.under (slack_of t mode j v) (rw (e, f) at (R.under v l));
      over = λ v s l. L.over (slack_of t mode j v) (rw (e, f) at (R.over v s l));
    }
