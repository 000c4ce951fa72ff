-- One test after the other; and what the list holds behind the last.
-- Assumes nothing.
use Rattle.std.specs.Prelude.{◌≡◌, ◌⊎◌, ℤ, pos, length, get_or, set, take, drop}
use Rattle.std.proofs.Math.Path.{refl, sym, ap}
use Rattle.std.proofs.Common.{subst, ◌∙◌, length-set, length-drop, ext_get_or, get_or-set_same, get_or-set_other}
use Rattle.std.proofs.Math.Logic.{inl, inr, ⊎_elim}
use Rattle.std.proofs.Math.Bool.{true}
use mathlib.Core.List.{List, [], ◌∷◌, append-nil}
use Prim.Native.Nat.{ℕ, ◌+◌, ◌-◌, ◌*◌, ◌≤◌, ◌<◌, min}
use native.Mathlib.Omega.{arith}
use Rattle.std.proofs.Math.ListN.{length-take}
use Rattle.std.proofs.Math.Decide.{ℕ_discrete}
use Rattle.lists.specs.Parts.{those, each, gather}
use Rattle.lists.specs.Parts as parts
use Rattle.lists.specs.Rank.{by}
use Rattle.lists.specs.Laws.Member.{In, All, Pairs}
use Rattle.lists.proofs.Laws.Member.{of-all, in_either, in-each, those-cong, those-all, pairs-all, pairs-map, pairs-gather, pairs_below}
use Rattle.lists.proofs.Laws.Join.{gather-more, those-join}
use Rattle.lists.specs.Laws.Ranking.{Both}
use Rattle.lists.proofs.Laws.Ranks.{top-append}
use Rattle.lists.specs.Laws.Top.{rank_top}
use Rattle.timing.specs.Table.{Table, test_count}
use Rattle.timing.specs.Structure.{structure, times, tests, data_pin}
use Rattle.timing.specs.Paths.{Path, path, walks, test_paths, paths}
use Rattle.timing.specs.Slack.{ranked}
use Rattle.timing.specs.Rows.{mode_of, first_paths}
use Rattle.timing.proofs.Laws.Accepted.{accepted}
use Rattle.timing.proofs.Laws.Columns.{tests-is}
use Rattle.timing.specs.declared.Candidate.{Candidate}
use Rattle.laying.specs.Laws.Prepared.{prepared-same}
use Rattle.area.specs.Area.{plan, counts_at}
use Rattle.area.specs.Laws.Plan.{plan-at}
use Rattle.arcs.specs.Sorting.{weighing}
use Rattle.laying.specs.Standing.{level, test_seed, Prepared, Lay}
use Rattle.walker.specs.Slots.{Stands, Still}
use Rattle.lists.specs.Laws.Under.{below, Out}
use Rattle.lists.proofs.Laws.Under.{top-cut, top-is}
use Rattle.lists.specs.Laws.Falling.{kept, Near, Falls}
use Rattle.lists.proofs.Laws.Falling.{top-falling}
use Rattle.winners.specs.declared.Best.{Best}
use Rattle.winners.specs.declared.Found.{Found}
use Rattle.winners.specs.declared.Hints.{Hints}
use Rattle.winners.specs.Held.{slack_in, Told, Limit}
use Rattle.winners.specs.Stored.{no_path, Stored}
use Rattle.winners.specs.Walking.{Added}
use Rattle.laying.specs.Bounds.{slack_of}
use Rattle.winners.specs.Laws.Walked.{less-below, slack-is, value_low, slack-valued, out_of}
use Rattle.timing.specs.Value.{value_of, raise, lower}
use Rattle.lists.specs.Choice.{pick}
use Rattle.lists.proofs.Laws.Cases.{by-test}
use Rattle.lists.specs.Laws.Integer.{Within, Less}
use Rattle.lists.proofs.Laws.Integer.{sub_within, le-within}
use Rattle.timing.proofs.Laws.Bounds.{slack-bounds}
use Rattle.std.proofs.Math.Dec.{ltb}
use Rattle.std.specs.Int.Signed.{lt_z}
use borrow.Author.Tests.{lt-ltb, ltb-true}
use Rattle.winners.specs.Finding.{hint_at, OneApart, first_to, Finding, Searching, Tries, Finished, Round, Won, Nothing, Numbered}

-- the plan stands between the slots and the least values
plan-same : (w v : List ℕ) → length v ≡ length w → ((i : ℕ) → 4096 ≤ i → i < counts_at → get_or v i 0 ≡ get_or w i 0) → plan v ≡ plan w
plan-same w v n same =
    ext_get_or 0 (plan v) (plan w) same_length
    (λ i l. let h : i < 1537 = omega (arith, short v, l) in plan-at v i h ∙ same (4096 + i) (omega arith) (omega arith) ∙ sym (plan-at w i h))
  where
    same_length : length (plan v) ≡ length (plan w)
    same_length = unfold plan in simp (length-take, length-drop) (ap (λ (n : ℕ). min 1537 (n - 4096)) n)

    short : (u : List ℕ) → length (plan u) ≤ 1537
    short u = unfold plan in omega (arith, length-take 1537 (drop 4096 u))

-- ---- one test more

module _ (t : Table) (mode k : ℕ) (hint : ℕ → ℤ) where
  first-none : first_to t mode k hint 0 ≡ []
  unfolding first_to gather parts.below those rank_top
  first-none = refl

  -- those of one test are those below its hint
  those-test : (n : ℕ) → those (kept (slack_in t mode) (λ (p : Path). hint p.test)) (test_paths (structure t) n) ≡ those (below (slack_in t mode) (hint n)) (test_paths (structure t) n)
  unfolding test_paths
  those-test n =
      those-cong (kept (slack_in t mode) (λ (p : Path). hint p.test)) (below (slack_in t mode) (hint n)) (test_paths (structure t) n)
      (λ p i.
      let r = in-each (path n) p (walks (structure t) (data_pin (structure t) n)) i in
      ap (λ (j : ℕ). lt_z (slack_in t mode p) (hint j)) (ap (λ (q : Path). q.test) r.2))

  first_more : (n : ℕ) → rank_top (by (slack_in t mode)) k (first_to t mode k hint n) (those (below (slack_in t mode) (hint n)) (test_paths (structure t) n)) ≡ first_to t mode k hint (n + 1)
  unfolding first_to
  first_more n =
      let key = slack_in t mode in
      let in-hint = kept key (λ (p : Path). hint p.test) in
      let l = gather (test_paths (structure t)) (parts.below n) in
      ap (rank_top (by key) k (rank_top (by key) k [] (those in-hint l))) (sym (those-test n))
      ∙ sym (top-append (by key) k [] (those in-hint l) (those in-hint (test_paths (structure t) n)))
      ∙ ap (rank_top (by key) k []) (sym (those-join in-hint l (test_paths (structure t) n)) ∙ ap (those in-hint) (sym (gather-more (test_paths (structure t)) n)))

  later : (test serial : ℕ) (l : List Candidate) (m : List Path) → Both (Told (slack_in t mode) test serial) l m → Both (Told (slack_in t mode) (test + 1) serial) l m
  later test serial [] [] b = tt
  later test serial [] (y ∷ m) b = absurd b
  later test serial (x ∷ l) [] b = absurd b
  later test serial (x ∷ l) (y ∷ m) b =
      (record { slack = b.0.slack; of = b.0.of; tests = omega (arith, b.0.tests); serials = b.0.serials }, later test serial l m b.1)

  pub finding-none : (w : List ℕ) (best : Best) → 0 < k → k ≤ 16 → Prepared t mode w → Nothing best → Finding t mode k hint 0 w best
  finding-none w best a b P N =
      record {
        prepared = P;
        sized = record { places = N.places; few = omega (arith, N.none); some = a; most = b };
        shelf = record {
          places = N.numbered.long;
          inside = λ i h. rw (N.numbered.each i h) h;
          apart = λ i q h g e. sym (N.numbered.each i h) ∙ e ∙ N.numbered.each q g;
        };
        holds = rw first-none (record { places = N.places; counted = N.none; few = omega arith; both = rw N.none tt; sorted = tt });
        stored = rw first-none (λ i h. absurd (omega arith));
      }

  pub finding-more : (j : ℕ) (w u v : List ℕ) (best best' : Best) (out : ℕ)
      → Finding t mode k hint j w best → Lay t mode j w u → Added t mode j k (hint j) u best v best' out → Still u v
      → Finding t mode k hint (j + 1) v best'
  finding-more j w u v best best' out F L A K =
      let H = F.holds in
      let P = L.walks.sown.prepared in
      let e : plan v ≡ plan u = plan-same u v K.long (λ i a b. K.same i a (omega arith)) in
      let D : Stored u best.slots (first_to t mode k hint j) =
      λ i h. moved (get_or best.slots i 0) (get_or (first_to t mode k hint j) i no_path).walk (F.shelf.inside i (omega (arith, H.few, F.sized.most))) (F.stored i h) in
      let R = A.adds (first_to t mode k hint j) H D in
      let M = R.0 in
      record {
        prepared = prepared-same t mode u v K.long (λ i a b. K.same i a (omega arith)) (λ i a b. K.same i (omega arith) b) P;
        sized = A.sized;
        shelf = A.shelf;
        holds = rw (← first_more j)
            (record {
              places = M.places;
              counted = M.counted;
              few = M.few;
              both = later j best'.serial (take best'.count best'.list) (rank_top (by (slack_in t mode)) k (first_to t mode k hint j) (those (below (slack_in t mode) (hint j)) (test_paths (structure t) j))) M.both;
              sorted = M.sorted;
            });
        stored = rw (← first_more j) R.1;
      }
    where
      moved : (slot : ℕ) (x : List ℕ) → slot < 16 → Stands w slot x → Stands u slot x
      moved slot x h S =
          record {
            count = L.slots (slot * 256) (omega arith) ∙ S.count;
            few = S.few;
            arcs = λ i l. L.slots (slot * 256 + 1 + i) (omega (arith, S.few)) ∙ S.arcs i l;
          }

-- ---- behind the last

-- all paths of the tests below n, in the order of the tie rule
unfoldable pub all_to : Table → ℕ → List Path
all_to t n = gather (test_paths (structure t)) (parts.below n)

-- the hints fall along them
module _ (t : Table) (mode : ℕ) (hints : Hints) (near : OneApart hints) where
  abbrev pub hint_of : Path → ℤ
  hint_of p = hint_at hints p.test

  hint-near : (p : Path) → Near hint_of hints.low p
  unfolding hint_at pick
  hint-near p = by-test (ltb hints.last p.test) (λ e. rw e (omega arith, omega arith)) (λ e. rw e near)

  hint-falls : (p q : Path) → p.test ≤ q.test → Falls hint_of p q
  unfolding hint_at pick
  hint-falls p q h =
      by-test (ltb hints.last p.test)
      (λ e. let f : ltb hints.last q.test ≡ true = lt-ltb hints.last q.test (omega (arith, ltb-true hints.last p.test e)) in rw (e, f) (omega arith))
      (λ e. by-test (ltb hints.last q.test) (λ f. rw (e, f) near.0) (λ f. rw (e, f) (omega arith)))

  of_test : (n : ℕ) (p : Path) → In p (test_paths (structure t) n) → p.test ≡ n
  unfolding test_paths
  of_test n p i = ap (λ (q : Path). q.test) (in-each (path n) p (walks (structure t) (data_pin (structure t) n)) i).2

  falls : (n : ℕ) → Pairs (Falls hint_of) (all_to t n)
  unfolding all_to
  falls n =
      pairs-gather (Falls hint_of) (test_paths (structure t)) (parts.below n)
      (λ j i. pairs-all (Falls hint_of) (test_paths (structure t) j) (λ p q a b. hint-falls p q (omega (arith, of_test j p a, of_test j q b))))
      (pairs-map ◌<◌ (λ i j. (p q : Path) → In p (test_paths (structure t) i) → In q (test_paths (structure t) j) → Falls hint_of p q)
      (λ i j h p q a b. hint-falls p q (omega (arith, of_test i p a, of_test j q b))) (parts.below n) (pairs_below n))

  -- where k paths are found, or all are below their hints, the list holds the first k of all paths
  pub first_found : (k : ℕ) → (length (first_to t mode k (hint_at hints) (test_count t)) ≡ k)
      ⊎ All (λ p. kept (slack_in t mode) hint_of p ≡ true) (all_to t (test_count t))
      → first_to t mode k (hint_at hints) (test_count t) ≡ first_paths (mode_of mode) (structure t) (times t) k
  unfolding first_to first_paths ranked paths all_to
  first_found k (inl e) =
      rw (← tests-is t)
      (top-falling (slack_in t mode) hint_of hints.low k (all_to t (tests (structure t))) (falls (tests (structure t)))
      (of-all (Near hint_of hints.low) (all_to t (tests (structure t))) (λ p i. hint-near p))
      (rw (← tests-is t) at e))
  first_found k (inr a) =
      rw (← tests-is t)
      (rw (those-all (kept (slack_in t mode) hint_of) (all_to t (tests (structure t))) (rw (← tests-is t) at a)) (top-is (slack_in t mode) k (all_to t (tests (structure t)))))

-- ---- the slots, numbered

pub numbered_more : (n : ℕ) (s : List ℕ) → n < 16 → Numbered n s → Numbered (n + 1) (set s n n)
numbered_more n s h N =
    record {
      long = length-set s n n ∙ N.long;
      each = λ i l. elim (ℕ_discrete i n) [
        | yes e ↦ rw e (get_or-set_same s n n 0 (omega (arith, N.long)))
        | no e ↦ get_or-set_other s n i n 0 (λ z. e (omega arith)) ∙ N.each i (omega arith)
      ];
    }

-- a value as a slack
pub slack-of : (t : Table) (mode j value : ℕ) (v : ℕ) → value ≤ v → Within 0 (slack_of t mode j value) (slack_of t mode j v)
slack-of t mode j value v h =
    let m = mode_of mode in
    let s = structure t in
    let x = times t in
    sub_within 0 (value + raise m s x j) (lower m level s x j) (v + raise m s x j) (lower m level s x j) (omega arith)

-- ---- what was passed over

module _ (t : Table) (mode k : ℕ) (hint : ℕ → ℤ) where
  pub searching-none : (w : List ℕ) (found : Found) → 0 < k → k ≤ 16 → Prepared t mode w → Nothing found.best → Searching t mode k hint 0 w found
  unfolding gather parts.below
  searching-none w found a b P N = record { finding = finding-none t mode k hint w found.best a b P N; past = λ p i. absurd i }

  pub searching-more : (j : ℕ) (w u v : List ℕ) (found : Found) (best' : Best) (least : ℕ) (slack : ℤ)
      → Searching t mode k hint j w found → Lay t mode j w u → Added t mode j k (hint j) u found.best v best' least → Still u v
      → ((v : ℕ) → v < 1073741824 → least ≤ v → Within 0 slack (slack_of t mode j v))
      → (out' : ℤ) → Within 0 out' found.out → Within 0 out' slack → Searching t mode k hint (j + 1) v (record { best = best'; out = out' })
  searching-more j w u v found best' least slack S L A K f out' old new-out =
      let s = structure t in
      record {
        finding = finding-more t mode k hint j w u v found.best best' least S.finding L A K;
        past = λ p i.
            ⊎_elim (λ a. ⊎_elim (λ b. inl b) (λ b. inr (omega arith)) (S.past p a))
            (λ a. new p a new-out)
            (in_either p (gather (test_paths s) (parts.below j)) (test_paths s j) (rw (gather-more (test_paths s) j) at i));
      }
    where
      new : (p : Path) → In p (test_paths (structure t) j) → Within 0 out' slack → Less (slack_in t mode p) (hint p.test) ⊎ Within 0 out' (slack_in t mode p)
      new p a lo = unfold test_paths in
          let r = in-each (path j) p (walks (structure t) (data_pin (structure t) j)) a in
          let x = value_of (structure t) (weighing t mode) (test_seed t mode j) r.0 in
          let z : slack_in t mode p ≡ slack_of t mode j x = ap (slack_in t mode) r.2 ∙ slack-is t mode j u L.walks r.0 r.1 in
          let y : p.test ≡ j = ap (λ (q : Path). q.test) r.2 in
          let g : Less (slack_in t mode p) (hint j) ⊎ Within 0 out' (slack_in t mode p) =
          rw z
          (⊎_elim (λ b. inl b) (λ b. let g = f x (value_low t mode j u L.walks r.0 r.1) b in inr (omega arith)) (A.past r.0 r.1)) in
          ⊎_elim (λ b. inl (subst (λ (i : ℕ). Less (slack_in t mode p) (hint i)) (sym y) b)) inr g

  -- a test that is left out: each of its paths is not below the hint, or not below the last slack of a full list
  pub searching-skip : (j bound : ℕ) (w : List ℕ) (found : Found) (limit : ℤ) → Tries t mode k hint j bound w found
      → Limit k (hint j) found.best limit → Within 0 limit (slack_of t mode j bound)
      → (out' : ℤ) → Within 0 out' found.out → Within 0 out' (slack_of t mode j bound) → Searching t mode k hint (j + 1) w (record found { out = out' })
  unfolding test_paths those each rank_top weighing
  searching-skip j bound w found limit T L g out' old first =
      let s = structure t in
      let F = T.searching.finding in
      let H = F.holds in
      let l = first_to t mode k hint j in
      let h = F.prepared.clocked.ready.checked in
      let P = test_paths s j in
      let above : (p : Path) → In p P → Within 0 (slack_of t mode j bound) (slack_in t mode p) =
      λ p i.
      let r = in-each (path j) p (walks s (data_pin s j)) i in
      rw (ap (slack_in t mode) r.2 ∙ slack-valued t mode j h T.test r.0 r.1)
      (slack-of t mode j bound (value_of s (weighing t mode) (test_seed t mode j) r.0) (T.bounds.least r.0 r.1)) in
      let out : All (Out (slack_in t mode) (hint j) k l) P =
      of-all _ P (λ p i. out_of t mode k j (hint j) found.best l p H F.sized.some (L.over (slack_in t mode p) (omega (arith, above p i)))) in
      let z : rank_top (by (slack_in t mode)) k l (those (below (slack_in t mode) (hint j)) P) ≡ l =
      rw (append-nil P) at (top-cut (slack_in t mode) (hint j) k l P [] out) in
      let y : first_to t mode k hint (j + 1) ≡ l = sym (first_more t mode k hint j) ∙ z in
      record {
        finding = record {
          prepared = F.prepared;
          sized = F.sized;
          shelf = F.shelf;
          holds = rw y (record { places = H.places; counted = H.counted; few = H.few; both = later t mode k hint j found.best.serial (take found.best.count found.best.list) l H.both; sorted = H.sorted });
          stored = rw y F.stored;
        };
        past = λ p i.
            ⊎_elim (λ a. ⊎_elim (λ b. inl b) (λ b. inr (omega arith)) (T.searching.past p a))
            (λ a. inr (omega (arith, above p a)))
            (in_either p (gather (test_paths s) (parts.below j)) P (rw (gather-more (test_paths s) j) at i));
      }

-- ---- when it is the answer

-- a full list, or nothing passed over that a slack can be, or hints above every slack: the list holds the first k of all paths
pub searched : (t : Table) (mode k : ℕ) (hints : Hints) (w : List ℕ) (found : Found)
    → OneApart hints → Searching t mode k (hint_at hints) (test_count t) w found
    → (found.best.count ≡ k) ⊎ (Less (pos 257000000) found.out ⊎ Less (pos 257000000) hints.low)
    → first_to t mode k (hint_at hints) (test_count t) ≡ first_paths (mode_of mode) (structure t) (times t) k
searched t mode k hints w found near S (inl e) = first_found t mode hints near k (inl (sym S.finding.holds.counted ∙ e))
searched t mode k hints w found near S (inr o) =
    first_found t mode hints near k (inr (of-all _ (all_to t (test_count t)) (λ p i. all-below p i)))
  where
    all-below : (p : Path) → In p (all_to t (test_count t)) → kept (slack_in t mode) (hint_of t mode hints near) p ≡ true
    all-below p i = unfold all_to in
        let a = accepted t S.finding.prepared.clocked.ready.checked in
        let q : In p (paths (structure t)) = unfold paths in rw (tests-is t) i in
        let m = le-within (slack_in t mode p) (pos 257000000) (slack-bounds (structure t) a.sound (times t) a.ranged (mode_of mode) p q).not-over in
        ⊎_elim
        (λ b. ⊎_elim (λ c. less-below (slack_in t mode p) (hint_at hints p.test) c) (λ c. absurd (omega arith)) (S.past p i))
        (λ b. less-below (slack_in t mode p) (hint_at hints p.test) (omega (arith, (hint-near t mode hints near p).0)))
        o

-- and then the paths are won
pub won : (t : Table) (mode k rounds : ℕ) (w : List ℕ) (found : Found)
    → Round t mode k rounds w found → Finished rounds k found → Won t mode k w found.best.list found.best.count found.best.slots
won t mode k rounds w found R f =
    let F = R.searching.finding in
    let e = searched t mode k R.hints w found R.near R.searching (ends f) in
    record { prepared = F.prepared; shelf = F.shelf; serial = found.best.serial; holds = rw e at F.holds; stored = rw e at F.stored }
  where
    ends : Finished rounds k found → (found.best.count ≡ k) ⊎ (Less (pos 257000000) found.out ⊎ Less (pos 257000000) R.hints.low)
    ends (inl e) = inr (inr (R.ends e))
    ends (inr (inl h)) = inl (omega (arith, R.searching.finding.sized.few))
    ends (inr (inr h)) = inr (inl h)
