-- From what an order decides to what is demanded: an operation that says what was decided refuses as demanded.
-- Assumes nothing.
use Rattle.std.proofs.Math.Path.{◌≡◌, refl}
use Rattle.std.proofs.Common.{sym, ◌∙◌, inl, inr, arith}
use Rattle.std.specs.Prelude.{◌⊎◌, List, ℕ, length, ℤ, Result, Ok, Err}
use Rattle.std.proofs.Math.Option.{Option, none, some, some-injective}
use Rattle.lists.proofs.Laws.Means.{means-less}
use Rattle.lists.specs.Laws.Decides.{Decides}
use Rattle.lists.proofs.Laws.Decides.{decides-one, decides-exactly}
use Rattle.timing.specs.declared.Refusal.{Refusal}
use Rattle.timing.specs.declared.Refusal.TheVariants.{ListCount}
use Rattle.timing.specs.declared.Reading.{Reading}
use Rattle.timing.specs.declared.Answer.{Answer}
use Rattle.timing.specs.declared.Candidate.{Candidate}
use Rattle.timing.specs.Table.{Table}
use Rattle.timing.specs.Field.{Bytes}
use Rattle.timing.specs.Check.{table_fault}
use Rattle.timing.specs.Asked.{asking_fault, answer_of, answer, room_of, room_after, work_of, work_after}
use Rattle.timing.specs.Ranked.{count_bad, enter_fault, entered_of, enter_answer, list_of, list_after}
use Rattle.timing.specs.Text.{text_fault, reading_of, reading, filled_of, room_filled}
use Rattle.timing.specs.Allows.{ReadAllows, CheckAllows, AskAllows, EnterAllows}
use Rattle.demands.specs.Conditions.{Earlier, ListHolds, Refuses}
use Rattle.demands.proofs.Laws.Turns.{not_itself, one_earlier}
use Rattle.demands.specs.Laws.Refused.{Outcome}

pub refuses : {Holds Says : Refusal → Type 0} {Accepts Unwritten : Type 0} (o : Option Refusal)
    → Decides Earlier Holds o → Outcome o Says Accepts Unwritten → Refuses Holds Says Accepts Unwritten
refuses {Holds} {Says} {Accepts} o d s =
    let e = decides-exactly Earlier one_earlier d in
    record {
      either = by-case o refl;
      not-both = λ q h k. clash q ((s.says q).1 h) (s.accepts.1 k);
      one = λ q r h k. some-injective q r (sym ((s.says q).1 h) ∙ (s.says r).1 k);
      exactly = λ q. (λ h. (e.0 q).0 ((s.says q).1 h), λ f. (s.says q).0 ((e.0 q).1 f));
      accepts = (λ h. e.1.0 (s.accepts.1 h), λ n. s.accepts.0 (e.1.1 n));
      unwritten = λ q h. s.kept q ((s.says q).1 h);
    }
  where
    clash : (q : Refusal) → o ≡ some q → o ≡ none → ⊥
    clash q h k = let z : ◌≡◌ {A = ℕ} 0 1 = cc in omega arith

    by-case : (p : Option Refusal) → o ≡ p → Accepts ⊎ ((q : Refusal) × Says q)
    by-case none h = inl (s.accepts.0 h)
    by-case (some q) h = inr (q, (s.says q).0 h)

-- ---- what each operation says
pub reading-outcome : (x : Bytes) (table : List ℕ) (r : Result Reading Refusal) (table' : List ℕ) → ReadAllows x table r table'
    → Outcome (text_fault x (length table)) (λ q. r ≡ Err q) ((c : Reading) × (r ≡ Ok c)) (table' ≡ table)
unfolding reading reading_of room_filled filled_of
reading-outcome x table r table' a =
    record {
      says = λ q. (λ h. rw h at a.0, λ h. said (text_fault x (length table)) refl q h);
      accepts = (λ h. (_, rw h at a.0), λ h. accepted (text_fault x (length table)) refl h.0 h.1);
      kept = λ q h. rw h at a.1;
    }
  where
    said : (o : Option Refusal) → text_fault x (length table) ≡ o → (q : Refusal) → r ≡ Err q → text_fault x (length table) ≡ some q
    said none e q h = let b = rw e at a.0 in absurd (let z : ◌≡◌ {A = ℕ} 0 1 = cc in omega arith)
    said (some p) e q h = let b = rw e at a.0 in cc

    accepted : (o : Option Refusal) → text_fault x (length table) ≡ o → (c : Reading) → r ≡ Ok c → text_fault x (length table) ≡ none
    accepted none e c h = e
    accepted (some p) e c h = let b = rw e at a.0 in absurd (let z : ◌≡◌ {A = ℕ} 0 1 = cc in omega arith)

pub check-outcome : (t : Table) (r : Result Unit Refusal) → CheckAllows t r → Outcome (table_fault t) (λ q. r ≡ Err q) (r ≡ Ok tt) Unit
check-outcome t r a =
    record {
      says = λ q. (λ h. rw h at a, λ h. said (table_fault t) refl q h);
      accepts = (λ h. rw h at a, λ h. accepted (table_fault t) refl h);
      kept = λ q h. tt;
    }
  where
    said : (o : Option Refusal) → table_fault t ≡ o → (q : Refusal) → r ≡ Err q → table_fault t ≡ some q
    said none e q h = let b = rw e at a in absurd (let z : ◌≡◌ {A = ℕ} 0 1 = cc in omega arith)
    said (some p) e q h = let b = rw e at a in cc

    accepted : (o : Option Refusal) → table_fault t ≡ o → r ≡ Ok tt → table_fault t ≡ none
    accepted none e h = e
    accepted (some p) e h = let b = rw e at a in absurd (let z : ◌≡◌ {A = ℕ} 0 1 = cc in omega arith)

module _ (t : Table) (mode k : ℕ) (room : List ℤ) (work : List ℕ) where
  abbrev fault : Option Refusal
  fault = asking_fault t mode k (length room) (length work)

  pub ask-outcome : (r : Result Answer Refusal) (room' : List ℤ) (work' : List ℕ) → AskAllows t mode k room work r room' work'
      → Outcome fault (λ q. r ≡ Err q) ((b : Answer) × (r ≡ Ok b)) ((room' ≡ room) × (work' ≡ work))
  unfolding answer answer_of room_after room_of work_after work_of
  ask-outcome r room' work' a =
      record {
        says = λ q. (λ h. rw h at a.0, λ h. said fault refl q h);
        accepts = (λ h. (_, rw h at a.0), λ h. accepted fault refl h.0 h.1);
        kept = λ q h. (rw h at a.1, rw h at a.2);
      }
    where
      said : (o : Option Refusal) → fault ≡ o → (q : Refusal) → r ≡ Err q → fault ≡ some q
      said none e q h = let b = rw e at a.0 in absurd (let z : ◌≡◌ {A = ℕ} 0 1 = cc in omega arith)
      said (some p) e q h = let b = rw e at a.0 in cc

      accepted : (o : Option Refusal) → fault ≡ o → (b : Answer) → r ≡ Ok b → fault ≡ none
      accepted none e d h = e
      accepted (some p) e d h = let b = rw e at a.0 in absurd (let z : ◌≡◌ {A = ℕ} 0 1 = cc in omega arith)

pub enter-outcome : (list : List Candidate) (count : ℕ) (c : Candidate) (r : Result ℕ Refusal) (list' : List Candidate) → EnterAllows list count c r list'
    → Outcome (enter_fault count (length list)) (λ q. r ≡ Err q) ((n : ℕ) × (r ≡ Ok n)) (list' ≡ list)
unfolding enter_answer entered_of list_after list_of
enter-outcome list count c r list' a =
    let o = enter_fault count (length list) in
    record {
      says = λ q. (λ h. rw h at a.0, λ h. said o refl q h);
      accepts = (λ h. (_, rw h at a.0), λ h. accepted o refl h.0 h.1);
      kept = λ q h. rw h at a.1;
    }
  where
    said : (o : Option Refusal) → enter_fault count (length list) ≡ o → (q : Refusal) → r ≡ Err q → enter_fault count (length list) ≡ some q
    said none e q h = let b = rw e at a.0 in absurd (let z : ◌≡◌ {A = ℕ} 0 1 = cc in omega arith)
    said (some p) e q h = let b = rw e at a.0 in cc

    accepted : (o : Option Refusal) → enter_fault count (length list) ≡ o → (n : ℕ) → r ≡ Ok n → enter_fault count (length list) ≡ none
    accepted none e n h = e
    accepted (some p) e n h = let b = rw e at a.0 in absurd (let z : ◌≡◌ {A = ℕ} 0 1 = cc in omega arith)

pub enter-decides : (count len : ℕ) → Decides Earlier (ListHolds len count) (enter_fault count len)
unfolding enter_fault
enter-decides count len = decides-one Earlier not_itself (count_bad count len) ListCount (means-less len count)
