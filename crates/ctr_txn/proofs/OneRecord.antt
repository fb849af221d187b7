-- Records of transactions: what may be logged, and the run behind them.
use Rattle.std.proofs.Common.{◌≡◌, ℕ, ◌+◌, ◌-◌, ◌^◌, ◌<◌, false, List, [], ◌∷◌, ◌++◌, Result, Ok, Err, Some, None, inl, inr, refl, sym, ◌∙◌, ap, subst, arith, length}
use Rattle.std.specs.Prelude.{⊤, if◌then◌else◌}
use Rattle.std.proofs.lemmas.List.{append-nil}
use Rattle.ctr_disk.specs.declared.disk.Disk.{Ghosts}
use Rattle.ctr_disk.specs.Image.{Image}
use Rattle.ctr_disk.specs.declared.fault.StoreFault.{StoreFault}
use Rattle.ctr_rec.specs.declared.record.Record.{Record}
use Rattle.ctr_rec.specs.declared.decoding.BadRecord.{BadRecord}
use Rattle.std.specs.Ordering.{nat_cmp}
use Rattle.ctr_model.specs.Maps.{without}
use Rattle.ctr_rec.specs.declared.record.Record.TheVariants.{Begin, Commit, Abort}
use Rattle.ctr_meta.specs.Tables.{Tables}
use Rattle.ctr_meta.specs.Effects.{effect}
use Rattle.ctr_walk.specs.redo_Overlaid.{touches, changed_by}
use Rattle.ctr_walk.specs.redo_States.{State, step, pages_after}
use Rattle.ctr_paged.specs.actions_Sites.{site_of}
use Rattle.ctr_paged.specs.actions_Actions.{Begins, Commits, Aborts, site_after}
use Rattle.ctr_paged.specs.Moving.{held_as}
use Rattle.ctr_walk.specs.store_RecordChecks.{record_damage}
use Rattle.ctr_walk.specs.store_Store.{View, Logs, MayLog, unmet_need, TakesRecord}
use Rattle.ctr_walk.specs.OneRecord.{HasRoomForOne, IsUnfit, WhyNotLogged, LogsOne, AnswersLog}
use Rattle.ctr_walk.proofs.Joins.{fails_with}
use Rattle.ctr_txn.specs.declared.txn.Asked.{Asked}
use Rattle.ctr_txn.specs.Held.{TxnHeld, TxnsHeld, run_of, txn_of, IsOneOfEight}
use Rattle.ctr_txn.specs.Steps.{SetsTxn, DrawsOne, AsksOne, txn_drawn, txn_asked}
use Rattle.ctr_txn.proofs.Runs.{sets_run, same_run, ends_run}

module _ {D : Type 0} (v : View D) (x : ℕ) (low : x < 2 ^ 64) where
  pub begin_may : HasRoomForOne 1 0 v → MayLog (Begin x) v
  begin_may room = record {
    going = room.going;
    logged = record { record_is = record { first = omega (arith, low); second = omega arith; overlay = refl }; members = tt };
    change = tt;
    counted = tt;
    opens = room.opens_fit;
    items = room.items_fit;
    room = room.room;
    number = room.number;
  }

  pub commit_may : HasRoomForOne 0 0 v → MayLog (Commit x) v
  commit_may room = record {
    going = room.going;
    logged = record { record_is = record { first = omega (arith, low); second = omega arith; overlay = refl }; members = tt };
    change = tt;
    counted = tt;
    opens = room.opens_fit;
    items = room.items_fit;
    room = room.room;
    number = room.number;
  }

  pub abort_may : HasRoomForOne 0 0 v → MayLog (Abort x) v
  abort_may room = record {
    going = room.going;
    logged = record { record_is = record { first = omega (arith, low); second = omega arith; overlay = refl }; members = tt };
    change = tt;
    counted = tt;
    opens = room.opens_fit;
    items = room.items_fit;
    room = room.room;
    number = room.number;
  }

-- ---- the run behind each

module _ (s : ℕ) (old new : TxnsHeld) (one : IsOneOfEight s) where
  pub drawn_run : (x : ℕ) (t : TxnHeld) → length old.sessions ≡ 8 → DrawsOne old.numbers new.numbers → SetsTxn s (Some (txn_drawn x t)) old new
      → run_of new ≡ held_as s (record t.session { me = x }) (run_of old)
  drawn_run x t eight draws sets = sets_run s (txn_drawn x t) old new one eight sets
      ∙ (λ i. record { commits = draws.commits i; sessions = (held_as s (record t.session { me = x }) (run_of old)).sessions; answered = old.answered })

  pub asked_run : (q : Asked) (t : TxnHeld) → txn_of s old ≡ Some t → AsksOne t.session.me old.numbers new.numbers → SetsTxn s (Some (txn_asked q t)) old new
      → run_of new ≡ record (run_of old) { commits = old.numbers.commits ++ t.session.me ∷ [] }
  asked_run q t there asks sets = same_run s t (txn_asked q t) old new there refl sets
      ∙ (λ i. record { commits = asks.commits i; sessions = (run_of old).sessions; answered = old.answered })

  pub aborted_run : new.numbers ≡ old.numbers → SetsTxn s None old new → run_of new ≡ record (run_of old) { sessions = without nat_cmp s (run_of old).sessions }
  aborted_run numbers sets = ends_run s old new one sets
      ∙ (λ i. record { commits = (numbers i).commits; sessions = without nat_cmp s (run_of old).sessions; answered = old.answered })

-- ---- the site behind each

-- a record that is on no page leaves the pages as they were
same_pages : (r : Record) → ((p : ℕ) → touches r p ≡ false) → (p : ℕ) (bs : List (List ℕ)) → pages_after p r bs ≡ bs
same_pages r off p [] = refl
same_pages r off p (b ∷ bs) = λ i. (if off p i then changed_by r b else b) ∷ same_pages r off (p + 1) bs i

pub begun_site : (x : ℕ) (s : State) → site_of (step (Begin x) s) ≡ site_after x Begins (site_of s)
begun_site x s = ap (λ (bs : List (List ℕ)). site_of (record { counted = s.counted; pages = bs; tables = effect (Begin x) s.tables })) (same_pages (Begin x) (λ p. refl) 0 s.pages)

pub committed_site : (x : ℕ) (s : State) → site_of (step (Commit x) s) ≡ site_after x Commits (site_of s)
committed_site x s = ap (λ (bs : List (List ℕ)). site_of (record { counted = s.counted; pages = bs; tables = effect (Commit x) s.tables })) (same_pages (Commit x) (λ p. refl) 0 s.pages)

pub aborted_site : (x : ℕ) (s : State) → site_of (step (Abort x) s) ≡ site_after x Aborts (site_of s)
aborted_site x s = ap (λ (bs : List (List ℕ)). site_of (record { counted = s.counted; pages = bs; tables = effect (Abort x) s.tables })) (same_pages (Abort x) (λ p. refl) 0 s.pages)

pub committed_next : (x : ℕ) (t : Tables) → (effect (Commit x) t).next ≡ t.next
committed_next x t = refl

-- ---- one record, with no page read before it

by_result : {P : Type 0} (r : Result ⊤ BadRecord) → (r ≡ Ok tt → P) → ((e : BadRecord) → r ≡ Err e → P) → P
by_result (Ok x) ok err = ok refl
by_result (Err e) ok err = err e refl

module _ {D : Type 0} (first : Image) (g : Ghosts D) (r : Record) (a b : View D) where
  pub logged_now : {T : Type 0} (lsn : ℕ) (y : T) → AnswersLog first g r a b (Ok lsn) → LogsOne {T = T} first g r a b (Ok y)
  logged_now lsn y log = record {
    any_moment = log.any_moment;
    logs = log.logs;
    takes = subst (λ n. TakesRecord r n a b) log.takes.number log.takes;
    time = log.time;
    fits = by_result {P = unmet_need r a ≡ Ok tt} (unmet_need r a) (λ is. is) (λ bad is. absurd (cc (log.unfit bad is).0));
    going = log.going;
    refused = λ told sound. tt;
    faults = record { later = log.faults.later; failed = λ is. absurd (cc is); fine = λ isnt. log.faults.fine (λ is. cc is) };
  }

  pub refused_now : {T : Type 0} (e : StoreFault) → a.stopped ≡ false → AnswersLog first g r a b (Err e) → LogsOne {T = T} first g r a b (Err e)
  refused_now {T} e running log = record {
    any_moment = log.any_moment;
    logs = λ told sound. tt;
    takes = tt;
    time = log.time;
    fits = tt;
    going = tt;
    refused = λ told sound. by_result {P = WhyNotLogged r a b e} (unmet_need r a)
        (λ is. inr (error (log.refused told sound is), log.stopped is))
        (λ bad is. inl (unfit bad is));
    faults = record { later = log.faults.later; failed = λ is. log.faults.failed (same is); fine = λ isnt. log.faults.fine (λ is. isnt (same is)) };
  }
    where
      same : {A B : Type 0} {f : StoreFault} → fails_with A e ≡ fails_with A f → fails_with B e ≡ fails_with B f
      same {A} {B} is = ap (fails_with B) (cc is)

      error : {f : StoreFault} → fails_with ℕ e ≡ fails_with ℕ f → e ≡ f
      error is = cc is

      nothing : Logs [] a a
      nothing = record { j = 0; waiting = sym (append-nil a.waiting); hardened = refl; now = refl }

      unfit : (bad : BadRecord) → unmet_need r a ≡ Err bad → IsUnfit r a b e
      unfit bad is =
          let u = log.unfit bad is in
          record {
            bad = bad;
            unmet = is;
            told = error u.0 ∙ ap (λ (v : View D). record_damage v.file v.place bad) (sym u.1);
            going = ap (λ (v : View D). v.stopped) u.1 ∙ running;
            none = subst (λ (v : View D). Logs [] a v) (sym u.1) nothing;
          }
