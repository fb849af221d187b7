-- A record that is logged behind a page that was read.
use Rattle.std.proofs.Common.{◌≡◌, ℕ, ◌+◌, ◌-◌, ◌^◌, ◌≤◌, ◌<◌, inl, inr, [], ◌∷◌, Result, Ok, Err, false, sym, ◌∙◌, ap, subst, refl, arith}
use Rattle.std.specs.Prelude.{IsTrue, IfErr, OnOk}
use Rattle.ctr_store.specs.base_Base.{IsSoundImage}
use Rattle.ctr_types.specs.Faults.{CountsFault, HasFault}
use Rattle.ctr_disk.specs.declared.fault.StoreFault.TheVariants.{Fault}
use Rattle.ctr_disk.proofs.Moments.{on_ok}
use Rattle.ctr_disk.specs.declared.disk.Disk.{Ghosts}
use Rattle.ctr_disk.specs.Image.{Image}
use Rattle.ctr_disk.specs.declared.fault.StoreFault.{StoreFault}
use Rattle.ctr_record_effects.specs.rec_Record.{Record}
use Rattle.ctr_store.specs.rec_BadRecord.{BadRecord}
use Rattle.ctr_store.specs.meta_Effects.{effect}
use Rattle.ctr_store.specs.meta_Kept.{TablesKept, IsLogged, RoomLeft, opens_added, items_added}
use Rattle.ctr_store.specs.meta_Needs.{needs}
use Rattle.ctr_record_effects.specs.ctr_redo.Overlaid.{overlay_of}
use Rattle.ctr_record_effects.specs.ctr_redo.Fitting.{LiesInside}
use Rattle.ctr_store.specs.Changes.{IsChange}
use Rattle.ctr_store.specs.RecordChecks.{record_damage}
use Rattle.ctr_store.specs.Store.{View, Logs, MayLog, unmet_need, TakesRecord, KeepsRoom, LeavesPage}
use Rattle.ctr_walk.specs.OneRecord.{HasRoomForOne, IsUnfit, WhyNotLogged, LogsOne, AnswersLog}
use Rattle.ctr_walk.proofs.Joins.{times_join, fails_with, fronts_join, logs_join}

-- a result is one or the other
by_result : {T E P : Type 0} (result : Result T E) → ((x : T) → result ≡ Ok x → P) → ((e : E) → result ≡ Err e → P) → P
by_result (Ok x) ok err = ok x refl
by_result (Err e) ok err = err e refl

-- of an error one follows from another
if_err : {T E : Type 0} (result : Result T E) (P Q : E → Type 0) → ((e : E) → P e → Q e) → IfErr result P → IfErr result Q
if_err (Ok x) P Q f p = tt
if_err (Err e) P Q f p = f e p

-- what follows from two facts of a call that did
pub both_ok : {T E : Type 0} (result : Result T E) (P Q R : Type 0) → (P → Q → R) → OnOk result P → OnOk result Q → OnOk result R
both_ok (Ok x) P Q R f p q = f p q
both_ok (Err e) P Q R f p q = tt

-- where there is room for one record more
pub one_may : {D : Type 0} (r : Record) (opens items : ℕ) (v : View D) → HasRoomForOne opens items v → IsLogged r → IsChange r → LiesInside v.now.counted (overlay_of r)
    → opens_added r ≤ opens → items_added r ≤ items → MayLog r v
one_may r opens items v room logged change inside few_opens few_items =
    let more_opens = room.opens_fit in
    let more_items = room.items_fit in
    record {
      going = room.going;
      logged = logged;
      change = change;
      counted = inside;
      opens = omega (arith, few_opens, more_opens);
      items = omega (arith, few_items, more_items);
      room = room.room;
      number = room.number;
    }

abbrev error_of : StoreFault → Result ℕ StoreFault → StoreFault
error_of d (Ok x) = d
error_of d (Err e) = e

module _ {D : Type 0} (r : Record) (a b : View D) (keeps : KeepsRoom a b) where
  -- what may be logged before a page is read may be logged behind that
  pub may_still : b.stopped ≡ false → MayLog r a → MayLog r b
  may_still going may =
      let room = may.room in
      let more = keeps.room in
      record {
        going = going;
        logged = may.logged;
        change = may.change;
        counted = subst (λ (n : ℕ). LiesInside n (overlay_of r)) (sym keeps.counted) may.counted;
        opens = subst (λ (m : TablesKept). opens_added r ≤ m.opens_room) (sym keeps.meta) may.opens;
        items = subst (λ (m : TablesKept). items_added r ≤ m.items_room) (sym keeps.meta) may.items;
        room = omega (arith, room, more);
        number = subst (λ (n : ℕ). n < 2 ^ 63 - 1) (sym keeps.next) may.number;
      }

  same_need : unmet_need r a ≡ unmet_need r b
  same_need = ap (λ (m : TablesKept). needs r m.tables) (sym keeps.meta)

  taken_behind : (lsn : ℕ) (c : View D) → TakesRecord r lsn b c → TakesRecord r a.next a c
  taken_behind lsn c takes =
      let room = takes.room in
      let more = keeps.room in
      record {
        number = refl;
        next = takes.next ∙ ap (λ (n : ℕ). n + 1) keeps.next;
        room = omega (arith, room, more);
        gate = omega (arith, takes.gate, keeps.gate);
        tables = takes.tables ∙ ap (λ (m : TablesKept). effect r m.tables) keeps.meta;
        left = subst (λ (m : TablesKept). RoomLeft (opens_added r) (items_added r) m c.meta) keeps.meta takes.left;
        counted = takes.counted ∙ keeps.counted;
      }

module _ {D : Type 0} (first : Image) (g : Ghosts D) (r : Record) (a b : View D) where
  -- the page wasn't read
  pub unread : {S T : Type 0} (e : StoreFault) → LeavesPage {T = S} first g a b (Err e) → LogsOne {T = T} first g r a b (Err e)
  unread {S} {T} e page = record {
    any_moment = page.any_moment;
    logs = λ told sound. tt;
    takes = tt;
    time = page.time;
    fits = tt;
    going = tt;
    refused = λ told sound. inr (error (page.refused told sound), page.stopped);
    faults = record { later = page.faults.later; failed = λ is. page.faults.failed (same is); fine = λ isnt. page.faults.fine (λ is. isnt (same is)) };
  }
    where
      same : {A B : Type 0} {f : StoreFault} → fails_with A e ≡ fails_with A f → fails_with B e ≡ fails_with B f
      same {A} {B} is = ap (fails_with B) (cc is)

      error : {f : StoreFault} → fails_with S e ≡ fails_with S f → e ≡ f
      error is = cc is

  module _ (c : View D) {S T : Type 0} (x : S) (page : LeavesPage {T = S} first g a b (Ok x)) where
    -- it was, and the record was logged
    pub logged_behind : (lsn : ℕ) (y : T) → AnswersLog first g r b c (Ok lsn) → LogsOne {T = T} first g r a c (Ok y)
    logged_behind lsn y log = record {
      any_moment = λ told sound. fronts_join g a b c (page.logs told sound) page.time (page.any_moment told sound) (log.any_moment told sound);
      logs = λ told sound. logs_join g a b c (r ∷ []) (page.logs told sound) (log.logs told sound);
      takes = taken_behind r a b page.keeps lsn c log.takes;
      time = times_join g a b c page.time log.time;
      fits = same_need r a b page.keeps ∙ by_result {P = unmet_need r b ≡ Ok tt} (unmet_need r b) (λ u is. is) (λ bad is. absurd (cc (log.unfit bad is).0));
      going = log.going;
      refused = λ told sound. tt;
      faults = record {
        later = omega (arith, page.faults.later, log.faults.later);
        failed = λ is. absurd (cc is);
        fine = λ isnt. log.faults.fine (λ is. cc is) ∙ page.faults.fine (λ is. cc is);
      };
    }

    -- or it was refused
    pub refused_behind : (e : StoreFault) → AnswersLog first g r b c (Err e) → LogsOne {T = T} first g r a c (Err e)
    refused_behind e log = record {
      any_moment = λ told sound. fronts_join g a b c (page.logs told sound) page.time (page.any_moment told sound) (log.any_moment told sound);
      logs = λ told sound. tt;
      takes = tt;
      time = times_join g a b c page.time log.time;
      fits = tt;
      going = tt;
      refused = λ told sound. by_result {P = WhyNotLogged r a c e} (unmet_need r b)
          (λ u is. inr (error (log.refused told sound is), log.stopped is))
          (λ bad is. inl (unfit bad is told sound));
      faults = record {
        later = omega (arith, page.faults.later, log.faults.later);
        failed = λ is. subst (λ n. CountsFault n (g.faults_of c.disk)) (page.faults.fine (λ is. cc is)) (log.faults.failed (same is));
        fine = λ isnt. log.faults.fine (λ is. isnt (same is)) ∙ page.faults.fine (λ is. cc is);
      };
    }
      where
        same : {A B : Type 0} {f : StoreFault} → fails_with A e ≡ fails_with A f → fails_with B e ≡ fails_with B f
        same {A} {B} is = ap (fails_with B) (cc is)

        error : {f : StoreFault} → fails_with ℕ e ≡ fails_with ℕ f → e ≡ f
        error is = cc is

        unfit : (bad : BadRecord) → unmet_need r b ≡ Err bad → IsTrue g.tells → IsSoundImage first → IsUnfit r a c e
        unfit bad is told sound =
            let u = log.unfit bad is in
            record {
              bad = bad;
              unmet = same_need r a b page.keeps ∙ is;
              told = ap (error_of e) u.0 ∙ ap (λ (v : View D). record_damage v.file v.place bad) (sym u.1);
              going = ap (λ (v : View D). v.stopped) u.1 ∙ page.going;
              none = subst (λ (v : View D). Logs [] a v) (sym u.1) (page.logs told sound);
            }

    -- a call that logs one record
    pub one_behind : (result : Result T StoreFault) → LogsOne {T = T} first g r b c result → LogsOne {T = T} first g r a c result
    one_behind result one = record {
      any_moment = λ told sound. fronts_join g a b c (page.logs told sound) page.time (page.any_moment told sound) (one.any_moment told sound);
      logs = λ told sound. on_ok result (Logs (r ∷ []) b c) (Logs (r ∷ []) a c) (logs_join g a b c (r ∷ []) (page.logs told sound)) (one.logs told sound);
      takes = on_ok result (TakesRecord r b.next b c) (TakesRecord r a.next a c) (taken_behind r a b page.keeps b.next c) one.takes;
      time = times_join g a b c page.time one.time;
      fits = on_ok result (unmet_need r b ≡ Ok tt) (unmet_need r a ≡ Ok tt) (λ is. same_need r a b page.keeps ∙ is) one.fits;
      going = one.going;
      refused = λ told sound. if_err result (WhyNotLogged r b c) (WhyNotLogged r a c) (why told sound) (one.refused told sound);
      faults = subst (λ n. HasFault {T = T} Fault n (g.faults_of c.disk) result) (page.faults.fine (λ is. cc is)) one.faults;
    }
      where
        why : IsTrue g.tells → IsSoundImage first → (e : StoreFault) → WhyNotLogged r b c e → WhyNotLogged r a c e
        why told sound e (inl u) = inl (record {
          bad = u.bad;
          unmet = same_need r a b page.keeps ∙ u.unmet;
          told = u.told;
          going = u.going;
          none = logs_join g a b c [] (page.logs told sound) u.none;
        })
        why told sound e (inr f) = inr f
