-- What turns leave, whatever their answers are called, and behind pages that were read.
use Rattle.std.proofs.Common.{◌≡◌, inl, inr, Result, Ok, Err, sym, ap, subst, refl}
use Rattle.std.specs.Bool.{⊤}
use Rattle.ctr_disk.specs.declared.disk.Disk.{Ghosts}
use Rattle.ctr_disk.specs.Image.{Image}
use Rattle.ctr_disk.specs.declared.fault.StoreFault.{StoreFault}
use Rattle.ctr_disk.specs.declared.fault.StoreFault.TheVariants.{Fault, Damaged}
use Rattle.ctr_rec.specs.declared.record.Record.{Record}
use Rattle.ctr_walk.specs.base_Base.{WhereSound}
use Rattle.ctr_walk.specs.store_Store.{View, LeavesFront, LeavesPage}
use Rattle.ctr_walk.specs.OneRecord.{LogsOne}
use Rattle.ctr_walk.specs.Damage.{ReadsPages}
use Rattle.ctr_page_turns.specs.Turns.{CountsExtent, Turns, Reads, LogsARecord, Grows}

-- a call that answers with this fault
abbrev fails_with : (T : Type 0) → StoreFault → Result T StoreFault
fails_with T e = Err e

same_error : {A B : Type 0} {e f : StoreFault} → fails_with A e ≡ fails_with A f → fails_with B e ≡ fails_with B f
same_error {A} {B} is = ap (fails_with B) (cc is)

module _ {D : Type 0} (first : Image) (g : Ghosts D) (a b : View D) where
  page_ok : {S T : Type 0} (x : S) (y : T) → LeavesPage {T = S} first g a b (Ok x) → LeavesPage {T = T} first g a b (Ok y)
  page_ok x y one = record {
    any_moment = one.any_moment;
    logs = one.logs;
    keeps = one.keeps;
    time = one.time;
    going = one.going;
    stopped = tt;
    refused = λ told sound. tt;
    faults = record { later = one.faults.later; failed = λ is. absurd cc; fine = λ isnt. one.faults.fine (λ is. absurd cc) };
  }

  page_err : {S T : Type 0} (e : StoreFault) → LeavesPage {T = S} first g a b (Err e) → LeavesPage {T = T} first g a b (Err e)
  page_err {S} {T} e one = record {
    any_moment = one.any_moment;
    logs = λ told sound. tt;
    keeps = one.keeps;
    time = one.time;
    going = tt;
    stopped = one.stopped;
    refused = λ told sound. same_error {A = S} {B = T} (one.refused told sound);
    faults = record { later = one.faults.later; failed = λ is. one.faults.failed (same_error {A = T} {B = S} is); fine = λ isnt. one.faults.fine (λ is. isnt (same_error {A = S} {B = T} is)) };
  }

  one_ok : {S T : Type 0} (r : Record) (x : S) (y : T) → LogsOne {T = S} first g r a b (Ok x) → LogsOne {T = T} first g r a b (Ok y)
  one_ok r x y one = record {
    any_moment = one.any_moment;
    logs = one.logs;
    takes = one.takes;
    time = one.time;
    fits = one.fits;
    going = one.going;
    refused = λ told sound. tt;
    faults = record { later = one.faults.later; failed = λ is. absurd cc; fine = λ isnt. one.faults.fine (λ is. absurd cc) };
  }

  one_err : {S T : Type 0} (r : Record) (e : StoreFault) → LogsOne {T = S} first g r a b (Err e) → LogsOne {T = T} first g r a b (Err e)
  one_err {S} {T} r e one = record {
    any_moment = one.any_moment;
    logs = λ told sound. tt;
    takes = tt;
    time = one.time;
    fits = tt;
    going = tt;
    refused = one.refused;
    faults = record { later = one.faults.later; failed = λ is. one.faults.failed (same_error {A = T} {B = S} is); fine = λ isnt. one.faults.fine (λ is. isnt (same_error {A = S} {B = T} is)) };
  }

  more_ok : {S T : Type 0} (x : S) (y : T) → CountsExtent {T = S} first g a b (Ok x) → CountsExtent {T = T} first g a b (Ok y)
  more_ok x y one = record {
    few = one.few;
    any_moment = one.any_moment;
    grows = one.grows;
    counts = record { same = one.counts.same; time = one.counts.time; strays = one.counts.strays; counted = one.counts.counted; uncounted = tt; going = one.counts.going; stopped = tt };
    refused = tt;
    faults = record { later = one.faults.later; failed = λ is. absurd cc; fine = λ isnt. one.faults.fine (λ is. absurd cc) };
  }

  more_err : {S T : Type 0} (e : StoreFault) → CountsExtent {T = S} first g a b (Err e) → CountsExtent {T = T} first g a b (Err e)
  more_err {S} {T} e one = record {
    few = one.few;
    any_moment = one.any_moment;
    grows = λ told sound. tt;
    counts = record { same = one.counts.same; time = one.counts.time; strays = one.counts.strays; counted = tt; uncounted = one.counts.uncounted; going = tt; stopped = one.counts.stopped };
    refused = same_error {A = S} {B = T} one.refused;
    faults = record { later = one.faults.later; failed = λ is. one.faults.failed (same_error {A = T} {B = S} is); fine = λ isnt. one.faults.fine (λ is. isnt (same_error {A = S} {B = T} is)) };
  }

  reads_err : (S T : Type 0) (e : StoreFault) → ReadsPages {T = S} first g a b (Err e) → ReadsPages {T = T} first g a b (Err e)
  reads_err S T Fault page = page_err {S = S} {T = T} Fault page
  reads_err S T (Damaged d) (inl page) = inl (page_err {S = S} {T = T} (Damaged d) page)
  reads_err S T (Damaged d) (inr page) = inr page

module _ {D : Type 0} (first : Image) (g : Ghosts D) where
  -- where a call is answered, another answer may be given in its place
  pub turn_ok : {S T : Type 0} (a b : View D) (x : S) (y : T) → Turns {T = S} first g a b (Ok x) → Turns {T = T} first g a b (Ok y)
  turn_ok a b x y (Reads read) = Reads (page_ok first g a b x y read)
  turn_ok a b x y (LogsARecord (r, one)) = LogsARecord (r, one_ok first g a b r x y one)
  turn_ok a b x y (Grows some) = Grows (record { between = some.between; read = some.read; rests = some.rests; more = more_ok first g some.between b x y some.more })

  -- an error is an error
  turn_err : {S T : Type 0} (a b : View D) (e : StoreFault) → Turns {T = S} first g a b (Err e) → Turns {T = T} first g a b (Err e)
  turn_err {S} {T} a b e (Reads read) = Reads (reads_err first g a b S T e read)
  turn_err {S} {T} a b e (LogsARecord (r, one)) = LogsARecord (r, one_err first g a b {S = S} {T = T} r e one)
  turn_err {S} {T} a b e (Grows some) = Grows (record { between = some.between; read = some.read; rests = some.rests; more = more_err first g some.between b {S = S} {T = T} e some.more })

  pub turn_fails : {S T : Type 0} (a b : View D) (e : StoreFault) (result : Result S StoreFault) (told : Result T StoreFault)
      → Turns first g a b result → result ≡ Err e → told ≡ Err e → Turns first g a b told
  turn_fails {S} {T} a b e result told turn is so = subst (λ (r : Result T StoreFault). Turns first g a b r) (sym so) (turn_err {S = S} {T = T} a b e (subst (λ (r : Result S StoreFault). Turns first g a b r) is turn))

  pub turn_unread : {S T : Type 0} (a b : View D) (e : StoreFault) (page : Result S StoreFault) (result : Result T StoreFault)
      → ReadsPages first g a b page → page ≡ Err e → result ≡ Err e → Turns first g a b result
  turn_unread {S} a b e page result read is so = turn_fails {S = S} a b e page result (Reads read) is so

  leaves_reads : {S : Type 0} (a b : View D) (e : StoreFault) → LeavesPage {T = S} first g a b (Err e) → ReadsPages {T = S} first g a b (Err e)
  leaves_reads a b Fault page = page
  leaves_reads a b (Damaged d) page = inl page

  pub turn_lost : {S T : Type 0} (a b : View D) (e : StoreFault) (page : Result S StoreFault) (result : Result T StoreFault)
      → LeavesPage first g a b page → page ≡ Err e → result ≡ Err e → Turns first g a b result
  turn_lost {S} a b e page result read is so = turn_unread {S = S} a b e (Err e) result (leaves_reads a b e (subst (λ (r : Result S StoreFault). LeavesPage first g a b r) is read)) refl so

  pub turn_grown : {S T : Type 0} (a b c : View D) (x : S) (result : Result T StoreFault) → LeavesPage first g a b (Ok x)
      → WhereSound first g (LeavesFront g b b) → CountsExtent first g b c result → Turns first g a c result
  turn_grown a b c x result read rests more = Grows (record { between = b; read = page_ok first g a b x tt read; rests = rests; more = more })

  -- a turn goes on behind pages that were read, by how calls join behind them
  reads_on : {T : Type 0} (a b c : View D) (result : Result T StoreFault)
      → ((r : Result T StoreFault) → LeavesPage first g b c r → LeavesPage first g a c r)
      → (LeavesPage {T = ⊤} first g b c (Ok tt) → LeavesPage {T = ⊤} first g a c (Ok tt))
      → ReadsPages first g b c result → ReadsPages first g a c result
  reads_on a b c (Ok y) joins units read = joins (Ok y) read
  reads_on a b c (Err Fault) joins units read = joins (Err Fault) read
  reads_on a b c (Err (Damaged d)) joins units (inl read) = inl (joins (Err (Damaged d)) read)
  reads_on a b c (Err (Damaged d)) joins units (inr read) = inr (units read)

  pub turn_behind : {T : Type 0} (a b c : View D) (result : Result T StoreFault)
      → ((r : Result T StoreFault) → LeavesPage first g b c r → LeavesPage first g a c r)
      → ((m : View D) → LeavesPage {T = ⊤} first g b m (Ok tt) → LeavesPage {T = ⊤} first g a m (Ok tt))
      → ((r : Record) → LogsOne first g r b c result → LogsOne first g r a c result)
      → Turns first g b c result → Turns first g a c result
  turn_behind a b c result joins units ones (Reads read) = Reads (reads_on a b c result joins (units c) read)
  turn_behind a b c result joins units ones (LogsARecord (r, one)) = LogsARecord (r, ones r one)
  turn_behind a b c result joins units ones (Grows some) = Grows (record { between = some.between; read = units some.between some.read; rests = some.rests; more = some.more })
