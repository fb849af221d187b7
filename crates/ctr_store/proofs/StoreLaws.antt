-- What callers see of a call on the parts.
use Rattle.std.proofs.Common.{◌≡◌, ⊎_elim, inl, inr, ◌∙◌, ◌<◌, ◌≤◌, ◌^◌, ◌==◌, ◌+◌, ◌-◌, if◌then◌else◌, ℕ, Option, None, Bool, true, false, List, [], ◌∷◌, length, drop, Result, Ok, Err, refl, sym, ap, subst, arith}
use Rattle.std.specs.Prelude.{IsTrue, OnOk, OnErr, IfOk, IfErr, is_err}
use Rattle.std.proofs.lemmas.List.{append-nil}
use Rattle.ctr_base.specs.log_Logs.{Log, frames}
use Rattle.ctr_base.specs.pool_Over.{Pooled, SavesOldest, unchanged}
use Rattle.ctr_disk.specs.declared.disk.Disk.{Ghosts}
use Rattle.ctr_types.specs.Faults.{HasFault}
use Rattle.ctr_disk.specs.Image.{Image}
use Rattle.ctr_base.specs.ctr_home.declared.root.Root.{Root}
use Rattle.ctr_disk.specs.declared.fault.StoreFault.{StoreFault}
use Rattle.ctr_disk.specs.declared.fault.StoreFault.TheVariants.{Fault}
use Rattle.ctr_base.proofs.log_VisitLemmas.{ok_isnt}
use Rattle.ctr_rec.specs.declared.record.Record.{Record}
use Rattle.ctr_base.specs.meta_Needs.{needs}
use Rattle.ctr_disk.proofs.Moments.{weaker}
use Rattle.ctr_base.specs.declared.base.Base.{Base}
use Rattle.ctr_base.specs.Base.{waiting_of, now_of, IsSoundImage, HasGate, LeavesBase, LeavesIf, MovesBase, MovesIf, KeepsBase}
use Rattle.ctr_store.specs.declared.parts.Parts.{Parts}
use Rattle.ctr_base.specs.Growth.{GrowsBase, AreBlank}
use Rattle.ctr_base.specs.BaseLaws.{rests_leaves}
use Rattle.ctr_base.specs.redo_States.{State, state_of, grown, page_at}
use Rattle.ctr_store.specs.Parts.{IsFold, HasBuffer, MayCount, Recalls, record_end, CanLog, EndsWithin, LogsRecord, LogsRoom, pages_held, some_dirty}
use Rattle.ctr_store.specs.Store.{View, Logs, LeavesFront, ReachesEnd, HasLongLog, StraysOnlyLong, MovesOn, LeavesPage, MayLog, KeepsRoom, GrowsByExtent, TakesRecord, WritesHome, waiting_bytes}
use Rattle.ctr_base.specs.Generations.{KeepsFold}
use Rattle.ctr_directory.specs.declared.directory.Directory.{Directory}
use Rattle.ctr_store.proofs.Recalling.{exact_same}
use Rattle.ctr_store.specs.Numbers.{NumbersLow}
use Rattle.ctr_store.specs.StoreInside.{view_of}
use Rattle.ctr_store.proofs.NumberLaws.{numbers_fit}
use Rattle.ctr_store.proofs.BufferLaws.{kept_bytes, logged_bytes, since_held, end_at_most, ends_kept}
use Rattle.ctr_store.proofs.RecordLaws.{record_short, wrote_is}

-- a call that answers with this fault
abbrev failed_with : (T : Type 0) → StoreFault → Result T StoreFault
failed_with T e = Err e

-- what holds of an answer that is no error
pub of_ok : {T E P : Type 0} (r : Result T E) → is_err r ≡ false → OnOk r P → P
of_ok (Ok x) is p = p
of_ok (Err e) is p = absurd (cc is)

-- an error that is always this one is so in a case
pub sound_fault : {T : Type 0} (P : Type 0) (r : Result T StoreFault) → OnErr r (r ≡ Err Fault) → IfErr r (λ e. P → e ≡ Fault)
sound_fault P (Ok x) is = tt
sound_fault P (Err e) is = λ p. cc is

-- two things hold where a call was answered Ok
pub on_ok_both : {T E P Q R : Type 0} (r : Result T E) → (P → Q → R) → OnOk r P → OnOk r Q → OnOk r R
on_ok_both (Ok x) f p q = f p q
on_ok_both (Err e) f p q = tt

-- where strays come a crash leaves a long log, where the log ends no more than this further on
pub strays_long : {D : Type 0} (g : Ghosts D) (a b : View D) (more : ℕ) → more ≤ 2 ^ 20 → LeavesFront g a b → MovesOn g a b → b.gate ≤ a.gate + more → StraysOnlyLong g a b
strays_long g a b more small front moves near = ⊎_elim
    (λ same. inl same)
    (λ far. inr (weaker g a.disk b.disk (ReachesEnd a) (HasLongLog a) front.long (λ i long. omega (arith, far, near, small, long))))
    moves.stray

module _ {D O : Type 0} (g : Ghosts D) where
  -- a call that logs nothing
  pub logs_moved : (s t : Parts D O) (b c : Bool) → MovesBase g s.base t.base → Logs [] (view_of g s b) (view_of g t c)
  logs_moved s t b c m = record { j = m.j; waiting = m.waiting ∙ sym (append-nil (drop m.j (waiting_of s.base))); hardened = m.hardened; now = m.now }

  -- what callers see of time
  pub time_seen : (s t : Parts D O) (b c : Bool) (more : ℕ) → EndsWithin g more s.base t.base → MovesOn g (view_of g s b) (view_of g t c)
  time_seen s t b c more ends = record { later = ends.goes.later; file = ends.file; start = ends.start; older = ends.older; gate = ends.gate; stray = ends.goes.stray }

  -- what they see of a crash
  pub front_seen : (s t : Parts D O) (b c : Bool) → HasBuffer s.base.log → LeavesBase g s.base t.base → LeavesFront g (view_of g s b) (view_of g t c)
  front_seen s t b c has leaves = record {
    front = leaves.front;
    long = weaker g s.base.disk t.base.disk (HasGate s.base.log) (ReachesEnd (view_of g s b)) leaves.gate (λ i long. omega (arith, long, has.most, end_at_most s.base.log.place s.base.log.buffered));
  }

  -- and between two calls
  pub rests_seen : (first : Image) → ((d : D) (c : Image) → g.since d (g.moment_of d) c → g.images d c) → (s : Parts D O) (b : Bool) → HasBuffer s.base.log → IsFold first g s → IsSoundImage first → LeavesFront g (view_of g s b) (view_of g s b)
  rests_seen first only_now s b has fold sound = front_seen s s b b has (rests_leaves g first only_now s.base fold.over.at_rest sound)

  -- what callers see is enough for a record
  pub can_of : (r : Record) (s : Parts D O) (b : Bool) → HasBuffer s.base.log → MayCount s.base.root.pages → NumbersLow (s.base.log.first + length s.base.log.buffered) s.meta.tables → MayLog r (view_of g s b) → needs r s.meta.tables ≡ Ok tt → CanLog r s
  can_of r s b buffer pages numbers may fits =
      let room = may.room in
      let size = buffer.size in
      let number = may.number in
      let xids = 2 ^ 62 + (s.base.log.first + length s.base.log.buffered) in
      let heads = 2 ^ 63 + (s.base.log.first + length s.base.log.buffered) in
      let low : heads < 2 ^ 64 - 1 = omega (arith, number) in
      let less : xids < 2 ^ 64 - 1 = omega (arith, number) in
      record {
        logged = may.logged;
        change = may.change;
        counted = may.counted;
        pages = pages;
        may = record { fits = fits; opens_fit = may.opens; items_fit = may.items; numbers_fit = numbers_fit r xids heads s.meta.tables less low numbers.0 };
        room = omega (arith, room, size, record_short r may.logged.record_is may.change);
        number = may.number;
      }

  -- what callers see of a number and room that are kept
  pub keeps_seen : (s t : Parts D O) (b c : Bool) → KeepsBase g s.base t.base → t.meta ≡ s.meta → KeepsRoom (view_of g s b) (view_of g t c)
  keeps_seen s t b c keeps meta = record {
    next = keeps.next;
    room = omega (arith, kept_bytes s.base.log t.base.log keeps.waits);
    gate = keeps.ends;
    meta = meta;
    counted = ap (λ (r : Root). r.pages) keeps.root;
  }

  -- what is remembered of the keys' places, over the same pages
  pub recalls_moved : (first : Image) (s t : Parts D O) (d : Directory) → MovesIf first g s.base t.base → IsSoundImage first → Recalls g s d → Recalls g t d
  recalls_moved first s t d moves sound exact = exact_same (state_of (now_of g s.base)) (state_of (now_of g t.base)) d (moves sound).now exact

  pub recalls_kept : (s t : Parts D O) (d : Directory) → KeepsFold g s.base t.base → Recalls g s d → Recalls g t d
  recalls_kept s t d keeps exact = exact_same (state_of (now_of g s.base)) (state_of (now_of g t.base)) d keeps.now exact

  pub recalls_reserved : (s : Parts D O) (l : Log) (d : Directory) → l ≡ record s.base.log { room = l.room } → Recalls g s d → Recalls g (record s { base = record s.base { log = l } }) d
  recalls_reserved s l d same exact =
      exact_same (state_of (now_of g s.base)) (state_of (now_of g (record s.base { log = l }))) d (ap (λ (x : Log). state_of (now_of g (record s.base { log = x }))) same) exact

  pub logs_seen : (r : Record) (s t : Parts D O) (b c : Bool) → LogsRecord g r s.base t.base → Logs (r ∷ []) (view_of g s b) (view_of g t c)
  logs_seen r s t b c logs = record { j = logs.j; waiting = logs.waiting; hardened = logs.hardened; now = logs.now }

  -- what they see of a record that was logged
  pub takes_seen : (r : Record) (s t : Parts D O) (b c : Bool) (result : Result ℕ StoreFault) → IfOk result (λ lsn. (lsn ≡ s.base.log.first + length s.base.log.buffered) × LogsRoom g r s t)
      → IfOk result (λ lsn. TakesRecord r lsn (view_of g s b) (view_of g t c))
  takes_seen r s t b c (Ok lsn) takes =
      let logs = takes.1 in
      record {
        number = takes.0;
        next = logs.next;
        room = omega (arith, logged_bytes g r s t logs);
        gate = logs.ends.near;
        tables = logs.tables;
        left = logs.left;
        counted = logs.pages;
      }
  takes_seen r s t b c (Err e) takes = tt

  -- and of time, whether it was or not
  pub time_logged : (r : Record) (s t : Parts D O) (b c : Bool) (result : Result ℕ StoreFault) → IfOk result (λ lsn. (lsn ≡ s.base.log.first + length s.base.log.buffered) × LogsRoom g r s t)
      → OnErr result (KeepsBase g s.base t.base) → MovesOn g (view_of g s b) (view_of g t c)
  time_logged r s t b c (Ok lsn) takes keeps = time_seen s t b c (record_end r) takes.1.ends
  time_logged r s t b c (Err e) takes keeps = time_seen s t b c 0 (ends_kept g s.base t.base keeps)

  -- and of a page that went home
  pub home_seen : (s t : Parts D O) (b c : Bool) (result : Result Bool StoreFault) → IfOk result (SavesOldest s.pool t.pool) → IfOk result (WritesHome (view_of g s b) (view_of g t c))
  home_seen s t b c (Ok true) saves =
      let one = saves.one refl in
      record {
        page = one.0;
        since = one.1;
        changed = since_held one.0 s.pool.frames ∙ one.2.some;
        least = λ q n is. one.2.least q n (sym (since_held q s.pool.frames) ∙ is);
        others = λ q. since_held q t.pool.frames ∙ one.3 q ∙ ap (λ (o : Option ℕ). if one.0 == q then None else o) (sym (since_held q s.pool.frames));
        frames = saves.more refl;
      }
  home_seen s t b c (Ok false) saves =
      let none = saves.none refl in
      record {
        none = λ q. since_held q s.pool.frames ∙ none.0 q;
        all = saves.all refl;
        same = record {
          held = ap (λ (p : Pooled). pages_held p.frames) none.1;
          frames = ap unchanged none.1;
          dirty = ap (λ (p : Pooled). some_dirty p.frames) none.1;
        };
      }
  home_seen s t b c (Err e) saves = tt

  -- how the call that wrote it answers
  pub wrote_seen : (s t : Parts D O) (result : Result Bool StoreFault) → IfOk result (SavesOldest s.pool t.pool) → IfOk result (λ wrote. wrote ≡ some_dirty s.pool.frames)
  wrote_seen s t (Ok wrote) saves = wrote_is s.pool.frames wrote (λ is. (saves.none is).0) (λ is. let o = saves.one is in (o.0, o.1, o.2))
  wrote_seen s t (Err e) saves = tt

  -- what waits takes a part of the buffer
  pub buffer_seen : (s : Parts D O) → HasBuffer s.base.log → waiting_bytes (waiting_of s.base) + (65536 - length (frames s.base.log.buffered)) ≡ 65536
  buffer_seen s has = let most = has.most in omega (arith, most, ap (λ (l : List (List ℕ)). length (frames l)) has.spelled)

  -- a growth
  pub grows_seen : (first : Image) → ((d : D) (c : Image) → g.since d (g.moment_of d) c → g.images d c) → (s t : Parts D O) (b c : Bool) → HasBuffer t.base.log → IsFold first g t → IsSoundImage first → GrowsBase g s.base t.base
      → AreBlank s.base.root.pages (grown s.base.root.pages) (state_of (now_of g s.base)) → GrowsByExtent g (view_of g s b) (view_of g t c)
  grows_seen first only_now s t b c has fold sound grows blank = record {
    hardened = grows.hardened;
    now = grows.now;
    blank = λ p low high inside.
        ap (λ (x : State). page_at p x.pages) grows.now ∙ blank p low (subst (λ (r : Root). p < r.pages) grows.root high) inside;
    durable = rests_seen first only_now t c has fold sound;
  }

  -- a page that is lent, or a call for one that was refused
  module _ (first : Image) (s t : Parts D O) (b : Bool) (old : View D) (is : view_of g s b ≡ old) (has : HasBuffer s.base.log) (goes : IsTrue g.tells → LeavesIf first g s.base t.base) (keeps : KeepsBase g s.base t.base) (meta : t.meta ≡ s.meta) where
    pub page_fails : {T U : Type 0} (e : StoreFault) → (IsTrue g.tells → IsSoundImage first → e ≡ Fault) → HasFault {T = U} Fault (g.faults_of s.base.disk) (g.faults_of t.base.disk) (Err e) → LeavesPage {T = T} first g old (view_of g t true) (Err e)
    page_fails {T} {U} e only f =
        subst (λ (v : View D). LeavesPage {T = T} first g v (view_of g t true) (Err e)) is
        (record {
          any_moment = λ told sound. front_seen s t b true has (goes told sound);
          logs = λ told sound. tt;
          keeps = keeps_seen s t b true keeps meta;
          time = time_seen s t b true 0 (ends_kept g s.base t.base keeps);
          going = tt;
          stopped = refl;
          refused = λ told sound. ap Err (only told sound);
          faults = record {
            later = f.later;
            failed = λ same. f.failed (ap Err (one e Fault same));
            fine = λ other. f.fine (λ same. other (ap Err (one_of e Fault same)));
          };
        })
      where
        one : (x y : StoreFault) → failed_with T x ≡ failed_with T y → x ≡ y
        one x y same = cc same

        one_of : (x y : StoreFault) → failed_with U x ≡ failed_with U y → x ≡ y
        one_of x y same = cc same

    pub page_lends : {T U : Type 0} (x : T) (u : U) → b ≡ false → (IsTrue g.tells → MovesIf first g s.base t.base) → HasFault {T = U} Fault (g.faults_of s.base.disk) (g.faults_of t.base.disk) (Ok u) → LeavesPage {T = T} first g old (view_of g t b) (Ok x)
    page_lends {T} {U} x u going moves f =
        subst (λ (v : View D). LeavesPage {T = T} first g v (view_of g t b) (Ok x)) is
        (record {
          any_moment = λ told sound. front_seen s t b b has (goes told sound);
          logs = λ told sound. logs_moved s t b b (moves told sound);
          keeps = keeps_seen s t b b keeps meta;
          time = time_seen s t b b 0 (ends_kept g s.base t.base keeps);
          going = going;
          stopped = tt;
          refused = λ told sound. tt;
          faults = record { later = f.later; failed = λ same. absurd (ok_isnt x Fault same); fine = λ other. f.fine (ok_isnt u Fault) };
        })

    -- either of both
    pub page_left : {T : Type 0} (r : Result T StoreFault) → b ≡ false → (IsTrue g.tells → OnOk r (MovesIf first g s.base t.base)) → (IsTrue g.tells → IfErr r (λ e. IsSoundImage first → e ≡ Fault)) → HasFault {T = T} Fault (g.faults_of s.base.disk) (g.faults_of t.base.disk) r
        → LeavesPage {T = T} first g old (view_of g t (is_err r)) r
    page_left {T} (Ok x) going moves only f = subst (λ (k : Bool). LeavesPage {T = T} first g old (view_of g t k) (Ok x)) going (page_lends x x going moves f)
    page_left {T} (Err e) going moves only f = page_fails {T = T} {U = T} e only f

  -- no call of the disk was made
  keeps_none : (a : Base D O) → KeepsBase g a a
  keeps_none a = record {
    root = refl;
    file = refl;
    older = refl;
    start = refl;
    ends = refl;
    goes = record { later = omega arith; stray = inl refl };
    size = omega arith;
    next = refl;
    waits = inl refl;
    stray = λ none. refl;
  }

  moves_none : (a : Base D O) → MovesBase g a a
  moves_none a = record { j = 0; at_most = omega arith; waiting = refl; hardened = refl; now = refl; root = refl; file = refl; place = omega arith; all = refl; pages = λ q. refl }

  -- no page was asked for
  pub page_unread : {T : Type 0} (first : Image) → ((d : D) (c : Image) → g.since d (g.moment_of d) c → g.images d c) → (s : Parts D O) (b : Bool) (old : View D) → view_of g s b ≡ old → HasBuffer s.base.log → b ≡ false
      → (IsTrue g.tells → IsFold first g s) → (x : T) → LeavesPage {T = T} first g old old (Ok x)
  page_unread {T} first only_now s b old is has going fold x =
      let none : HasFault {T = T} Fault (g.faults_of s.base.disk) (g.faults_of s.base.disk) (Ok x) = record { later = omega arith; failed = λ same. absurd (ok_isnt x Fault same); fine = λ other. refl } in
      subst (λ (v : View D). LeavesPage {T = T} first g old v (Ok x)) is
      (page_lends first s s b old is has (λ told. rests_leaves g first only_now s.base (fold told).over.at_rest) (keeps_none s.base) refl x x going (λ told sound. moves_none s.base) none)
