-- What is opened stands over the pool, and nothing is pending where the disk was sound.
use Rattle.std.proofs.Common.{◌≡◌, ◌≢◌, ◌⊎◌, inl, inr, ⊎_elim, ℕ, ◌+◌, ◌*◌, ◌≤◌, List, [], ◌∷◌, length, take, Option, Some, None, Result, Ok, Err, refl, sym, ◌∙◌, ap, subst, arith}
use Rattle.std.specs.Prelude.{max, IfOk, IfErr}
use Rattle.std.proofs.Math.Seq.{take-nil}
use Rattle.std.proofs.lemmas.List.{append-nil, length-map}
use Rattle.ctr_types.specs.Damage.{damage_of}
use Rattle.ctr_types.specs.declared.file.Damage.{Damage}
use Rattle.ctr_types.specs.declared.file.File.{File}
use Rattle.ctr_types.specs.declared.file.File.TheVariants.{Pages}
use Rattle.ctr_types.specs.declared.memory.OutOfMemory.{OutOfMemory as WantOfMemory}
use Rattle.ctr_types.specs.Faults.{HasFault}
use Rattle.ctr_disk.specs.declared.fault.StoreFault.{StoreFault}
use Rattle.ctr_disk.specs.declared.fault.StoreFault.TheVariants as store
use Rattle.ctr_base.specs.ctr_home.Reading.{IsFaultOr}
use Rattle.ctr_base.specs.log_ReadError.{ReadError}
use Rattle.ctr_base.specs.log_ReadError.TheVariants as read
use Rattle.ctr_base.specs.log_VisitError.{VisitError}
use Rattle.ctr_base.specs.log_VisitError.TheVariants as visit
use Rattle.ctr_base.specs.log_LogChecks.{kept_damage, sound_kept_visits, IsThisDamage}
use Rattle.ctr_base.specs.Opening.{FindsRoot, IsRootDamage}
use Rattle.ctr_base.specs.log_OpenError.TheVariants as open_error
use Rattle.ctr_disk.specs.declared.disk.Disk.{Ghosts}
use Rattle.ctr_base.specs.ctr_home.declared.root.Root.{Root}
use Rattle.ctr_disk.specs.Device.{LeavesOnly, IsDurable}
use Rattle.ctr_disk.specs.Image.{Image, content}
use Rattle.ctr_base.specs.ctr_home.declared.block.Block.TheVariants.{Root as RootBlock}
use Rattle.ctr_base.specs.ctr_home.Blocks.{value_of}
use Rattle.ctr_base.specs.ctr_home.Roots.{SaysRoot, root_block}
use Rattle.ctr_base.specs.log_Visit.{Visit}
use Rattle.ctr_base.specs.log_Visits.{kept_visits, StopsAt, OnRead, EndsEarly, IsToldBy}
use Rattle.ctr_base.proofs.log_VisitLaws.{kept_bytes}
use Rattle.ctr_base.specs.ctr_home.Checks.{check_of, judged}
use Rattle.ctr_base.proofs.log_KeptLaws.{picks}
use Rattle.ctr_base.specs.meta_Effects.{tables_of}
use Rattle.ctr_base.specs.meta_Tables.{no_tables}
use Rattle.ctr_base.specs.log_Logs.{Log, Batches, GoesOn}
use Rattle.ctr_base.specs.log_Kept.{kept_log, OpensKept, StartsAt, WritesBehind}
use Rattle.ctr_rec.specs.declared.record.Record.{Record}
use Rattle.ctr_rec.specs.Read.{record_in}
use Rattle.ctr_base.specs.redo_States.{state_of, steps, next_of}
use Rattle.ctr_base.specs.redo_Images.{records_in, stored_in, IsSound, FoldsFront, IsLogFile}
use Rattle.ctr_base.specs.meta_Tables.{no_tables}
use Rattle.ctr_base.specs.redo_Fitting.{EachFits, MayFollow}
use Rattle.ctr_base.proofs.redo_FitLaws.{last_written}
use Rattle.ctr_base.proofs.redo_ImageLaws.{last_is_log}
use Rattle.ctr_base.specs.declared.base.Base.{Base}
use Rattle.ctr_base.specs.Base.{stored_of, waiting_of, StandsQuiet, MovesBase}
use Rattle.ctr_base.proofs.RootLaws.{one_root}
use Rattle.ctr_store.proofs.PartsLaws.{goes_more, writes_more}
use Rattle.ctr_store.specs.declared.parts.Parts.{Parts}
use Rattle.ctr_store.specs.declared.opening.Found.{Found}
use Rattle.ctr_base.specs.log_OpenError.{OpenError}
use Rattle.ctr_store.specs.RecordChecks.{SeenLog, FailsAs, AllPass, RefusesVisit, HasSeen, tables_seen}
use Rattle.ctr_base.specs.Homes.{HomesSince}
use Rattle.ctr_base.proofs.HomeLaws.{since_first}
use Rattle.ctr_store.specs.PageChecks.{PagesPass}
use Rattle.ctr_store.specs.Redo.{StartsRedo}
use Rattle.ctr_base.specs.log_Opening.{fault_told, read_told}
use Rattle.ctr_store.specs.Opening.{FindsFront, LogPasses, OverlaidPass, RefusesLog, IsLater, IsUndamaged, OpensParts, AnswersOpen, RefusesAs, opening_told, IsWornBy, worn_by, worn_in}

-- a log was read, and its writer has room
pub opens_room : (file first : ℕ) (image : Image) (log : Log) (room : ℕ) → OpensKept file first image log → OpensKept file first image (record log { room = room })
opens_room file first image log room k = record {
  stands = k.stands;
  older_is = k.older_is;
  file_is = k.file_is;
  next_is = k.next_is;
  goes_on = goes_more image log log.buffered room k.goes_on;
  starts = k.starts;
}

-- it goes on behind the log still
pub writes_room : (file first : ℕ) (image : Image) (log : Log) (room : ℕ) → WritesBehind file first log image → WritesBehind file first (record log { room = room }) image
writes_room file first image log room w = record { numbered = w.numbered; by = writes_more log.older file first log image log.buffered room w.by }

-- the tables that were read are those of the log
pub tables_found : (image : Image) (root : Root) (vs : List Visit) → vs ≡ kept_visits root.file root.first image → tables_seen vs ≡ tables_of (records_in (kept_log root.file root.first image))
tables_found image root vs is = ap tables_seen is ∙ ap (λ (l : List (List ℕ)). tables_of (records_in l)) (kept_bytes root.file root.first image)

-- a visitor that was given nothing yet
pub fresh_seen : (counts : ℕ → Type 0) (pages : ℕ) (s : SeenLog) → s ≡ record { visits = []; tables = no_tables; pages = pages } → counts pages → HasSeen counts s []
fresh_seen counts pages s is counted = (
  ap (λ (x : SeenLog). x.visits) is,
  λ i v there. absurd (cc there),
  subst counts (sym (ap (λ (x : SeenLog). x.pages) is)) counted,
)

-- how the reading of a log is refused
pub log_refused : (counts : ℕ → Type 0) (root : Root) (image : Image) (old new : SeenLog) (cause : VisitError ReadError) (e : ReadError) → ((n : ℕ) → counts n → n ≡ root.pages) → HasSeen counts old []
    → IsToldBy (λ (s : StoreFault) (x : ReadError). x ≡ read.Store s) (λ (w : WantOfMemory) (x : ReadError). x ≡ read.OutOfMemory) cause e
    → StopsAt (HasSeen counts) (RefusesVisit counts) old new (sound_kept_visits root.file root.first image) cause → OnRead (IsThisDamage (kept_damage root.file root.first image)) cause → RefusesLog root image e
log_refused counts root image old new (visit.Read (read.Store store.Fault)) e pages none told stops damage = subst (RefusesLog root image) (sym told) tt
log_refused counts root image old new (visit.Read (read.Store (store.Damaged d))) e pages none told stops damage =
    let sound = sound_kept_visits root.file root.first image in
    let seen = stops [] none in
    subst (RefusesLog root image) (sym told) (inl (damage, subst (λ (n : ℕ). AllPass n sound) (pages new.pages seen.2) seen.1))
log_refused counts root image old new (visit.Read read.OutOfMemory) e pages none told stops damage = subst (RefusesLog root image) (sym told.1) tt
log_refused counts root image old new (visit.Refused r) e pages none told stops damage =
    let given = stops.given in
    let v = stops.refused in
    subst (RefusesLog root image) (sym told)
    (⊎_elim (λ is. subst (RefusesLog root image) (sym is) tt)
    (λ w.
    let bad = w.3.0 in
    let counted = pages w.0 w.1 in
    subst (RefusesLog root image) (sym w.3.2)
    (inr (record {
      given = given;
      v = v;
      rest = stops.rest;
      all_are = stops.all_are;
      passed = subst (λ (n : ℕ). AllPass n given) counted w.2;
      bad = bad;
      fails = subst (λ (n : ℕ). FailsAs n v.at (tables_seen given) v.bytes bad) counted w.3.1;
      told = refl;
    })))
    (stops.because [] none))

-- What a visitor refuses a record with is no fault, so the reading of a log counts as the log's own does.
pub log_faults : (counts : ℕ → Type 0) (old : SeenLog) (cause : VisitError ReadError) (e : ReadError) → HasSeen counts old []
    → IsToldBy (λ (s : StoreFault) (x : ReadError). x ≡ read.Store s) (λ (w : WantOfMemory) (x : ReadError). x ≡ read.OutOfMemory) cause e
    → EndsEarly (HasSeen counts) (RefusesVisit counts) old cause → {T U : Type 0} (before now : ℕ) → HasFault {T = T} (visit.Read (read.Store store.Fault)) before now (Err cause)
    → HasFault {T = U} (read.Store store.Fault) before now (Err e)
log_faults counts old (visit.Read (read.Store store.Fault)) e none told early before now h = record {
  later = h.later;
  failed = λ is. h.failed refl;
  fine = λ isnt. absurd (isnt (ap Err told));
}
log_faults counts old (visit.Read (read.Store (store.Damaged d))) e none told early before now h = record {
  later = h.later;
  failed = λ is. absurd (cc (told, is));
  fine = λ isnt. h.fine (λ is. cc is);
}
log_faults counts old (visit.Read read.OutOfMemory) e none told early before now h = record {
  later = h.later;
  failed = λ is. absurd (cc (told.1, is));
  fine = λ isnt. h.fine (λ is. cc is);
}
log_faults counts old (visit.Refused r) e none told early before now h = record {
  later = h.later;
  failed = λ is.
      let one = early.1 in
      absurd (⊎_elim (λ memory. cc (told, memory, is)) (λ w. cc (told, w.3.2, is)) (one.because [] none));
  fine = λ isnt. h.fine (λ is. cc is);
}

-- a root that is damaged is there
root_there : (image : Image) (d : Damage) → IsRootDamage image (store.Damaged d) → value_of RootBlock image ≢ None
root_there image d is none = ⊎_elim (λ w. absurd (cc (w.1, none))) (λ w. absurd (cc (w.1.0, none))) is

-- a refusal of the root
pub root_refused : (image : Image) (e : StoreFault) → IsFaultOr (IsRootDamage image) e → RefusesAs image (fault_told e)
root_refused image store.Fault is = tt
root_refused image (store.Damaged d) is = (root_there image d is, inl is)

-- one check fails only where what is there isn't what is wanted
one_fails : (file : File) (at want got : ℕ) (e : StoreFault) → judged file (check_of at want got ∷ []) ≡ Err e → want ≢ got
one_fails file at want got e failed same =
    let passed : judged file (check_of at want got ∷ []) ≡ Ok tt = picks want got (Ok tt) (Err (store.Damaged (damage_of file at want got))) same in
    absurd (cc (failed, passed))

-- a sound image has no such damage
pub root_undamaged : (image : Image) (e : StoreFault) (root : Root) → IsSound root image → IsFaultOr (IsRootDamage image) e → IsUndamaged (fault_told e)
root_undamaged image store.Fault root sound is = tt
root_undamaged image (store.Damaged d) root sound is =
    ⊎_elim
    (λ w.
    let value = w.0 in
    let same : Some value ≡ Some (root_block root) = sym w.1 ∙ sound.says.0 in
    let block : value ≡ root_block root = cc same in
    absurd (w.2.1 root block sound.says.1))
    (λ w.
    let r = w.0 in
    let one : r ≡ root = one_root (value_of RootBlock image) r root w.1 sound.says in
    let len = length (content Pages image) in
    let size = sound.size in
    absurd (one_fails Pages 0 (max len (r.pages * 8256)) len (store.Damaged d) w.2 (omega (arith, size, ap (λ (x : Root). x.pages) one))))
    is

pub read_undamaged : (e : ReadError) → (e ≡ read.Store store.Fault) ⊎ (e ≡ read.OutOfMemory) → IsUndamaged (read_told e)
read_undamaged e (inl is) = subst (λ (x : ReadError). IsUndamaged (read_told x)) (sym is) tt
read_undamaged e (inr is) = subst (λ (x : ReadError). IsUndamaged (read_told x)) (sym is) tt

-- behind the log
pub later_undamaged : (e : OpenError) → (e ≡ open_error.Fault) ⊎ (e ≡ open_error.OutOfMemory) → IsUndamaged e
later_undamaged e (inl is) = subst IsUndamaged (sym is) tt
later_undamaged e (inr is) = subst IsUndamaged (sym is) tt

-- a refusal as worn
pub worn_undamaged : {T D : Type 0} (w : Option ℕ) (r : Result T (OpenError × D)) → IsWornBy w r → IfErr r (λ e. IsUndamaged e.0)
worn_undamaged w (Ok t) is = tt
worn_undamaged None (Err e) is = absurd is
worn_undamaged (Some n) (Err e) is = subst IsUndamaged (sym is) tt

-- and no fault
pub worn_faults : {T D : Type 0} (w : Option ℕ) (r : Result T (OpenError × D)) (before now : ℕ) → IsWornBy w r → now ≡ before → HasFault open_error.Fault before now (opening_told r)
worn_faults w (Ok t) before now is same = record { later = omega (arith, same); failed = λ told. cc told; fine = λ isnt. same }
worn_faults None (Err e) before now is same = absurd is
worn_faults (Some n) (Err e) before now is same = record { later = omega (arith, same); failed = λ told. absurd (cc (is, told)); fine = λ isnt. same }

-- of the log
pub read_refused : (image : Image) (root : Root) (e : ReadError) → FindsRoot image (Some root) → RefusesLog root image e → RefusesAs image (read_told e)
read_refused image root (read.Store store.Fault) says refused = tt
read_refused image root (read.Store (store.Damaged d)) says refused = ((λ none. absurd (cc (says.0.0, none))), inr (root, says, inl refused))
read_refused image root read.OutOfMemory says refused = λ none. absurd (cc (says.0.0, none))

-- and behind it
pub later_refused : (image : Image) (root : Root) (e : OpenError) → FindsRoot image (Some root) → LogPasses root image → IsLater root image e → RefusesAs image e
later_refused image root open_error.NoDatabase says passes later = absurd later
later_refused image root (open_error.Damaged d) says passes later = ((λ none. absurd (cc (says.0.0, none))), inr (root, says, inr (passes, later)))
later_refused image root (open_error.Worn n) says passes later = absurd later
later_refused image root open_error.Fault says passes later = tt
later_refused image root open_error.OutOfMemory says passes later = λ none. absurd (cc (says.0.0, none))

module _ {D O : Type 0} (first : Image) (g : Ghosts D) where
  pub rests_opened : (d : D) (root : Root) (f : Found) (durable : ℕ) → FindsFront first root f → IsDurable g d → g.reads d ≡ first → durable ≡ f.log.first + length f.log.buffered
      → (b : Base D O) → b.disk ≡ d → b.log ≡ f.log → b.root ≡ root → b.durable ≡ durable → StandsQuiet first g b
  rests_opened d root f durable front only same next b disk_is log_is root_is durable_is =
      let kept = kept_log root.file root.first first in
      let found = front.log in
      let here : g.reads b.disk ≡ first = ap (λ (x : D). g.reads x) disk_is ∙ same in
      let next_is : f.log.first ≡ next_of (stored_in root first) = found.kept.next_is ∙ omega (arith, length-map kept record_in) in
      let stored : next_of (stored_of g b) ≡ next_of (stored_in root first) = ap (λ (r : Root). next_of (stored_in r (g.reads b.disk))) root_is ∙ ap (λ (i : Image). next_of (stored_in root i)) here in
      record {
        stands = record {
          says = subst (λ (i : Image). SaysRoot (value_of RootBlock i) b.root) (sym here) (subst (SaysRoot (value_of RootBlock first)) (sym root_is) front.stands.0);
          file = subst (λ l. IsLogFile l.file) (sym log_is) (subst IsLogFile (sym found.kept.file_is) (last_is_log f.log.older root.file));
          goes_on = subst (λ l. (oldest : ℕ) × (bs : Batches) × GoesOn oldest bs l (g.reads b.disk)) (sym log_is)
              (subst (λ (i : Image). (oldest : ℕ) × (bs : Batches) × GoesOn oldest bs f.log i) (sym here) found.kept.goes_on);
          size = subst (λ (r : Root). 8256 * r.pages ≤ length (content Pages (g.reads b.disk))) (sym root_is) (subst (λ (i : Image). 8256 * root.pages ≤ length (content Pages i)) (sym here) front.stands.1);
          starts = subst (λ l. StartsAt l.older b.root.first l.start) (sym log_is) (subst (λ (r : Root). StartsAt f.log.older r.first f.log.start) (sym root_is) found.kept.starts);
        };
        since = subst (λ (r : Root). HomesSince first r.pages (g.reads b.disk)) (sym root_is) (since_first first root (g.reads b.disk) front.stands.0 here);
        quiet = λ sound.
            let s : IsSound root first = subst (λ (r : Root). IsSound r first) (one_root (value_of RootBlock first) sound.0 root sound.1.says front.stands.0) sound.1 in
            let writes = found.goes_on kept s.log in
            record {
              only = subst (λ (x : D). IsDurable g x) (sym disk_is) only;
              sound = subst (λ (r : Root). IsSound r (g.reads b.disk)) (sym root_is) (subst (IsSound root) (sym here) s);
              writes = subst (λ l. WritesBehind b.root.file b.root.first l (g.reads b.disk)) (sym log_is)
                  (subst (λ (r : Root). WritesBehind r.file r.first f.log (g.reads b.disk)) (sym root_is) (subst (WritesBehind root.file root.first f.log) (sym here) writes));
              follows = subst (λ l. MayFollow b.root l.file l.buffered (g.reads b.disk)) (sym log_is)
                  (subst (λ (r : Root). MayFollow r f.log.file f.log.buffered (g.reads b.disk)) (sym root_is)
                  (subst (λ (i : Image). MayFollow root f.log.file f.log.buffered i) (sym here)
                  (subst (λ (l : List (List ℕ)). MayFollow root f.log.file l first) (sym found.none)
                  (record {
                    file_is = last_written root.file root.first first f.log.older f.log writes.by;
                    fits = subst (EachFits root.pages no_tables) (sym (append-nil kept)) s.fits;
                    changes = tt;
                  }))));
              durable = durable_is ∙ next ∙ omega (arith, next_is, ap (λ (l : List (List ℕ)). length l) found.none) ∙ sym stored;
              first = ap (λ l. l.first) log_is ∙ next_is ∙ sym stored;
            };
      }

  -- redo starts on it
  pub starts_opened : (root : Root) (f : Found) → FindsFront first root f → {d : D} → g.reads d ≡ first → (b : Base D O) → b.disk ≡ d → b.log ≡ f.log → b.root ≡ root → StartsRedo first g b
  starts_opened root f front {d} same b disk_is log_is root_is =
      let kept = kept_log root.file root.first first in
      let here : g.reads b.disk ≡ first = ap (λ (x : D). g.reads x) disk_is ∙ same in
      let next_is : f.log.first ≡ next_of (stored_in root first) = front.log.kept.next_is ∙ omega (arith, length-map kept record_in) in
      record {
        says = subst (SaysRoot (value_of RootBlock first)) (sym root_is) front.stands.0;
        reads = here;
        next = ap (λ l. l.first) log_is ∙ next_is ∙ sym (ap (λ (r : Root). next_of (stored_in r (g.reads b.disk))) root_is ∙ ap (λ (i : Image). next_of (stored_in root i)) here);
      }

  -- the pages that its log's records are on pass
  pub pages_opened : (a : Base D O) (root : Root) → a.root ≡ root → g.reads a.disk ≡ first → PagesPass (next_of (stored_of g a)) first (stored_of g a).records → OverlaidPass root first
  pages_opened a root root_is same pages =
      subst (λ (i : Image). PagesPass (next_of (stored_in root i)) first (stored_in root i).records) same
      (subst (λ (r : Root). PagesPass (next_of (stored_in r (g.reads a.disk))) first (stored_in r (g.reads a.disk)).records) root_is pages)

  -- what a crash leaves of a call, where none waits and the disk reads as the first image
  pub leaves_first : (b : Base D O) (d : D) (root : Root) → b.root ≡ root → b.log.buffered ≡ [] → g.reads b.disk ≡ first
      → LeavesOnly g b.disk d (FoldsFront (state_of (stored_of g b)) (waiting_of b)) → LeavesOnly g b.disk d (FoldsFront (state_of (stored_in root first)) [])
  leaves_first b d root root_is none same leaves =
      let P : Root → Image → List (List ℕ) → Type 0 = λ r i l. LeavesOnly g b.disk d (FoldsFront (state_of (stored_in r i)) (records_in l)) in
      subst (λ (l : List (List ℕ)). P root first l) none
      (subst (λ (i : Image). P root i b.log.buffered) same (subst (λ (r : Root). P r (g.reads b.disk) b.log.buffered) root_is leaves))

  -- the state is as it was, where none waited
  pub state_first : (a b : Base D O) (root : Root) → a.root ≡ root → a.log.buffered ≡ [] → g.reads a.disk ≡ first → MovesBase g a b → state_of (stored_of g b) ≡ state_of (stored_in root first)
  state_first a b root root_is none same m =
      let s = state_of (stored_of g a) in
      m.hardened ∙ ap (λ (l : List (List ℕ)). steps (take m.j (records_in l)) s) none ∙ ap (λ (l : List Record). steps l s) (take-nil m.j)
      ∙ ap (λ (r : Root). state_of (stored_in r (g.reads a.disk))) root_is ∙ ap (λ (i : Image). state_of (stored_in root i)) same

  -- what was opened is answered, or refused as worn
  pub answered : (s : Parts D O) (root : Root) → FindsRoot first (Some root) → OpensParts first g root s → (r : Result (Parts D O) (OpenError × D)) → IfOk r (λ t. t ≡ s)
      → IsWornBy (worn_by (s.base.log.first + length s.base.log.buffered) s.meta.tables.next) r → AnswersOpen first g r
  answered s root says opens r same worn =
      by_worn r (worn_by (s.base.log.first + length s.base.log.buffered) s.meta.tables.next) same worn
      (ap (λ (n : ℕ). worn_by n (tables_of (records_in (kept_log root.file root.first first))).next) (sym opens.next) ∙ ap (λ t. worn_by (s.base.log.first + length s.base.log.buffered) t.next) (sym opens.tables))
    where
      by_worn : (x : Result (Parts D O) (OpenError × D)) (w : Option ℕ) → IfOk x (λ t. t ≡ s) → IsWornBy w x → worn_in root first ≡ w → AnswersOpen first g x
      by_worn (Ok t) None is told eq =
          subst (λ (u : Parts D O). FindsRoot first (Some u.base.root) × OpensParts first g u.base.root u × (worn_in u.base.root first ≡ None)) (sym is)
          (subst (λ (q : Root). FindsRoot first (Some q) × OpensParts first g q s × (worn_in q first ≡ None)) (sym opens.root_is) (says, opens, eq))
      by_worn (Ok t) (Some n) is told eq = absurd told
      by_worn (Err e) None is told eq = absurd told
      by_worn (Err e) (Some n) is told eq = subst (RefusesAs first) (sym told) (root, says, opens.passes, opens.pages, eq)
