-- The log of a sound image passes all checks.
use Rattle.std.proofs.Common.{◌≡◌, ◌≢◌, ◌⊎◌, inl, inr, ⊎_elim, ℕ, zero, suc, ◌+◌, ◌-◌, ◌^◌, ◌<◌, ◌≤◌, ◌==◌, Bool, true, false, if◌then◌else◌, List, [], ◌∷◌, ◌++◌, length, take, drop, get_or, slice_get, Option, Some, None, Result, Ok, Err, refl, sym, ◌∙◌, ap, subst, arith, append_assoc}
use Rattle.std.specs.Prelude.{⊤}
use Rattle.std.proofs.lemmas.Bool.{lt-ltb}
use Rattle.std.proofs.lemmas.Bool.Decides.{eqb_tells}
use Rattle.std.proofs.lemmas.List.{take_at}
use Rattle.ctr_types.specs.declared.file.File.{File}
use Rattle.ctr_types.specs.declared.memory.OutOfMemory.{OutOfMemory as WantOfMemory}
use Rattle.ctr_base.specs.ctr_home.declared.root.Root.{Root}
use Rattle.ctr_disk.specs.declared.fault.StoreFault.{StoreFault}
use Rattle.ctr_disk.specs.declared.fault.StoreFault.TheVariants as store
use Rattle.ctr_disk.specs.Image.{Image, content}
use Rattle.ctr_rec.specs.bytes_Fields.{field}
use Rattle.ctr_rec.proofs.bytes_FieldLaws.{field-drop}
use Rattle.ctr_base.specs.log_Logs.{Batches, frames, batch, batches, records, AreBatches, HasLog}
use Rattle.ctr_base.specs.log_Reading.{log_file}
use Rattle.ctr_base.specs.log_Kept.{AreShort, log_in, kept_log, other_file, has_newer, HoldsLog, RefusesKept}
use Rattle.ctr_base.specs.log_Visits.{frame_visits, batch_visits, file_visits, kept_visits, visit_bytes, StopsAt, OnRead, IsToldBy}
use Rattle.ctr_base.specs.log_Visit.{Visit}
use Rattle.ctr_base.specs.log_VisitError.{VisitError}
use Rattle.ctr_base.specs.log_VisitError.TheVariants as visit
use Rattle.ctr_base.specs.log_ReadError.{ReadError}
use Rattle.ctr_base.specs.log_ReadError.TheVariants as read
use Rattle.ctr_base.proofs.log_KeptLaws.{picks, passes, begins}
use Rattle.ctr_base.specs.log_LogChecks.{sound_kept_visits}
use Rattle.ctr_base.proofs.log_LogLemmas.{batch_count}
use Rattle.ctr_base.proofs.log_SoundLaws.{kept_front}
use Rattle.ctr_base.proofs.log_VisitLaws.{file_bytes, kept_bytes}
use Rattle.ctr_rec.specs.declared.decoding.BadRecord.{BadRecord}
use Rattle.ctr_rec.specs.declared.record.Overlay.{Overlay}
use Rattle.ctr_rec.specs.declared.record.Record.{Record}
use Rattle.ctr_rec.specs.Damage.{wrong, expect, checks}
use Rattle.ctr_rec.specs.Table.{layout}
use Rattle.ctr_rec.specs.Parts.{form_of}
use Rattle.ctr_rec.specs.Checkpoint.{checkpoint_checks}
use Rattle.ctr_rec.specs.Spelling.{record_bytes}
use Rattle.ctr_rec.specs.Records.{IsRecord}
use Rattle.ctr_rec.specs.Read.{record_in}
use Rattle.ctr_rec.proofs.Forms.{reads, parts_pass}
use Rattle.ctr_rec.proofs.RecordForms.{one_record, is_checkpoint, is_fields}
use Rattle.ctr_base.specs.meta_Tables.{Tables, no_tables}
use Rattle.ctr_base.specs.meta_Effects.{effect}
use Rattle.ctr_base.specs.meta_Needs.{needs}
use Rattle.ctr_base.specs.redo_Overlaid.{overlay_of}
use Rattle.ctr_base.specs.redo_Fitting.{LiesInside, EachFits, HaveNoCheckpoint, BeginsOnce}
use Rattle.ctr_base.specs.redo_Images.{IsSound}
use Rattle.ctr_base.proofs.redo_PageLaws.{either}
use Rattle.ctr_base.proofs.redo_FitLaws.{tables_behind, tables_behind_is, newer_out, choose_yes, choose_no}
use Rattle.ctr_store.specs.RecordChecks.{SeenLog, first_record_check, overlay_page_check, IsRefusedBytes, PassesAs, FailsAs, AllPass, RefusesVisit, HasSeen, tables_seen}

-- ---- places

placed_first : (bytes : List ℕ) → field 1 0 bytes ≡ 1 → first_record_check 29 bytes ≡ Ok tt
placed_first bytes one = ap (λ (n : ℕ). expect 0 1 n) one

placed_behind : (at : ℕ) (bytes : List ℕ) → 30 ≤ at → field 1 0 bytes ≢ 1 → first_record_check at bytes ≡ Ok tt
placed_behind at bytes behind other =
    let n = field 1 0 bytes in
    passes at 29 (expect 0 1 n) (if n == 1 then Err (wrong 0 18 1) else Ok tt) (λ is. absurd (omega (arith, behind, is))) ∙ passes n 1 (Err (wrong 0 18 1)) (Ok tt) other

-- each visit is at a place or behind it
abbrev AtLeast : ℕ → List Visit → Type 0
AtLeast n [] = Unit {0}
AtLeast n (v ∷ vs) = (n ≤ v.at) × AtLeast n vs

-- each stands where such a record may
abbrev Placed : List Visit → Type 0
Placed [] = Unit {0}
Placed (v ∷ vs) = (first_record_check v.at v.bytes ≡ Ok tt) × Placed vs

least_append : (n : ℕ) (xs ys : List Visit) → AtLeast n xs → AtLeast n ys → AtLeast n (xs ++ ys)
least_append n [] ys here behind = behind
least_append n (x ∷ xs) ys here behind = (here.0, least_append n xs ys here.1 behind)

least_if : (n : ℕ) (b : Bool) (xs : List Visit) → AtLeast n xs → AtLeast n (if b then xs else [])
least_if n true xs here = here
least_if n false xs here = tt

frame_least : (m : ℕ) (file : File) (lsn at n : ℕ) (bytes : List ℕ) → m ≤ at + 8 → AtLeast m (frame_visits file lsn at n bytes)
frame_least m file lsn at zero bytes low = tt
frame_least m file lsn at (suc n) bytes low = (low, frame_least m file (lsn + 1) (at + (8 + field 8 0 bytes)) n (drop (8 + field 8 0 bytes) bytes) (omega (arith, low)))

batch_least : (m : ℕ) (file : File) (lsn gate n : ℕ) (bytes : List ℕ) → m ≤ gate + 29 → AtLeast m (batch_visits file lsn gate n bytes)
batch_least m file lsn gate zero bytes low = tt
batch_least m file lsn gate (suc n) bytes low =
    let len = field 8 1 bytes in
    let count = field 4 17 bytes in
    let here = frame_visits file lsn (gate + 21) count (take len (drop 21 bytes)) in
    let behind = batch_visits file (lsn + count) (gate + (21 + len)) n (drop (21 + len) bytes) in
    least_if m (get_or bytes 0 0 == 1) (here ++ behind)
    (least_append m here behind (frame_least m file lsn (gate + 21) count (take len (drop 21 bytes)) (omega (arith, low))) (batch_least m file (lsn + count) (gate + (21 + len)) n (drop (21 + len) bytes) (omega (arith, low))))

placed_later : (vs : List Visit) → AtLeast 30 vs → HaveNoCheckpoint (visit_bytes vs) → Placed vs
placed_later [] least none = tt
placed_later (v ∷ vs) least none = (placed_behind v.at v.bytes least.0 none.0, placed_later vs least.1 none.1)

placed_append : (xs ys : List Visit) → Placed xs → Placed ys → Placed (xs ++ ys)
placed_append [] ys here behind = behind
placed_append (x ∷ xs) ys here behind = (here.0, placed_append xs ys here.1 behind)

-- the first batch of a file has a record
batch_some : (first : ℕ) (bs : Batches) (bytes : List ℕ) → HasLog first bs bytes → AreShort bs → first < 2 ^ 64 → 1 ≤ field 4 17 bytes
batch_some first bs bytes log short low = by_batches bs log.some log.batches_are.each log.batches_are.bytes_are short
  where
    by_batches : (bs : Batches) → 0 < length bs → AreBatches bs → bytes ≡ batches first bs ++ log.batches_are.gate ∷ log.batches_are.rest → AreShort bs → 1 ≤ field 4 17 bytes
    by_batches [] some each is fits = absurd (omega (arith, some))
    by_batches (rs ∷ bs) some each is fits =
        let tail = batches (first + length rs) bs ++ log.batches_are.gate ∷ log.batches_are.rest in
        let split : bytes ≡ 1 ∷ (batch first rs ++ tail) = is ∙ ap (λ (l : List ℕ). 1 ∷ l) (append_assoc (batch first rs) (batches (first + length rs) bs) (log.batches_are.gate ∷ log.batches_are.rest)) in
        let long : length (frames rs) < 2 ^ 64 = fits.0 in
        let one = each.0 in
        let some_record = one.0 in
        let count : field 4 17 bytes ≡ length rs = ap (field 4 17) split ∙ sym (field-drop 4 16 1 (1 ∷ (batch first rs ++ tail))) ∙ batch_count first rs tail long low one.1 in
        omega (arith, some_record, count)

-- the visits of a file whose first batch has a record
first_placed : (file : File) (lsn n : ℕ) (part : List ℕ) (behind : List Visit) → 1 ≤ n → AtLeast 30 behind → BeginsOnce (visit_bytes (frame_visits file lsn 21 n part ++ behind)) → Placed (frame_visits file lsn 21 n part ++ behind)
first_placed file lsn zero part behind some least once = absurd (omega (arith, some))
first_placed file lsn (suc n) part behind some least once =
    let rest = frame_visits file (lsn + 1) (21 + (8 + field 8 0 part)) n (drop (8 + field 8 0 part) part) in (
      placed_first (take (field 8 0 part) (drop 8 part)) once.0,
      placed_later (rest ++ behind) (least_append 30 rest behind (frame_least 30 file (lsn + 1) (21 + (8 + field 8 0 part)) n (drop (8 + field 8 0 part) part) (omega arith)) least) once.1,
    )

file_placed : (file : File) (lsn first : ℕ) (bs : Batches) (bytes : List ℕ) → HasLog first bs bytes → AreShort bs → first < 2 ^ 64 → BeginsOnce (log_in bytes) → Placed (file_visits file lsn bytes)
file_placed file lsn first bs bytes log short low once =
    by_bytes bytes (begins first bs bytes log short low).0 (batch_some first bs bytes log short low) (subst BeginsOnce (sym (file_bytes file lsn bytes)) once)
  where
    by_bytes : (l : List ℕ) → get_or l 0 0 ≡ 1 → 1 ≤ field 4 17 l → BeginsOnce (visit_bytes (file_visits file lsn l)) → Placed (file_visits file lsn l)
    by_bytes [] open_ some once = absurd (omega (arith, open_))
    by_bytes (x ∷ l) open_ some once =
        let whole = x ∷ l in
        let len = field 8 1 whole in
        let count = field 4 17 whole in
        let part = take len (drop 21 whole) in
        let here = frame_visits file lsn 21 count part in
        let gate = 0 + (21 + len) in
        let behind = batch_visits file (lsn + count) gate (length l) (drop (21 + len) whole) in
        let is : file_visits file lsn whole ≡ here ++ behind = picks x 1 (here ++ behind) [] open_ in
        subst Placed (sym is) (first_placed file lsn count part behind some (batch_least 30 file (lsn + count) gate (length l) (drop (21 + len) whole) (omega arith)) (subst (λ (vs : List Visit). BeginsOnce (visit_bytes vs)) is once))

-- ---- records

overlay_passes : (pages len : ℕ) (o : Option Overlay) → LiesInside pages o → overlay_page_check pages len o ≡ Ok tt
overlay_passes pages len None inside = refl
overlay_passes pages len (Some o) inside = ap (λ (b : Bool). if b then Ok tt else Err (wrong (len - length o.bytes - 9) (pages - 1) o.page)) (lt-ltb o.page pages inside)

each_passes : (pages : ℕ) (t : Tables) (vs : List Visit) → EachFits pages t (visit_bytes vs) → Placed vs → (i : ℕ) (v : Visit) → slice_get vs i ≡ Some v
    → PassesAs pages v.at (tables_behind t (visit_bytes (take i vs))) v.bytes (record_in v.bytes)
each_passes pages t [] fits placed i v is = absurd (cc is)
each_passes pages t (x ∷ vs) fits placed zero v is =
    let same : x ≡ v = cc is in
    subst (λ (y : Visit). PassesAs pages y.at t y.bytes (record_in y.bytes)) same
    (record {
      logged = fits.0.logged;
      bytes_are = fits.0.bytes_are;
      place = placed.0;
      counted = overlay_passes pages (length x.bytes) (overlay_of (record_in x.bytes)) fits.0.inside;
      fits = fits.0.needed;
    })
each_passes pages t (x ∷ vs) fits placed (suc i) v is = each_passes pages (effect (record_in x.bytes) t) vs fits.1 placed.1 i v is

module _ (root : Root) (image : Image) (sound : IsSound root image) where
  abbrev named : List ℕ
  named = content (log_file root.file) image

  abbrev other : List ℕ
  other = content (other_file root.file) image

  abbrev from_named : List Visit
  from_named = file_visits (log_file root.file) root.first named

  abbrev from_other : List Visit
  from_other = file_visits (other_file root.file) (root.first + length (log_in named)) other

  by_held : (rs : List (List ℕ)) → HoldsLog root.file root.first rs image → Placed (kept_visits root.file root.first image)
  by_held rs (inl (bs, are, one)) =
      let low = one.low in
      subst Placed (sym (choose_no (has_newer root.first named other) (from_named ++ from_other) from_named (newer_out root.first named other one.dropped)))
      (file_placed (log_file root.file) root.first root.first bs named one.named one.short (omega (arith, low)) sound.begins.named)
  by_held rs (inr (bs, cs, are, two)) =
      let low = two.low in
      let placed = file_placed (log_file root.file) root.first root.first bs named two.named two.short (omega (arith, low)) sound.begins.named in
      ⊎_elim
      (λ newer.
      subst Placed (sym (choose_yes (has_newer root.first named other) (from_named ++ from_other) from_named newer))
      (placed_append from_named from_other placed
      (file_placed (other_file root.file) (root.first + length (log_in named)) (root.first + length (records bs)) cs other two.newer two.newer_short (omega (arith, low)) (sound.begins.newer newer))))
      (λ none. subst Placed (sym (choose_no (has_newer root.first named other) (from_named ++ from_other) from_named none)) placed)
      (either (has_newer root.first named other))

  -- each record of the log passes
  pub sound_passes : AllPass root.pages (kept_visits root.file root.first image)
  sound_passes i v is =
      let vs = kept_visits root.file root.first image in
      let fits = subst (EachFits root.pages no_tables) (sym (kept_bytes root.file root.first image)) sound.fits in
      let passed = each_passes root.pages no_tables vs fits (by_held (kept_log root.file root.first image) sound.log) i v is in
      (record_in v.bytes, subst (λ (t : Tables). PassesAs root.pages v.at t v.bytes (record_in v.bytes)) (tables_behind_is no_tables (visit_bytes (take i vs))) passed)

-- ---- a record that passes isn't refused

ok_no_err : (x : Result ⊤ BadRecord) (bad : BadRecord) → x ≡ Ok tt → x ≡ Err bad → ⊥
ok_no_err x bad is isnt = absurd (cc (is, isnt))

bytes_pass : (r : Record) (bytes : List ℕ) (bad : BadRecord) → IsRecord r → record_bytes r ≡ bytes → IsRefusedBytes bytes bad → ⊥
bytes_pass r bytes bad fits is refused =
    ⊎_elim
    (λ one. ok_no_err (checkpoint_checks bytes) bad (is_checkpoint (form_of r) bytes fits is one.1) (refused.checkpoint one.1))
    (λ other.
    let p = is_fields (form_of r) bytes fits is other.1 in
    let number : (layout p.0.tag).number ≡ field 1 0 bytes = sym (reads p.0 p.1).number ∙ ap (field 1 0) p.2 in
    ok_no_err (checks (layout p.0.tag) bytes) bad (parts_pass p.0 p.0.tag bytes p.1 p.2 number) (refused.exact p.0.tag number))
    (eqb_tells (field 1 0 bytes) 1)

pub passes_not_fails : (pages at : ℕ) (t : Tables) (bytes : List ℕ) (r : Record) (bad : BadRecord) → PassesAs pages at t bytes r → FailsAs pages at t bytes bad → ⊥
passes_not_fails pages at t bytes r bad passed (inl place) = ok_no_err (first_record_check at bytes) bad passed.place place
passes_not_fails pages at t bytes r bad passed (inr (inl (place, refused))) = bytes_pass r bytes bad passed.logged.record_is passed.bytes_are refused
passes_not_fails pages at t bytes r bad passed (inr (inr (s, logged, spelled, place, which))) =
    let same : s ≡ r = one_record s r logged.record_is passed.logged.record_is (spelled ∙ sym passed.bytes_are) in
    ⊎_elim
    (λ off. ok_no_err (overlay_page_check pages (length bytes) (overlay_of r)) bad passed.counted (ap (λ (x : Record). overlay_page_check pages (length bytes) (overlay_of x)) (sym same) ∙ off))
    (λ unmet. ok_no_err (needs r t) bad passed.fits (ap (λ (x : Record). needs x t) (sym same) ∙ unmet.1))
    which

get_behind : (xs ys : List Visit) (v : Visit) → slice_get (xs ++ v ∷ ys) (length xs) ≡ Some v
get_behind [] ys v = refl
get_behind (x ∷ xs) ys v = get_behind xs ys v

-- the log of a sound image is refused for a fault or want of memory alone
pub log_undamaged : (counts : ℕ → Type 0) (root : Root) (image : Image) (old new : SeenLog) (cause : VisitError ReadError) (e : ReadError) → IsSound root image → ((n : ℕ) → counts n → n ≡ root.pages) → HasSeen counts old []
    → IsToldBy (λ (s : StoreFault) (x : ReadError). x ≡ read.Store s) (λ (w : WantOfMemory) (x : ReadError). x ≡ read.OutOfMemory) cause e
    → StopsAt (HasSeen counts) (RefusesVisit counts) old new (sound_kept_visits root.file root.first image) cause → OnRead (RefusesKept root.file root.first image) cause → (e ≡ read.Store store.Fault) ⊎ (e ≡ read.OutOfMemory)
log_undamaged counts root image old new (visit.Read (read.Store store.Fault)) e sound pages none told stops refused = inl told
log_undamaged counts root image old new (visit.Read (read.Store (store.Damaged d))) e sound pages none told stops refused = absurd (refused.holds (kept_log root.file root.first image) sound.log)
log_undamaged counts root image old new (visit.Read read.OutOfMemory) e sound pages none told stops refused = inr told.1
log_undamaged counts root image old new (visit.Refused r) e sound pages none told stops refused =
    let given = stops.given in
    let v = stops.refused in
    let vs = kept_visits root.file root.first image in
    let front = kept_front root.file root.first image in
    let all : vs ≡ given ++ v ∷ (stops.rest ++ front.0) = front.1 ∙ ap (λ (l : List Visit). l ++ front.0) stops.all_are ∙ append_assoc given (v ∷ stops.rest) front.0 in
    ⊎_elim (λ memory. inr (told ∙ memory))
    (λ w.
    let there : slice_get vs (length given) ≡ Some v = ap (λ (l : List Visit). slice_get l (length given)) all ∙ get_behind given (stops.rest ++ front.0) v in
    let before : take (length given) vs ≡ given = ap (take (length given)) all ∙ take_at given (v ∷ (stops.rest ++ front.0)) (length given) refl in
    let passed = sound_passes root image sound (length given) v there in
    let passes = subst (λ (l : List Visit). PassesAs root.pages v.at (tables_seen l) v.bytes passed.0) before passed.1 in
    let fails = subst (λ (n : ℕ). FailsAs n v.at (tables_seen given) v.bytes w.3.0) (pages w.0 w.1) w.3.1 in
    absurd (passes_not_fails root.pages v.at (tables_seen given) v.bytes passed.0 w.3.0 passes fails))
    (stops.because [] none)
