-- The log's buffer and the frames under the calls of a store.
use Rattle.std.proofs.Common.{◌≡◌, ◌⊎◌, inl, inr, ◌∙◌, ℕ, ◌+◌, ◌-◌, ◌≤◌, List, [], ◌∷◌, ◌++◌, length, map, ◌==◌, if◌then◌else◌, Bool, true, false, Some, Result, Ok, Err, refl, sym, ap, subst, arith, length-append}
use Rattle.std.specs.Prelude.{IfOk, OnErr}
use Rattle.ctr_disk.specs.declared.fault.StoreFault.{StoreFault}
use Rattle.std.proofs.lemmas.List.{map-append}
use Rattle.ctr_base.specs.log_Logs.{Log, frame, frames, buffer_size, end_behind, log_end, WaitsOrNone}
use Rattle.ctr_base.proofs.log_LogLemmas.{frames-push, length-frame}
use Rattle.ctr_rec.specs.declared.record.Record.{Record}
use Rattle.ctr_rec.specs.Records.{IsRecord}
use Rattle.ctr_rec.specs.Spelling.{record_bytes}
use Rattle.ctr_rec.specs.Read.{record_in}
use Rattle.ctr_rec.proofs.ReadBack.{record_read}
use Rattle.ctr_base.specs.ctr_home.declared.root.Root.{Root}
use Rattle.ctr_base.specs.meta_Effects.{effect}
use Rattle.ctr_base.specs.meta_Kept.{TablesKept, RoomLeft, opens_added, items_added}
use Rattle.ctr_base.specs.redo_Images.{records_in}
use Rattle.ctr_base.specs.declared.base.Base.{Base}
use Rattle.ctr_base.specs.Base.{KeepsBase}
use Rattle.ctr_base.specs.Growth.{CountsMore}
use Rattle.ctr_base.specs.KeptLaws.{goes_on_to, goes_by}
use Rattle.ctr_disk.specs.declared.disk.Disk.{Ghosts}
use Rattle.ctr_store.specs.Changes.{IsChange}
use Rattle.ctr_store.specs.declared.parts.Parts.{Parts}
use Rattle.ctr_base.specs.pool_Frame.{Frame}
use Rattle.ctr_base.specs.pool_Frames.{frame_of, change_of, since_in}
use Rattle.ctr_store.specs.Parts.{HasBuffer, MayCount, EndsWithin, LogsRoom, record_end, pages_held, first_unsaved}
use Rattle.ctr_base.specs.redo_States.{grown}
use Rattle.ctr_store.proofs.RecordLaws.{record_short}

-- how many bytes the frames of records have
abbrev size_of : List (List ℕ) → ℕ
size_of rs = length (frames rs)

-- records are spelled as they are read
abbrev AreSpelled : List (List ℕ) → Type 0
AreSpelled rs = map record_bytes (records_in rs) ≡ rs

-- the number of a page's first record that isn't home, by the pages that frames have
pub since_held : (p : ℕ) (fs : List Frame) → first_unsaved p (pages_held fs) ≡ since_in p fs
since_held p [] = refl
since_held p (f ∷ fs) = by (f.page == p) (since_held p fs)
  where
    by : (b : Bool) → first_unsaved p (pages_held fs) ≡ since_in p fs → (if b then f.since else first_unsaved p (pages_held fs)) ≡ change_of (if b then Some f else frame_of p fs)
    by true rest = refl
    by false rest = rest

-- there is no less room where the same records wait, or none
pub kept_room : (a b : Log) → buffer_size a ≤ buffer_size b → WaitsOrNone a b → a.room ≤ b.room
kept_room a b size (inl same) = omega (arith, size, ap size_of same)
kept_room a b size (inr none) = omega (arith, size, ap size_of none)

pub kept_bytes : (a b : Log) → WaitsOrNone a b → size_of b.buffered ≤ size_of a.buffered
kept_bytes a b (inl same) = omega (arith, ap size_of same)
kept_bytes a b (inr none) = omega (arith, ap size_of none)

kept_spelled : (a b : Log) → WaitsOrNone a b → AreSpelled a.buffered → AreSpelled b.buffered
kept_spelled a b (inl same) are = subst AreSpelled (sym same) are
kept_spelled a b (inr none) are = subst AreSpelled (sym none) refl

-- nothing waits where nothing waited
pub none_waits : (a b : Log) → WaitsOrNone a b → a.buffered ≡ [] → b.buffered ≡ []
none_waits a b (inl same) none = same ∙ none
none_waits a b (inr gone) none = gone

-- a record's frame behind others
pushed_bytes : (rs : List (List ℕ)) (r : List ℕ) → size_of (rs ++ r ∷ []) ≡ size_of rs + (8 + length r)
pushed_bytes rs r = omega (arith, ap length (frames-push rs r), length-append (frames rs) (frame r), length-frame r)

pushed_spelled : (rs : List (List ℕ)) (r : Record) → IsRecord r → AreSpelled rs → AreSpelled (rs ++ record_bytes r ∷ [])
pushed_spelled rs r is are =
    ap (λ (l : List Record). map record_bytes l) (map-append record_in rs (record_bytes r ∷ []) ∙ ap (λ (x : Record). records_in rs ++ x ∷ []) (record_read r is))
    ∙ map-append record_bytes (records_in rs) (r ∷ [])
    ∙ ap (λ (l : List (List ℕ)). l ++ record_bytes r ∷ []) are

-- nothing waits in a buffer that has room
pub empty_buffer : (log : Log) → (log.buffered ≡ []) × (65536 ≤ log.room) → HasBuffer log
empty_buffer log is = record {
  size = omega (arith, is.1);
  most = omega (arith, ap size_of is.0);
  spelled = subst AreSpelled (sym is.0) refl;
}

-- ---- where the log ends

-- behind its gate, a batch's first fields and the frames that wait, at most
pub end_at_most : (place : ℕ) (rs : List (List ℕ)) → end_behind place rs ≤ place + 21 + size_of rs
end_at_most place [] = omega arith
end_at_most place (r ∷ rs) = omega arith

-- a record more leads it this much further on
end_pushed : (place : ℕ) (rs : List (List ℕ)) (r : List ℕ) → (end_behind place rs ≤ end_behind place (rs ++ r ∷ [])) × (end_behind place (rs ++ r ∷ []) ≤ end_behind place rs + (29 + length r))
end_pushed place [] r = let one = pushed_bytes [] r in (omega (arith, one), omega (arith, one))
end_pushed place (q ∷ rs) r = let one = pushed_bytes (q ∷ rs) r in (omega (arith, one), omega (arith, one))

module _ {D O : Type 0} (g : Ghosts D) where
  ends_logged : (r : Record) (a b : Base D O) → b.disk ≡ a.disk → b.log ≡ record a.log { buffered = a.log.buffered ++ record_bytes r ∷ []; room = b.log.room }
      → b.log.buffered ≡ a.log.buffered ++ record_bytes r ∷ [] → EndsWithin g (record_end r) a b
  ends_logged r a b disk added waits =
      let pushed = end_pushed a.log.place a.log.buffered (record_bytes r) in
      let end_is : log_end b.log ≡ end_behind a.log.place (a.log.buffered ++ record_bytes r ∷ []) = ap log_end added in
      record {
        file = ap (λ (l : Log). l.file) added;
        older = ap (λ (l : Log). l.older) added;
        start = ap (λ (l : Log). l.start) added;
        gate = omega (arith, end_is, pushed.0);
        near = omega (arith, end_is, pushed.1);
        goes = record { later = omega (arith, ap g.moment_of disk); stray = inl (ap g.strays_of disk) };
      }

  -- what a call keeps that logs nothing
  pub ends_kept : (a b : Base D O) → KeepsBase g a b → EndsWithin g 0 a b
  ends_kept a b keeps = record {
    file = keeps.file;
    older = keeps.older;
    start = keeps.start;
    gate = omega (arith, keeps.ends);
    near = omega (arith, keeps.ends);
    goes = goes_by g a.disk b.disk (log_end a.log) (log_end b.log) (omega (arith, keeps.ends)) keeps.goes;
  }

  ends_behind : (more : ℕ) (a b c : Base D O) → KeepsBase g a b → EndsWithin g more b c → EndsWithin g more a c
  ends_behind more a b c keeps ends = record {
    file = ends.file ∙ keeps.file;
    older = ends.older ∙ keeps.older;
    start = ends.start ∙ keeps.start;
    gate = omega (arith, ends.gate, keeps.ends);
    near = omega (arith, ends.near, keeps.ends);
    goes = goes_on_to g a.disk b.disk c.disk (log_end c.log) (goes_by g a.disk b.disk (log_end a.log) (log_end c.log) (omega (arith, ends.gate, keeps.ends)) keeps.goes) ends.goes;
  }

module _ {D O : Type 0} where
  pub buffer_kept : (g : Ghosts D) (a b : Base D O) → KeepsBase g a b → HasBuffer a.log → HasBuffer b.log
  buffer_kept g a b keeps has =
      let size = keeps.size in
      let was = has.size in
      let most = has.most in
      record {
        size = omega (arith, size, was);
        most = omega (arith, most, kept_bytes a.log b.log keeps.waits);
        spelled = kept_spelled a.log b.log keeps.waits has.spelled;
      }

  -- as many pages are counted
  pub count_kept : (g : Ghosts D) (a b : Base D O) → KeepsBase g a b → MayCount a.root.pages → MayCount b.root.pages
  count_kept g a b keeps may = subst (λ (r : Root). MayCount r.pages) (sym keeps.root) may

  -- a record that was appended
  pub logs_room : (g : Ghosts D) (r : Record) (s t : Parts D O) → t.base.disk ≡ s.base.disk → t.base.log ≡ record s.base.log { buffered = s.base.log.buffered ++ record_bytes r ∷ []; room = t.base.log.room }
      → s.base.log.room ≤ t.base.log.room + (8 + length (record_bytes r)) → t.meta.tables ≡ effect r s.meta.tables → RoomLeft (opens_added r) (items_added r) s.meta t.meta → t.base.root ≡ s.base.root → LogsRoom g r s t
  logs_room g r s t disk added room tables left root =
      let waits = ap (λ (l : Log). l.buffered) added in
      record {
        size = omega (arith, room, ap size_of waits, pushed_bytes s.base.log.buffered (record_bytes r));
        waits = inl waits;
        next = omega (arith, ap (λ (l : Log). l.first) added, ap (λ (l : List (List ℕ)). length l) waits, length-append s.base.log.buffered (record_bytes r ∷ []));
        ends = ends_logged g r s.base t.base disk added waits;
        tables = tables;
        left = left;
        pages = ap (λ (x : Root). x.pages) root;
      }

  -- the same behind a page that was brought
  pub room_behind : (g : Ghosts D) (r : Record) (s m t : Parts D O) → KeepsBase g s.base m.base → m.meta ≡ s.meta → LogsRoom g r m t → LogsRoom g r s t
  room_behind g r s m t keeps meta logs =
      let size = keeps.size in
      let more = logs.size in
      record {
        size = omega (arith, size, more);
        waits = by keeps.waits logs.waits;
        next = logs.next ∙ ap (λ (n : ℕ). n + 1) keeps.next;
        ends = ends_behind g (record_end r) s.base m.base t.base keeps logs.ends;
        tables = logs.tables ∙ ap (λ (k : TablesKept). effect r k.tables) meta;
        left = subst (λ (k : TablesKept). RoomLeft (opens_added r) (items_added r) k t.meta) meta logs.left;
        pages = logs.pages ∙ ap (λ (x : Root). x.pages) keeps.root;
      }
    where
      by : WaitsOrNone s.base.log m.base.log → (t.base.log.buffered ≡ m.base.log.buffered ++ record_bytes r ∷ []) ⊎ (t.base.log.buffered ≡ record_bytes r ∷ [])
          → (t.base.log.buffered ≡ s.base.log.buffered ++ record_bytes r ∷ []) ⊎ (t.base.log.buffered ≡ record_bytes r ∷ [])
      by kept (inr alone) = inr alone
      by (inl same) (inl behind) = inl (behind ∙ ap (λ (l : List (List ℕ)). l ++ record_bytes r ∷ []) same)
      by (inr none) (inl behind) = inr (behind ∙ ap (λ (l : List (List ℕ)). l ++ record_bytes r ∷ []) none)

  -- how many bytes wait at most
  pub logged_bytes : (g : Ghosts D) (r : Record) (s t : Parts D O) → LogsRoom g r s t → size_of t.base.log.buffered ≤ size_of s.base.log.buffered + (8 + length (record_bytes r))
  logged_bytes g r s t logs = by logs.waits
    where
      by : (t.base.log.buffered ≡ s.base.log.buffered ++ record_bytes r ∷ []) ⊎ (t.base.log.buffered ≡ record_bytes r ∷ [])
          → size_of t.base.log.buffered ≤ size_of s.base.log.buffered + (8 + length (record_bytes r))
      by (inl behind) = omega (arith, ap size_of behind, pushed_bytes s.base.log.buffered (record_bytes r))
      by (inr alone) = omega (arith, ap size_of alone, pushed_bytes [] (record_bytes r))

  pub buffer_logged : (g : Ghosts D) (r : Record) (s t : Parts D O) → IsRecord r → IsChange r → LogsRoom g r s t → 5000 ≤ 65536 - size_of s.base.log.buffered → HasBuffer s.base.log → HasBuffer t.base.log
  buffer_logged g r s t is change logs room has =
      let size = logs.size in
      let was = has.size in
      record {
        size = omega (arith, size, was);
        most = omega (arith, room, logged_bytes g r s t logs, record_short r is change);
        spelled = by logs.waits;
      }
    where
      by : (t.base.log.buffered ≡ s.base.log.buffered ++ record_bytes r ∷ []) ⊎ (t.base.log.buffered ≡ record_bytes r ∷ []) → AreSpelled t.base.log.buffered
      by (inl behind) = subst AreSpelled (sym behind) (pushed_spelled s.base.log.buffered r is has.spelled)
      by (inr alone) = subst AreSpelled (sym alone) (pushed_spelled [] r is refl)

  -- a record was logged, or wasn't
  pub buffer_behind : (g : Ghosts D) (r : Record) (s t : Parts D O) (result : Result ℕ StoreFault) → IsRecord r → IsChange r → 5000 ≤ 65536 - size_of s.base.log.buffered → HasBuffer s.base.log
      → IfOk result (λ lsn. (lsn ≡ s.base.log.first + length s.base.log.buffered) × LogsRoom g r s t) → OnErr result (KeepsBase g s.base t.base) → HasBuffer t.base.log
  buffer_behind g r s t (Ok lsn) is change room has logs keeps = buffer_logged g r s t is change logs.1 room has
  buffer_behind g r s t (Err e) is change room has logs keeps = buffer_kept g s.base t.base keeps has

  pub count_behind : (g : Ghosts D) (r : Record) (s t : Parts D O) (result : Result ℕ StoreFault) → MayCount s.base.root.pages
      → IfOk result (λ lsn. (lsn ≡ s.base.log.first + length s.base.log.buffered) × LogsRoom g r s t) → OnErr result (KeepsBase g s.base t.base) → MayCount t.base.root.pages
  count_behind g r s t (Ok lsn) may logs keeps = subst MayCount (sym logs.1.pages) may
  count_behind g r s t (Err e) may logs keeps = count_kept g s.base t.base keeps may

  -- more pages are counted, or as many
  pub count_grown : {T : Type 0} (a b : Base D O) (result : Result T StoreFault) → MayCount a.root.pages → CountsMore a b result → MayCount b.root.pages
  count_grown a b (Ok x) may more = subst MayCount (sym more.1) (let least = may.0 in omega (arith, least), omega arith)
  count_grown a b (Err e) may more = subst (λ (r : Root). MayCount r.pages) (sym more.2) may

-- a growth leaves no fewer pages
pub never_less : (n : ℕ) → n ≤ 30000 → n ≤ grown n
never_less n most = omega (arith, most)
