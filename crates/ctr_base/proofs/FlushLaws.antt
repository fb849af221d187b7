-- What a flush leaves, and what goes on behind it.
use Rattle.std.proofs.Common.{◌≡◌, inl, inr, ⊎_elim, ℕ, ◌+◌, ◌-◌, ◌^◌, ◌<◌, ◌≤◌, List, [], ◌∷◌, ◌++◌, length, take, Result, sym, ◌∙◌, ap, subst, arith, length-append}
use Rattle.std.proofs.lemmas.Bool.{cases_lt}
use Rattle.std.proofs.lemmas.List.{append-nil, take_all, drop_all, length-map}
use Rattle.ctr_types.specs.declared.file.File.{File}
use Rattle.ctr_disk.specs.declared.disk.Disk.{Ghosts}
use Rattle.ctr_disk.specs.declared.fault.StoreFault.{StoreFault}
use Rattle.ctr_redo.specs.home_Root.{Root}
use Rattle.ctr_disk.specs.Device.{LeavesOnly, IsDurable}
use Rattle.ctr_disk.specs.Image.{OtherFilesStay}
use Rattle.ctr_disk.proofs.Moments.{weaker}
use Rattle.ctr_redo.specs.log_Logs.{end_behind, IsEmptied, CountsFlush}
use Rattle.ctr_redo.specs.log_Kept.{kept_log, HoldsLog, WritesBehind, KeepsPrefix, GoesOnWith}
use Rattle.ctr_redo.specs.rec_Record.{Record}
use Rattle.ctr_redo.specs.rec_Read.{record_in}
use Rattle.ctr_redo.specs.ctr_pool.Below.{HoldsStill}
use Rattle.ctr_redo.specs.Overlaid.{overlaid}
use Rattle.ctr_redo.specs.States.{Stored, state_of, steps, with_more, next_of}
use Rattle.ctr_redo.specs.Images.{records_in, stored_in, IsSound, FoldsFront, IsLogFile}
use Rattle.ctr_redo.specs.ctr_meta.Tables.{no_tables}
use Rattle.ctr_redo.specs.Fitting.{EachFits, MayFollow}
use Rattle.ctr_redo.proofs.FitLaws.{begin_flushed, last_written}
use Rattle.ctr_redo.proofs.PageLaws.{overlaid-append}
use Rattle.ctr_redo.proofs.StateLaws.{state_more}
use Rattle.ctr_redo.proofs.ImageLaws.{KeepsHomes, logs_apart, more_stored, sound_flushed, folds_flushed}
use Rattle.ctr_base.specs.declared.base.Base.{Base}
use Rattle.ctr_base.specs.Base.{stored_of, waiting_of, now_of, home_of, MaySave, IsQuiet, MovesBase, KeepsBase}
use Rattle.ctr_base.specs.LogLaws.{writes_holds, by_is_log}

-- the log ends no earlier than its gate stands
gate_low : (place : ℕ) (rs : List (List ℕ)) → place ≤ end_behind place rs
gate_low place [] = omega arith
gate_low place (r ∷ rs) = omega arith

module _ {D O : Type 0} (g : Ghosts D) where
  -- what is kept of a flush of what waits, however it ended
  pub flush_kept : {T : Type 0} (a b : Base D O) (result : Result T StoreFault) → b.root ≡ a.root → IsEmptied a.log b.log result → CountsFlush g a.log.place a.disk b.disk result
      → (a.log.buffered ≡ [] → ⊥) → KeepsBase g a b
  flush_kept a b result root emptied counts some = record {
    root = root;
    file = emptied.file;
    older = emptied.older;
    start = emptied.start;
    ends = emptied.ends;
    goes = record {
      later = counts.later;
      stray = ⊎_elim (λ low. inl (counts.stray.below low)) (λ high. inr (omega (arith, high, gate_low a.log.place a.log.buffered))) (cases_lt (a.log.place + 2 ^ 61) (2 ^ 63));
    };
    size = emptied.size;
    next = emptied.number;
    waits = emptied.waits;
    stray = λ none. absurd (some none);
  }

  pub flush_leaves : (a : Base D O) (d : D) → IsQuiet g a → LeavesOnly g a.disk d (KeepsPrefix a.log.file a.root.file a.root.first a.log.buffered (g.reads a.disk))
      → LeavesOnly g a.disk d (FoldsFront (state_of (stored_of g a)) (waiting_of a))
  flush_leaves a d quiet crash =
      weaker g a.disk d (KeepsPrefix a.log.file a.root.file a.root.first a.log.buffered (g.reads a.disk)) (FoldsFront (state_of (stored_of g a)) (waiting_of a)) crash
      (λ c keeps. folds_flushed a.root a.log.file a.log.buffered (g.reads a.disk) c quiet.sound quiet.follows keeps)

  -- what a flush that was answered Ok made
  pub record Flushed (a b : Base D O) : Type 0 where
    pub root : b.root ≡ a.root
    pub file : b.log.file ≡ a.log.file
    pub place : a.log.place ≤ b.log.place
    pub none : b.log.buffered ≡ []
    pub next : b.log.first ≡ a.log.first + length a.log.buffered
    pub durable : b.durable ≡ b.log.first + length b.log.buffered
    pub goes_on : GoesOnWith a.root.file a.root.first a.log.buffered b.log (g.reads a.disk) (g.reads b.disk)

  homes_kept : (a b : Base D O) → IsQuiet g a → Flushed a b → KeepsHomes (g.reads a.disk) (g.reads b.disk)
  homes_kept a b quiet f =
      let w = quiet.writes in
      logs_apart b.log.file (g.reads a.disk) (g.reads b.disk) (subst IsLogFile (sym f.file) (by_is_log a.log.older a.root.file a.root.first a.log (g.reads a.disk) w.by)) f.goes_on.others

  stored_flushed : (a b : Base D O) → IsQuiet g a → Flushed a b → stored_of g b ≡ with_more (waiting_of a) (stored_of g a)
  stored_flushed a b quiet f =
      ap (λ (r : Root). stored_in r (g.reads b.disk)) f.root ∙ more_stored a.root a.log.buffered (g.reads a.disk) (g.reads b.disk) (homes_kept a b quiet f) f.goes_on.log_is

  now_flushed : (a b : Base D O) → IsQuiet g a → Flushed a b → now_of g b ≡ now_of g a
  now_flushed a b quiet f =
      ap (λ (l : List (List ℕ)). with_more (records_in l) (stored_of g b)) f.none ∙ ap (with_more []) (stored_flushed a b quiet f)
      ∙ ap (λ (l : List Record). record (stored_of g a) { records = l }) (append-nil ((stored_of g a).records ++ waiting_of a))

  pub flush_moves : (a b : Base D O) → IsQuiet g a → Flushed a b → MovesBase g a b
  flush_moves a b quiet f =
      let ws = waiting_of a in
      let s = stored_of g a in
      let both = now_flushed a b quiet f in
      record {
        j = length ws;
        at_most = omega arith;
        waiting = ap records_in f.none ∙ sym (drop_all (length ws) ws (omega arith));
        hardened = ap state_of (stored_flushed a b quiet f) ∙ state_more ws s quiet.sound.below ∙ ap (λ (l : List Record). steps l (state_of s)) (sym (take_all (length ws) ws (omega arith)));
        now = ap state_of both;
        root = f.root;
        file = f.file;
        place = f.place;
        all = ap (λ (x : Stored). x.records) both;
        pages = λ q. ap (λ (x : Stored). overlaid q x.first x.records (x.homes q)) both;
      }

  pub flush_quiet : (a b : Base D O) → IsQuiet g a → Flushed a b → IsDurable g b.disk → IsQuiet g b
  flush_quiet a b quiet f only =
      let old = g.reads a.disk in
      let new = g.reads b.disk in
      let first = quiet.first in
      let writes = f.goes_on.writes in
      let holds = writes_holds a.root.file a.root.first b.log new writes in
      let all : HoldsLog a.root.file a.root.first (kept_log a.root.file a.root.first old ++ a.log.buffered) new = subst (λ (l : List (List ℕ)). HoldsLog a.root.file a.root.first l new) f.goes_on.log_is holds in
      let next : next_of (stored_of g b) ≡ next_of (stored_of g a) + length a.log.buffered =
      ap next_of (stored_flushed a b quiet f) ∙ omega (arith, length-append (stored_of g a).records (waiting_of a), length-map a.log.buffered record_in) in
      let fits = quiet.follows.fits in
      let others = subst (λ (x : File). OtherFilesStay x old new) (f.file ∙ quiet.follows.file_is) f.goes_on.others in
      let begun = begin_flushed a.root.file a.root.first a.log.buffered old new quiet.sound.log f.goes_on.log_is quiet.follows.changes quiet.sound.begins others in
      record {
        only = only;
        sound = subst (λ (r : Root). IsSound r new) (sym f.root) (sound_flushed a.root a.log.buffered old new quiet.sound (homes_kept a b quiet f) all fits begun quiet.follows.changes);
        writes = subst (λ (r : Root). WritesBehind r.file r.first b.log new) (sym f.root) writes;
        follows = subst (λ (r : Root). MayFollow r b.log.file b.log.buffered new) (sym f.root)
            (subst (λ (l : List (List ℕ)). MayFollow a.root b.log.file l new) (sym f.none)
            (record {
              file_is = last_written a.root.file a.root.first new b.log.older b.log writes.by;
              fits = subst (EachFits a.root.pages no_tables) (sym f.goes_on.log_is ∙ sym (append-nil (kept_log a.root.file a.root.first new))) fits;
              changes = tt;
            }));
        durable = omega (arith, f.durable, ap (λ (l : List (List ℕ)). length l) f.none, f.next, first, next);
        first = omega (arith, f.next, first, next);
      }

  pub flush_holds : (a b : Base D O) → IsQuiet g a → Flushed a b → HoldsStill (home_of g) (MaySave g) a b
  flush_holds a b quiet f =
      let stored = stored_flushed a b quiet f in
      let both = now_flushed a b quiet f in
      let s = stored_of g a in
      let ws = waiting_of a in
      record {
        same = λ q. ap (λ (x : Stored). x.homes q) stored;
        still = λ q since v may.
            record {
              counted = subst (λ (x : Stored). q < x.counted) (sym stored) may.counted;
              above = subst (λ (x : Stored). (x.homes q).lsn < v.lsn) (sym stored) may.above;
              low = subst (λ (x : Stored). v.lsn < next_of x) (sym both) may.low;
              is = ⊎_elim (λ all. inl (subst (λ (x : Stored). v ≡ overlaid q x.first x.records (x.homes q)) (sym both) all))
                  (λ same.
                  inr (subst (λ (x : Stored). overlaid q x.first x.records v ≡ overlaid q x.first x.records (x.homes q)) (sym stored)
                  (overlaid-append q s.first s.records ws v ∙ ap (overlaid q (s.first + length s.records) ws) same ∙ sym (overlaid-append q s.first s.records ws (s.homes q)))))
                  may.is;
              early = subst (λ (x : Stored). since < next_of x) (sym both) may.early;
              behind = subst (λ (x : Stored). overlaid q x.first (take (since - x.first) x.records) (x.homes q) ≡ x.homes q) (sym both) may.behind;
            };
      }
