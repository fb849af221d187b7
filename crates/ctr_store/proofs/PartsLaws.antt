-- How the parts of a store go on.
use Rattle.std.proofs.Common.{◌≡◌, ◌≢◌, inl, inr, ⊎_elim, ℕ, ◌+◌, ◌-◌, ◌<◌, ◌≤◌, ◌==◌, if◌then◌else◌, Bool, true, false, List, [], ◌∷◌, ◌++◌, length, take, Option, Some, None, Ok, refl, sym, ◌∙◌, ap, subst, arith, length-append, append_assoc}
use Rattle.std.proofs.lemmas.List.{map-append, length-map, take_at, take-append-le}
use Rattle.std.proofs.lemmas.Bool.Decides.{eqb_tells}
use Rattle.std.specs.Option.{option_map}
use Rattle.ctr_disk.specs.declared.disk.Disk.{Ghosts}
use Rattle.ctr_disk.specs.Image.{Image}
use Rattle.ctr_base.specs.log_Logs.{Log, Batches, GoesOn}
use Rattle.ctr_rec.specs.declared.record.Record.{Record}
use Rattle.ctr_rec.specs.declared.record.Overlay.{Overlay}
use Rattle.ctr_rec.specs.Read.{record_in}
use Rattle.ctr_base.specs.ctr_home.declared.root.Root.{Root}
use Rattle.ctr_base.specs.meta_Effects.{effect, tables_of}
use Rattle.ctr_base.specs.meta_Kept.{IsLogged, MayApply}
use Rattle.ctr_base.specs.meta_Needs.{needs}
use Rattle.ctr_base.specs.meta_Tables.{Tables, no_tables}
use Rattle.ctr_rec.specs.bytes_Fields.{field}
use Rattle.ctr_base.specs.log_Kept.{kept_log, WritesBehind, WritesBy}
use Rattle.ctr_rec.specs.Spelling.{record_bytes}
use Rattle.ctr_rec.proofs.ReadBack.{record_read}
use Rattle.ctr_base.specs.pool_Frame.{Frame}
use Rattle.ctr_base.specs.pool_Pages.{PageHeld, overlaid_by}
use Rattle.ctr_base.specs.pool_Below.{HoldsStill}
use Rattle.ctr_base.specs.pool_Frames.{frame_of, page_of, kept_or, page_shown, after_change, since_then}
use Rattle.ctr_base.specs.pool_Over.{IsHeld, IsOver, ShowsSamePages}
use Rattle.ctr_base.proofs.pool_FrameLaws.{yes, no}
use Rattle.ctr_base.specs.redo_Overlaid.{overlay_of, lies_on, laid_over, touches, with_record, overlaid}
use Rattle.ctr_base.specs.redo_States.{page_limit, state_of, step, next_of, page_at}
use Rattle.ctr_disk.specs.Device.{LeavesOnly}
use Rattle.ctr_base.specs.redo_Images.{records_in, FoldsFront}
use Rattle.ctr_base.proofs.redo_PageLaws.{stays_out, goes_in, below_next, overlaid-append}
use Rattle.ctr_base.proofs.redo_StateLaws.{state_push, page_is, tables-push, below_more}
use Rattle.ctr_base.specs.declared.base.Base.{Base}
use Rattle.ctr_base.specs.Growth.{GrowsBase}
use Rattle.ctr_base.specs.Base.{HasGate, stored_of, waiting_of, now_of, home_of, MaySave, MayPut, IsQuiet, IsSoundImage, StandsWell, StandsQuiet, LeavesIf, MovesBase, MovesIf, KeepsBase, backing_of}
use Rattle.ctr_store.specs.declared.parts.Parts.{Parts}
use Rattle.ctr_base.specs.redo_Fitting.{LiesInside, FitsBehind, EachFits, MayFollow}
use Rattle.ctr_base.proofs.redo_FitLaws.{tables_behind, tables_behind_is, each_append, none_append}
use Rattle.ctr_store.proofs.BufferLaws.{kept_room}
use Rattle.ctr_store.proofs.RecordLaws.{change_number}
use Rattle.ctr_store.specs.Parts.{IsFold, AreLow, MayCount, CanLog, AddsRecord, LogsRecord}

-- a writer with more that waits goes on behind the same log
pub writes_more : (older : Bool) (file first : ℕ) (log : Log) (image : Image) (more : List (List ℕ)) (room : ℕ) → WritesBy older file first log image → WritesBy older file first (record log { buffered = more; room = room }) image
writes_more false file first log image more room w = record {
  bs = w.bs;
  file_is = w.file_is;
  goes_on = record { log_is = w.goes_on.log_is; start = w.goes_on.start; place = w.goes_on.place; first_is = w.goes_on.first_is };
  holds = w.holds;
}
writes_more true file first log image more room w = record {
  bs = w.bs;
  cs = w.cs;
  file_is = w.file_is;
  goes_on = record { log_is = w.goes_on.log_is; start = w.goes_on.start; place = w.goes_on.place; first_is = w.goes_on.first_is };
  holds = w.holds;
}

-- a writer with more that waits goes on behind the same batches
pub goes_more : (image : Image) (log : Log) (more : List (List ℕ)) (room : ℕ) → ((oldest : ℕ) × (bs : Batches) × GoesOn oldest bs log image) → (oldest : ℕ) × (bs : Batches) × GoesOn oldest bs (record log { buffered = more; room = room }) image
goes_more image log more room w = (w.0, w.1, record { log_is = w.2.log_is; start = w.2.start; place = w.2.place; first_is = w.2.first_is })

-- a frame's LSN isn't below that of what is held
pub held_high : {D O : Type 0} (first : Image) (g : Ghosts D) (b : Base D O) (p : ℕ) (v : PageHeld) (s : Option ℕ) → IsHeld (backing_of first g) b p v s → (home_of g b p).lsn ≤ v.lsn
held_high first g b p v None is = omega (arith, ap (λ (h : PageHeld). h.lsn) is)
held_high first g b p v (Some s) may = let above = may.above in omega (arith, above)

module _ {D O : Type 0} (first : Image) (g : Ghosts D) where
  -- what a frame has is held, or may be saved, where all is held as it was
  is_held_same : (a b : Base D O) → HoldsStill (home_of g) (MayPut first g) a b → (p : ℕ) (v : PageHeld) (s : Option ℕ) → IsHeld (backing_of first g) a p v s → IsHeld (backing_of first g) b p v s
  is_held_same a b holds p v None is = is ∙ sym (holds.same p)
  is_held_same a b holds p v (Some s) may = holds.still p s v may

  pub over_held : (fs : List Frame) (a b : Base D O) → HoldsStill (home_of g) (MayPut first g) a b → StandsQuiet first g b → IsOver (backing_of first g) fs a → IsOver (backing_of first g) fs b
  over_held fs a b holds rests over = record { at_rest = rests; held = λ p f is. is_held_same a b holds p (page_of f) f.since (over.held p f is) }

  pub shows_held : (fs : List Frame) (a b : Base D O) → HoldsStill (home_of g) (MayPut first g) a b → ShowsSamePages (backing_of first g) fs a fs b
  shows_held fs a b holds q = ap (page_shown fs q) (holds.same q)

  -- below the pool the first of what waited became durable, or a page went home
  pub fold_moved : (s t : Parts D O) → IsFold first g s → MovesIf first g s.base t.base → t.meta.tables ≡ s.meta.tables → ShowsSamePages (backing_of first g) s.pool.frames s.base t.pool.frames t.base
      → IsOver (backing_of first g) t.pool.frames t.base → IsFold first g t
  fold_moved s t fold m tables shows over = record {
    over = over;
    tables = λ sound. tables ∙ fold.tables sound ∙ ap tables_of (sym (m sound).all);
    current = λ sound p. shows p ∙ fold.current sound p ∙ sym ((m sound).pages p);
  }

  -- more pages are counted below the pool
  pub fold_grown : (s : Parts D O) (b : Base D O) → IsFold first g s → GrowsBase g s.base b → HoldsStill (home_of g) (MayPut first g) s.base b → StandsQuiet first g b → IsFold first g (record s { base = b })
  fold_grown s b fold grows holds rests =
      let fs = s.pool.frames in
      let more = ap (λ (r : Root). r.first) grows.root in
      let all : (now_of g b).records ≡ (now_of g s.base).records = ap (λ (l : List Record). l ++ waiting_of b) grows.records ∙ ap (λ (l : Log). (stored_of g s.base).records ++ records_in l.buffered) grows.log in
      record {
        over = over_held fs s.base b holds rests fold.over;
        tables = λ sound. fold.tables sound ∙ ap tables_of (sym all);
        current = λ sound p. shows_held fs s.base b holds p ∙ fold.current sound p
            ∙ sym (ap (λ (n : ℕ). overlaid p n (now_of g b).records (home_of g b p)) more ∙ ap (λ (l : List Record). overlaid p s.base.root.first l (home_of g b p)) all ∙ ap (overlaid p s.base.root.first (now_of g s.base).records) (grows.homes p));
      }

  -- what a page shows is what the state has of it
  pub page_is_shown : (s : Parts D O) (p : ℕ) → IsSoundImage first → IsFold first g s → p < page_limit → (page_shown s.pool.frames p (home_of g s.base p)).body ≡ page_at p (state_of (now_of g s.base)).pages
  page_is_shown s p sound fold inside = ap (λ (h : PageHeld). h.body) (fold.current sound p) ∙ sym (page_is p (now_of g s.base) inside)

  -- the number of the next record
  pub next_is : (a : Base D O) → IsQuiet g a → a.log.first + length a.log.buffered ≡ next_of (now_of g a)
  next_is a quiet = let first = quiet.first in omega (arith, first, length-append (stored_of g a).records (waiting_of a), length-map a.log.buffered record_in)

  -- no page has a record that the log lacks
  pub fold_low : (s : Parts D O) → IsFold first g s → IsSoundImage first → AreLow g s
  fold_low s fold sound p =
      let a = s.base in
      let quiet = fold.over.at_rest.quiet sound in
      let h = home_of g a p in
      let at_home = quiet.sound.below p in
      let more = length-append (stored_of g a).records (waiting_of a) in
      let low : h.lsn < a.root.first + length (now_of g a).records = omega (arith, at_home, more) in
      let below = below_next p a.root.first (now_of g a).records h low in
      omega (arith, below, next_is a quiet, ap (λ (v : PageHeld). v.lsn) (fold.current sound p))

  -- the same where pages and records are as they were
  pub low_moved : (s t : Parts D O) → KeepsBase g s.base t.base → ShowsSamePages (backing_of first g) s.pool.frames s.base t.pool.frames t.base → AreLow g s → AreLow g t
  low_moved s t keeps shows low p = let was = low p in let next = keeps.next in omega (arith, was, next, ap (λ (v : PageHeld). v.lsn) (shows p))

  -- what a crash leaves of a call, where the disk is as at another one's end
  pub leaves_same : (a m b : Base D O) → b.disk ≡ m.disk → LeavesIf first g a m → LeavesIf first g a b
  leaves_same a m b same leaves sound =
      let was = leaves sound in record {
        front = subst (λ (x : D). LeavesOnly g a.disk x (FoldsFront (state_of (stored_of g a)) (waiting_of a))) (sym same) was.front;
        gate = subst (λ (x : D). LeavesOnly g a.disk x (HasGate a.log)) (sym same) was.gate;
      }

  -- ---- a record more

  module _ (a : Base D O) (log : Log) (bytes : List ℕ) (r : Record) (log_is : log ≡ record a.log { buffered = a.log.buffered ++ bytes ∷ []; room = log.room }) (tells : record_in bytes ≡ r) where
    abbrev b : Base D O
    b = record a { log = log }

    pub waits : waiting_of b ≡ waiting_of a ++ r ∷ []
    waits = ap (λ (l : Log). records_in l.buffered) log_is ∙ map-append record_in a.log.buffered (bytes ∷ []) ∙ ap (λ (x : Record). waiting_of a ++ x ∷ []) tells

    records_are : (now_of g b).records ≡ (now_of g a).records ++ r ∷ []
    records_are = ap (λ (l : List Record). (stored_of g a).records ++ l) waits ∙ sym (append_assoc (stored_of g a).records (waiting_of a) (r ∷ []))

    length_more : length (now_of g b).records ≡ length (now_of g a).records + 1
    length_more = omega (arith, ap (λ (l : List Record). length l) records_are, length-append (now_of g a).records (r ∷ []))

    -- a page with it
    pub push_page : (q : ℕ) (h : PageHeld) → overlaid q a.root.first (now_of g b).records h ≡ with_record q (next_of (now_of g a)) r (overlaid q a.root.first (now_of g a).records h)
    push_page q h = ap (λ (l : List Record). overlaid q a.root.first l h) records_are ∙ overlaid-append q a.root.first (now_of g a).records (r ∷ []) h

    -- another page stays
    pub push_other : (q : ℕ) (h : PageHeld) → touches r q ≡ false → overlaid q a.root.first (now_of g b).records h ≡ overlaid q a.root.first (now_of g a).records h
    push_other q h off = push_page q h ∙ stays_out q (next_of (now_of g a)) r (overlaid q a.root.first (now_of g a).records h) (λ is_on. absurd (cc (off, is_on)))

    -- it fits behind those so far, and is no Checkpoint
    abbrev pub Fits : Type 0
    Fits = (IsSoundImage first → FitsBehind a.root.pages (tables_of (now_of g a).records) bytes) × (field 1 0 bytes ≢ 1)

    push_follows : IsQuiet g a → FitsBehind a.root.pages (tables_of (now_of g a).records) bytes → field 1 0 bytes ≢ 1 → MayFollow a.root log.file log.buffered (g.reads a.disk)
    push_follows quiet fits change =
        let kept = kept_log a.root.file a.root.first (g.reads a.disk) in
        let so_far = kept ++ a.log.buffered in
        let tables : tables_of (now_of g a).records ≡ tables_behind no_tables so_far = ap tables_of (sym (map-append record_in kept a.log.buffered)) ∙ sym (tables_behind_is no_tables so_far) in
        let behind = subst (λ (t : Tables). FitsBehind a.root.pages t bytes) tables fits in
        subst (λ (l : Log). MayFollow a.root l.file l.buffered (g.reads a.disk)) (sym log_is)
        (record {
          file_is = quiet.follows.file_is;
          fits = subst (EachFits a.root.pages no_tables) (append_assoc kept a.log.buffered (bytes ∷ [])) (each_append a.root.pages no_tables so_far (bytes ∷ []) quiet.follows.fits (behind, tt));
          changes = none_append a.log.buffered (bytes ∷ []) quiet.follows.changes (change, tt);
        })

    push_quiet : IsQuiet g a → FitsBehind a.root.pages (tables_of (now_of g a).records) bytes → field 1 0 bytes ≢ 1 → IsQuiet g b
    push_quiet quiet fits change = record {
      only = quiet.only;
      sound = quiet.sound;
      follows = push_follows quiet fits change;
      writes = subst (λ (l : Log). WritesBehind a.root.file a.root.first l (g.reads a.disk)) (sym log_is)
          (record { numbered = quiet.writes.numbered; by = writes_more a.log.older a.root.file a.root.first a.log (g.reads a.disk) (a.log.buffered ++ bytes ∷ []) log.room quiet.writes.by });
      durable = quiet.durable;
      first = ap (λ (l : Log). l.first) log_is ∙ quiet.first;
    }

    push_stands : StandsWell g a → StandsWell g b
    push_stands stands = subst (λ (l : Log). StandsWell g (record a { log = l })) (sym log_is) (record { says = stands.says; file = stands.file; goes_on = goes_more (g.reads a.disk) a.log (a.log.buffered ++ bytes ∷ []) log.room stands.goes_on; size = stands.size; starts = stands.starts })

    pub push_rests : Fits → StandsQuiet first g a → StandsQuiet first g b
    push_rests may rests = record { stands = push_stands rests.stands; since = rests.since; quiet = λ sound. push_quiet (rests.quiet sound) (may.0 sound) may.1 }

    pub push_state : IsQuiet g a → state_of (now_of g b) ≡ step r (state_of (now_of g a))
    push_state quiet =
        ap (λ (l : List Record). state_of (record (now_of g a) { records = l })) records_are
        ∙ state_push r (now_of g a) (below_more (next_of (stored_of g a)) (next_of (now_of g a)) (home_of g a) (omega (arith, length-append (stored_of g a).records (waiting_of a))) quiet.sound.below)

    pub push_tables : tables_of (now_of g b).records ≡ effect r (tables_of (now_of g a).records)
    push_tables = ap tables_of records_are ∙ tables-push (now_of g a).records r

    -- it waits behind the others, whatever the rest of the parts is
    pub push_adds : (s t : Parts D O) → IsQuiet g a → AddsRecord g r (record s { base = a }) (record t { base = b })
    push_adds s t quiet = record { waiting = waits; hardened = refl; root = refl; now = push_state quiet }

    -- the records below one that was there are those of before
    front_same : (q since : ℕ) → since < next_of (now_of g a) → overlaid q a.root.first (take (since - a.root.first) (now_of g b).records) (home_of g a q) ≡ overlaid q a.root.first (take (since - a.root.first) (now_of g a).records) (home_of g a q)
    front_same q since early =
        let n = since - a.root.first in
        ap (λ (l : List Record). overlaid q a.root.first (take n l) (home_of g a q)) records_are
        ∙ ap (λ (l : List Record). overlaid q a.root.first l (home_of g a q)) (take-append-le n (now_of g a).records (r ∷ []) (omega (arith, early)))

    -- what might be saved of a page that the record isn't on
    still_saves : (q since : ℕ) (v : PageHeld) → touches r q ≡ false → MaySave g a q since v → MaySave g b q since v
    still_saves q since v off may = record {
      counted = may.counted;
      above = may.above;
      low = let low = may.low in omega (arith, low, length_more);
      is = ⊎_elim (λ all. inl (all ∙ sym (push_other q (home_of g a q) off))) (λ same. inr same) may.is;
      early = let early = may.early in omega (arith, early, length_more);
      behind = front_same q since may.early ∙ may.behind;
    }

    still_held : (q : ℕ) (v : PageHeld) (s : Option ℕ) → touches r q ≡ false → IsHeld (backing_of first g) a q v s → IsHeld (backing_of first g) b q v s
    still_held q v None off is = is
    still_held q v (Some s) off may = record { counted = may.counted; above = may.above; sound = λ sound. still_saves q s v off (may.sound sound) }

    -- a record on no page
    pub off_over : Fits → (fs : List Frame) → ((q : ℕ) → touches r q ≡ false) → IsOver (backing_of first g) fs a → IsOver (backing_of first g) fs b
    off_over may fs off over = record { at_rest = push_rests may over.at_rest; held = λ q f is. still_held q (page_of f) f.since (off q) (over.held q f is) }

    pub off_current : (fs : List Frame) → ((q : ℕ) → touches r q ≡ false) → ((q : ℕ) → page_shown fs q (home_of g a q) ≡ overlaid q a.root.first (now_of g a).records (home_of g a q))
        → (q : ℕ) → page_shown fs q (home_of g b q) ≡ overlaid q a.root.first (now_of g b).records (home_of g b q)
    off_current fs off current q = current q ∙ sym (push_other q (home_of g a q) (off q))

    -- a record on a page that a frame has
    module _ (p : ℕ) (o : Overlay) (f : Frame) (fs gs : List Frame) (lsn : ℕ) (lsn_is : lsn ≡ a.log.first + length a.log.buffered) (is_over : overlay_of r ≡ Some o) (on : (o.page == p) ≡ true) (others : (q : ℕ) → q ≢ p → touches r q ≡ false) (inside : p < a.root.pages)
        (over : IsOver (backing_of first g) fs a) (current : IsSoundImage first → (q : ℕ) → page_shown fs q (home_of g a q) ≡ overlaid q a.root.first (now_of g a).records (home_of g a q)) (there : frame_of p fs ≡ Some f) (lower : f.lsn < lsn)
        (changed : (q : ℕ) → frame_of q gs ≡ (if p == q then option_map (after_change o lsn) (frame_of q fs) else frame_of q fs)) where
      abbrev was : PageHeld
      was = overlaid p a.root.first (now_of g a).records (home_of g a p)

      was_is : IsSoundImage first → page_of f ≡ was
      was_is sound = ap (kept_or (home_of g a p)) (sym there) ∙ current sound p

      touched : touches r p ≡ true
      touched = ap (λ x. lies_on x p) is_over ∙ on

      here : frame_of p gs ≡ Some (after_change o lsn f)
      here = changed p ∙ ⊎_elim (λ w. yes (p == p) (option_map (after_change o lsn) (frame_of p fs)) (frame_of p fs) w.0) (λ w. absurd (w.1 refl)) (eqb_tells p p) ∙ ap (option_map (after_change o lsn)) there

      elsewhere : (q : ℕ) → q ≢ p → frame_of q gs ≡ frame_of q fs
      elsewhere q other = changed q ∙ ⊎_elim (λ w. absurd (other (sym w.1))) (λ w. no (p == q) (option_map (after_change o lsn) (frame_of q fs)) (frame_of q fs) w.0) (eqb_tells p q)

      next_now : IsSoundImage first → lsn ≡ next_of (now_of g a)
      next_now sound = lsn_is ∙ next_is a (over.at_rest.quiet sound)

      now_is : IsSoundImage first → page_of (after_change o lsn f) ≡ overlaid p a.root.first (now_of g b).records (home_of g b p)
      now_is sound =
          let next = next_of (now_of g a) in
          let high : was.lsn < next = subst (λ (h : PageHeld). h.lsn < next) (was_is sound) (omega (arith, lower, next_now sound)) in
          ap (λ (h : PageHeld). record { lsn = lsn; body = overlaid_by o h.body }) (was_is sound)
          ∙ ap (λ (n : ℕ). record { lsn = n; body = overlaid_by o was.body }) (next_now sound)
          ∙ ap (λ x. record { lsn = next; body = laid_over x was.body }) (sym is_over)
          ∙ sym (goes_in p next r was touched high) ∙ sym (push_page p (home_of g a p))

      high_home : (home_of g a p).lsn < lsn
      high_home = let h = held_high first g a p (page_of f) f.since (over.held p f there) in omega (arith, h, lower)

      -- what is at home has all records below that of the first change since
      abbrev IsSince : ℕ → Type 0
      IsSince since = (since < next_of (now_of g b)) × (overlaid p a.root.first (take (since - a.root.first) (now_of g b).records) (home_of g a p) ≡ home_of g a p)

      may_put : (since : ℕ) → (IsSoundImage first → IsSince since) → MayPut first g b p since (page_of (after_change o lsn f))
      may_put since has = record {
        counted = inside;
        above = high_home;
        sound = λ sound.
            record { counted = inside; above = high_home; low = omega (arith, length_more, next_now sound); is = inl (now_is sound); early = (has sound).0; behind = (has sound).1 };
      }

      -- where the page had no change, it has all
      since_now : page_of f ≡ home_of g a p → IsSoundImage first → IsSince lsn
      since_now clean sound =
          let rs = (now_of g a).records in
          let n : lsn - a.root.first ≡ length rs = omega (arith, next_now sound) in
          let front : take (lsn - a.root.first) (now_of g b).records ≡ rs =
          ap (λ (m : ℕ). take m (now_of g b).records) n ∙ ap (λ (l : List Record). take (length rs) l) records_are ∙ take_at rs (r ∷ []) (length rs) refl in
          (omega (arith, next_now sound, length_more), ap (λ (l : List Record). overlaid p a.root.first l (home_of g a p)) front ∙ sym (was_is sound) ∙ clean)

      since_then_is : (s : ℕ) → MayPut first g a p s (page_of f) → IsSoundImage first → IsSince s
      since_then_is s may sound =
          let was_may = may.sound sound in
          let early = was_may.early in
          (omega (arith, early, length_more), front_same p s was_may.early ∙ was_may.behind)

      held_now : (s : Option ℕ) → IsHeld (backing_of first g) a p (page_of f) s → IsHeld (backing_of first g) b p (page_of (after_change o lsn f)) (since_then s lsn)
      held_now None clean = may_put lsn (since_now clean)
      held_now (Some s) may = may_put s (since_then_is s may)

      one : {A : Type 0} (x y : A) → Some x ≡ Some y → x ≡ y
      one x y e = cc e

      pub on_over : Fits → IsOver (backing_of first g) gs b
      on_over may = record { at_rest = push_rests may over.at_rest; held = λ q h is. ⊎_elim (λ w. at_page q h is w.1) (λ w. beside q h is w.1) (eqb_tells q p) }
        where
          at_page : (q : ℕ) (h : Frame) → frame_of q gs ≡ Some h → q ≡ p → IsHeld (backing_of first g) b q (page_of h) h.since
          at_page q h is same =
              let h_is : after_change o lsn f ≡ h = one (after_change o lsn f) h (sym here ∙ ap (λ (n : ℕ). frame_of n gs) (sym same) ∙ is) in
              subst (λ (x : Frame). IsHeld (backing_of first g) b q (page_of x) x.since) h_is
              (subst (λ (n : ℕ). IsHeld (backing_of first g) b n (page_of (after_change o lsn f)) (since_then f.since lsn)) (sym same) (held_now f.since (over.held p f there)))

          beside : (q : ℕ) (h : Frame) → frame_of q gs ≡ Some h → q ≢ p → IsHeld (backing_of first g) b q (page_of h) h.since
          beside q h is other = still_held q (page_of h) h.since (others q other) (over.held q h (sym (elsewhere q other) ∙ is))

      pub on_current : IsSoundImage first → (q : ℕ) → page_shown gs q (home_of g b q) ≡ overlaid q a.root.first (now_of g b).records (home_of g b q)
      on_current sound q =
          ⊎_elim
          (λ w.
          let P : ℕ → Type 0 = λ n. page_shown gs n (home_of g b n) ≡ overlaid n a.root.first (now_of g b).records (home_of g b n) in
          subst P (sym w.1) (ap (kept_or (home_of g b p)) here ∙ now_is sound))
          (λ w. ap (kept_or (home_of g b q)) (elsewhere q w.1) ∙ current sound q ∙ sym (push_other q (home_of g a q) (others q w.1)))
          (eqb_tells q p)

  -- ---- the whole call

  -- what can be logged fits behind what is there
  pub can_follow : (r : Record) (s : Parts D O) → CanLog r s → (IsSoundImage first → s.meta.tables ≡ tables_of (now_of g s.base).records)
      → (IsSoundImage first → FitsBehind s.base.root.pages (tables_of (now_of g s.base).records) (record_bytes r)) × (field 1 0 (record_bytes r) ≢ 1)
  can_follow r s can tables =
      let tells = record_read r can.logged.record_is in (
        λ sound. record {
          logged = subst IsLogged (sym tells) can.logged;
          bytes_are = ap record_bytes tells;
          inside = subst (λ (x : Record). LiesInside s.base.root.pages (overlay_of x)) (sym tells) can.counted;
          needed = subst (λ (x : Record). needs x (tables_of (now_of g s.base).records) ≡ Ok tt) (sym tells) (subst (λ (t : Tables). needs r t ≡ Ok tt) (tables sound) can.may.fits);
        },
        change_number r can.logged.record_is can.change,
      )

  -- what can be logged can still be, where room isn't lost below
  pub can_still : (r : Record) (s t : Parts D O) → KeepsBase g s.base t.base → t.meta ≡ s.meta → CanLog r s → CanLog r t
  can_still r s t keeps meta can =
      let root = keeps.root in
      let more = kept_room s.base.log t.base.log keeps.size keeps.waits in
      let next = keeps.next in
      let room = can.room in
      let number = can.number in
      record {
        logged = can.logged;
        change = can.change;
        counted = subst (λ (x : Root). LiesInside x.pages (overlay_of r)) (sym root) can.counted;
        pages = subst (λ (x : Root). MayCount x.pages) (sym root) can.pages;
        may = subst (λ m. MayApply r m) (sym meta) can.may;
        room = omega (arith, room, more);
        number = omega (arith, number, next);
      }

  -- with no change below
  pub logs_now : (r : Record) (s t : Parts D O) → AddsRecord g r s t → LogsRecord g r s.base t.base
  logs_now r s t adds = record { j = 0; waiting = adds.waiting; hardened = adds.hardened; now = adds.now; root = adds.root }

  -- behind a change below
  pub logs_behind : (r : Record) (s m t : Parts D O) → MovesBase g s.base m.base → AddsRecord g r m t → LogsRecord g r s.base t.base
  logs_behind r s m t moves adds = record {
    j = moves.j;
    waiting = adds.waiting ∙ ap (λ (l : List Record). l ++ r ∷ []) moves.waiting;
    hardened = adds.hardened ∙ moves.hardened;
    now = adds.now ∙ ap (step r) moves.now;
    root = adds.root ∙ moves.root;
  }
