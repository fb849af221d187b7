-- A generation of the log begins, and an older one goes: what a crash leaves, and what is there then.
use Rattle.std.proofs.Common.{◌≡◌, inl, inr, ⊎_elim, ℕ, ◌+◌, ◌-◌, ◌*◌, ◌^◌, ◌<◌, ◌≤◌, Bool, true, false, List, [], ◌∷◌, ◌++◌, length, take, drop, Some, refl, sym, ◌∙◌, ap, subst, arith, length-append, append_assoc}
use Rattle.std.proofs.lemmas.Bool.{cases_lt}
use Rattle.std.proofs.lemmas.List.{append-nil, map-append, length-map, take-append-le, take_at, drop_at}
use Rattle.std.proofs.Math.Seq.{take-append-add}
use Rattle.ctr_types.specs.declared.file.File.{File}
use Rattle.ctr_types.specs.declared.file.File.TheVariants.{Root as RootFile, LogA, LogB, Pages}
use Rattle.ctr_disk.specs.declared.disk.Disk.{Ghosts}
use Rattle.ctr_disk.specs.Image.{Image, content, OtherFilesStay}
use Rattle.ctr_disk.specs.Device.{LeavesOnly, IsDurable}
use Rattle.ctr_disk.proofs.Moments.{weaker}
use Rattle.ctr_redo.specs.home_Root.{Root}
use Rattle.ctr_redo.specs.home_Block_TheVariants.{Root as RootBlock}
use Rattle.ctr_redo.specs.home_Blocks.{value_of}
use Rattle.ctr_redo.specs.home_Roots.{SaysRoot, root_block}
use Rattle.ctr_redo.specs.home_Writing.{OthersStay, IsOldOrNewValue}
use Rattle.ctr_redo.specs.log_Logs.{records}
use Rattle.ctr_redo.specs.log_Reading.{log_file}
use Rattle.ctr_redo.specs.log_Kept.{kept_log, other_file, next_file, has_newer, HoldsLog, StartsAt, WritesOne, WritesTwo, WritesBy, WritesBehind, KeepsPrefix, GoesOnWith, IsStarted, BeginsFile}
use Rattle.ctr_redo.proofs.log_KeptLaws.{log_in_is}
use Rattle.ctr_redo.proofs.log_StartLemmas.{next_other}
use Rattle.ctr_redo.proofs.log_ForgetLaws.{some_records, alone}
use Rattle.ctr_redo.specs.rec_Record.{Record}
use Rattle.ctr_redo.specs.rec_Read.{record_in}
use Rattle.ctr_redo.specs.ctr_meta.Tables.{Tables, no_tables}
use Rattle.ctr_redo.specs.ctr_meta.Effects.{tables_of}
use Rattle.ctr_redo.specs.ctr_pool.Pages.{PageHeld}
use Rattle.ctr_redo.specs.ctr_pool.Below.{HoldsStill}
use Rattle.ctr_redo.specs.Overlaid.{overlaid, touches}
use Rattle.ctr_redo.specs.States.{State, Stored, state_of, steps, with_more, next_of, AreHome}
use Rattle.ctr_redo.specs.Fitting.{EachFits, FitsBehind, MayFollow}
use Rattle.ctr_redo.specs.Images.{records_in, stored_in, IsSound, FoldsFront, IsLogFile, named_log, other_log, newer_root, MayBeginSecond, CanDropOlder}
use Rattle.ctr_redo.proofs.PageLaws.{overlaid-append, stays_out}
use Rattle.ctr_redo.proofs.StateLaws.{tables-push, state_more}
use Rattle.ctr_redo.proofs.FitLaws.{tables_behind, tables_behind_is, each_append, each_behind, begins_append, newer_out, two_newer, last_written, named_kept, choose_yes}
use Rattle.ctr_redo.proofs.ImageLaws.{KeepsHomes, logs_apart, root_apart, more_stored}
use Rattle.ctr_redo.proofs.GrowthLaws.{pages_file, home_old}
use Rattle.ctr_redo.proofs.Generations.{is_checkpoint, higher_has, page_dropped}
use Rattle.ctr_redo.proofs.BeginLaws.{folds_begun, sound_begun, state_begun}
use Rattle.ctr_redo.proofs.DropLaws.{begun, log_dropped, next_dropped, sound_dropped, state_without, folds_dropped, newer_passes, fits_alone}
use Rattle.ctr_base.specs.declared.base.Base.{Base}
use Rattle.ctr_base.specs.Base.{stored_of, waiting_of, now_of, home_of, MaySave, IsQuiet, StandsWell, HasGate, LeavesBase}
use Rattle.ctr_base.specs.BaseLaws.{gate_there}
use Rattle.ctr_base.specs.LogLaws.{by_is_log, writes_holds, goes_on_same, writes_same, log_content}
use Rattle.ctr_base.specs.Generations.{IsCheckpoint, KeepsFold, OlderIsHome}

-- the file for a generation behind another is one of the log
next_is_log : (f : File) → IsLogFile (next_file f)
next_is_log RootFile = tt
next_is_log LogA = tt
next_is_log LogB = tt
next_is_log Pages = tt

-- the first of a list's records, where there are more than so many
take_more : (n : ℕ) (rs : List Record) (r : Record) → n ≤ length rs → take n (rs ++ r ∷ []) ≡ take n rs
take_more n rs r low = take-append-le n rs (r ∷ []) low

module _ {D O : Type 0} (g : Ghosts D) where
  -- where nothing waits, all that there is stands on the disk
  now_stored : (b : Base D O) → b.log.buffered ≡ [] → now_of g b ≡ stored_of g b
  now_stored b none =
      ap (λ (l : List (List ℕ)). with_more (records_in l) (stored_of g b)) none ∙ ap (λ (l : List Record). record (stored_of g b) { records = l }) (append-nil (stored_of g b).records)

  -- ---- a generation begins

  one_written : (a : Base D O) → IsQuiet g a → a.log.older ≡ false → WritesOne a.root.file a.root.first a.log (g.reads a.disk)
  one_written a quiet one = subst (λ (o : Bool). WritesBy o a.root.file a.root.first a.log (g.reads a.disk)) one quiet.writes.by

  may_begin : (a : Base D O) (bytes : List ℕ) → IsQuiet g a → a.log.older ≡ false → IsCheckpoint g a bytes → MayBeginSecond a.root bytes (g.reads a.disk)
  may_begin a bytes quiet one is =
      let image = g.reads a.disk in
      let kept = kept_log a.root.file a.root.first image in
      let tables : tables_of (stored_of g a).records ≡ tables_behind no_tables kept = sym (tables_behind_is no_tables kept) in
      record {
        one = newer_out a.root.first (content (log_file a.root.file) image) (content (other_file a.root.file) image) (one_written a quiet one).holds.dropped;
        fits = each_append a.root.pages no_tables kept (bytes ∷ []) quiet.sound.fits (subst (λ (t : Tables). FitsBehind a.root.pages t bytes) tables is.fits, tt);
        number = is.number;
        keeps = is.keeps;
      }

  next_is : (a : Base D O) → IsQuiet g a → a.log.older ≡ false → next_file a.log.file ≡ other_file a.root.file
  next_is a quiet one = ap next_file (one_written a quiet one).file_is ∙ next_other a.root.file

  pub begin_leaves : (a b : Base D O) (bytes : List ℕ) → IsQuiet g a → a.log.older ≡ false → IsCheckpoint g a bytes → LeavesOnly g a.disk b.disk (KeepsPrefix (next_file a.log.file) a.root.file a.root.first (bytes ∷ []) (g.reads a.disk)) → LeavesBase g a b
  begin_leaves a b bytes quiet one is crash =
      let old = g.reads a.disk in
      let Written : Image → Type 0 = KeepsPrefix (next_file a.log.file) a.root.file a.root.first (bytes ∷ []) old in
      let may = may_begin a bytes quiet one is in
      let there : (c : Image) → Written c → KeepsPrefix (other_file a.root.file) a.root.file a.root.first (bytes ∷ []) old c = λ c keeps.
      subst (λ (f : File). KeepsPrefix f a.root.file a.root.first (bytes ∷ []) old c) (next_is a quiet one) keeps in
      record {
        front = weaker g a.disk b.disk Written (FoldsFront (state_of (stored_of g a)) (waiting_of a)) crash (λ c keeps. (0, folds_begun a.root bytes old c quiet.sound may (there c keeps)));
        gate = weaker g a.disk b.disk Written (HasGate a.log) crash (λ c keeps. stays_there c (there c keeps).others);
      }
    where
      stays_there : (c : Image) → OtherFilesStay (other_file a.root.file) (g.reads a.disk) c → HasGate a.log c
      stays_there c others =
          let file = (one_written a quiet one).file_is in
          let same : content a.log.file c ≡ content a.log.file (g.reads a.disk) = subst (λ (f : File). content f c ≡ content f (g.reads a.disk)) (sym file) (named_kept a.root.file (g.reads a.disk) c others) in
          omega (arith, gate_there g a (g.reads a.disk) quiet refl, ap length same)

  -- what begun was answered Ok made
  pub record Begun (a b : Base D O) (bytes : List ℕ) : Type 0 where
    pub root : b.root ≡ a.root
    pub none : a.log.buffered ≡ []
    pub started : IsStarted a.log b.log
    pub durable : b.durable ≡ b.log.first
    pub goes_on : GoesOnWith a.root.file a.root.first (bytes ∷ []) b.log (g.reads a.disk) (g.reads b.disk)

  module _ (a b : Base D O) (bytes : List ℕ) (quiet : IsQuiet g a) (one : a.log.older ≡ false) (is : IsCheckpoint g a bytes) (f : Begun a b bytes) where
    abbrev old : Image
    old = g.reads a.disk

    abbrev new : Image
    new = g.reads b.disk

    abbrev r : Record
    r = record_in bytes

    may : MayBeginSecond a.root bytes old
    may = may_begin a bytes quiet one is

    by_two : WritesTwo a.root.file a.root.first b.log new
    by_two = subst (λ (o : Bool). WritesBy o a.root.file a.root.first b.log new) f.started.older f.goes_on.writes.by

    others : OtherFilesStay (other_file a.root.file) old new
    others = subst (λ (x : File). OtherFilesStay x old new) by_two.file_is f.goes_on.others

    homes_same : KeepsHomes old new
    homes_same = logs_apart b.log.file old new (by_is_log b.log.older a.root.file a.root.first b.log new f.goes_on.writes.by) f.goes_on.others

    stored_now : stored_of g b ≡ with_more (r ∷ []) (stored_of g a)
    stored_now = ap (λ (x : Root). stored_in x new) f.root ∙ more_stored a.root (bytes ∷ []) old new homes_same f.goes_on.log_is

    before : now_of g a ≡ stored_of g a
    before = now_stored a f.none

    behind : now_of g b ≡ with_more (r ∷ []) (stored_of g a)
    behind = now_stored b f.started.empty ∙ stored_now

    pub records_begun : (stored_of g b).records ≡ (stored_of g a).records ++ r ∷ []
    records_begun = ap (λ (s : Stored). s.records) stored_now

    -- it is on no page
    off : (q : ℕ) → touches r q ≡ true → ⊥
    off q on = let ck = is_checkpoint bytes is.number in cc (sym (ap (λ (x : Record). touches x q) ck.2) ∙ on)

    one_more : (q : ℕ) (h : PageHeld) → overlaid q a.root.first ((stored_of g a).records ++ r ∷ []) h ≡ overlaid q a.root.first (stored_of g a).records h
    one_more q h =
        let rs = (stored_of g a).records in
        overlaid-append q a.root.first rs (r ∷ []) h ∙ stays_out q (a.root.first + length rs) r (overlaid q a.root.first rs h) (λ on. absurd (off q on))

    pages : (q : ℕ) → overlaid q b.root.first (now_of g b).records (home_of g b q) ≡ overlaid q a.root.first (now_of g a).records (home_of g a q)
    pages q =
        ap (λ (s : Stored). overlaid q s.first s.records (s.homes q)) behind ∙ one_more q (home_of g a q)
        ∙ sym (ap (λ (s : Stored). overlaid q s.first s.records (s.homes q)) before)

    holds : HoldsLog a.root.file a.root.first (kept_log a.root.file a.root.first old ++ bytes ∷ []) new
    holds = subst (λ (l : List (List ℕ)). HoldsLog a.root.file a.root.first l new) f.goes_on.log_is (writes_holds a.root.file a.root.first b.log new f.goes_on.writes)

    state : state_of (stored_of g b) ≡ state_of (stored_of g a)
    state = ap (λ (x : Root). state_of (stored_in x new)) f.root ∙ state_begun a.root bytes old new quiet.sound may others 1 f.goes_on.log_is

    pub begin_fold : KeepsFold g a b
    begin_fold = record {
      homes = λ q. ap (λ (s : Stored). s.homes q) stored_now;
      hardened = state;
      now = ap state_of (now_stored b f.started.empty) ∙ state ∙ sym (ap state_of before);
      tables = ap (λ (s : Stored). tables_of s.records) behind ∙ tables-push (stored_of g a).records r ∙ is.keeps ∙ sym (ap (λ (s : Stored). tables_of s.records) before);
      pages = pages;
    }

    next_begun : next_of (stored_of g b) ≡ next_of (stored_of g a) + 1
    next_begun = ap next_of stored_now ∙ omega (arith, length-append (stored_of g a).records (r ∷ []))

    pub begin_quiet : IsDurable g b.disk → IsQuiet g b
    begin_quiet only =
        let sound = sound_begun a.root bytes old new quiet.sound may others 1 holds in
        let first = quiet.first in
        let started = f.started.next in
        let none = ap (λ (l : List (List ℕ)). length l) f.none in
        record {
          only = only;
          sound = subst (λ (x : Root). IsSound x new) (sym f.root) sound;
          writes = subst (λ (x : Root). WritesBehind x.file x.first b.log new) (sym f.root) f.goes_on.writes;
          follows = subst (λ (x : Root). MayFollow x b.log.file b.log.buffered new) (sym f.root)
              (subst (λ (l : List (List ℕ)). MayFollow a.root b.log.file l new) (sym f.started.empty)
              (record {
                file_is = last_written a.root.file a.root.first new b.log.older b.log f.goes_on.writes.by;
                fits = subst (EachFits a.root.pages no_tables) (sym (append-nil (kept_log a.root.file a.root.first new))) sound.fits;
                changes = tt;
              }));
          durable = omega (arith, f.durable, started, first, none, next_begun);
          first = omega (arith, started, first, none, next_begun);
        }

    pub begin_holds : HoldsStill (home_of g) (MaySave g) a b
    begin_holds = record {
      same = λ q. ap (λ (s : Stored). s.homes q) stored_now;
      still = λ q since v may.
          let early = subst (λ (s : Stored). since < next_of s) before may.early in
          record {
            counted = subst (λ (s : Stored). q < s.counted) (sym stored_now) may.counted;
            above = subst (λ (s : Stored). (s.homes q).lsn < v.lsn) (sym stored_now) may.above;
            low = let low = subst (λ (s : Stored). v.lsn < next_of s) before may.low in omega (arith, low, next_begun, ap next_of behind, ap next_of stored_now);
            is = ⊎_elim (λ all. inl (all ∙ sym (pages q)))
                (λ same. inr (subst (λ (s : Stored). overlaid q s.first s.records v ≡ overlaid q s.first s.records (s.homes q)) (sym stored_now) (one_more q v ∙ same ∙ sym (one_more q (home_of g a q)))))
                may.is;
            early = omega (arith, early, next_begun, ap next_of behind, ap next_of stored_now);
            behind = subst (λ (s : Stored). overlaid q s.first (take (since - s.first) s.records) (s.homes q) ≡ s.homes q) (sym behind)
                (ap (λ (l : List Record). overlaid q a.root.first l (home_of g a q)) (take_more (since - a.root.first) (stored_of g a).records r (omega (arith, early)))
                ∙ subst (λ (s : Stored). overlaid q s.first (take (since - s.first) s.records) (s.homes q) ≡ s.homes q) before may.behind);
          };
    }

  -- whatever stands on the disk
  pub stands_begun : (a b : Base D O) (bytes : List ℕ) → StandsWell g a → a.log.older ≡ false → a.log.buffered ≡ [] → b.root ≡ a.root → b.log.file ≡ next_file a.log.file → IsStarted a.log b.log → BeginsFile bytes a.log b.log (g.reads a.disk) (g.reads b.disk) → StandsWell g b
  stands_begun a b bytes stands one none root file started begun =
      let kept = logs_apart (next_file a.log.file) (g.reads a.disk) (g.reads b.disk) (next_is_log a.log.file) begun.others in
      let goes = stands.goes_on in
      let size = stands.size in
      let start : a.log.start ≡ a.root.first = subst (λ (o : Bool). StartsAt o a.root.first a.log.start) one stands.starts in
      let more = some_records goes.1 goes.2.log_is.some goes.2.log_is.batches_are.each in
      let later : a.root.first < b.log.start = omega (arith, start, goes.2.start, goes.2.first_is, more, started.start) in
      record {
        says = subst (λ (r : Root). SaysRoot (value_of RootBlock (g.reads b.disk)) r) (sym root)
            (subst (λ (l : List ℕ). SaysRoot (value_of RootBlock (record (g.reads a.disk) { root = l })) a.root) (sym kept.root) stands.says);
        file = subst IsLogFile (sym file) (next_is_log a.log.file);
        goes_on = (a.log.first, (bytes ∷ []) ∷ [], begun.goes_on);
        size = omega (arith, size, ap (λ (r : Root). r.pages) root, ap (λ (l : List ℕ). length l) kept.pages);
        starts = subst (λ (o : Bool). StartsAt o b.root.first b.log.start) (sym started.older) (omega (arith, later, ap (λ (r : Root). r.first) root));
      }

  pub begun_homes : (a b : Base D O) (bytes : List ℕ) → b.root ≡ a.root → BeginsFile bytes a.log b.log (g.reads a.disk) (g.reads b.disk) → KeepsHomes (g.reads a.disk) (g.reads b.disk)
  begun_homes a b bytes root begun = logs_apart (next_file a.log.file) (g.reads a.disk) (g.reads b.disk) (next_is_log a.log.file) begun.others

  -- ---- the older one goes

  module _ (a : Base D O) (quiet : IsQuiet g a) (some : a.log.older ≡ true) (high : a.log.first ≤ 2 ^ 63) (home : OlderIsHome g a) where
    abbrev was : Image
    was = g.reads a.disk

    abbrev start : ℕ
    start = a.log.start

    abbrev newer : Root
    newer = newer_root start a.root

    abbrev xs : List (List ℕ)
    xs = named_log a.root was

    abbrev ys : List (List ℕ)
    ys = other_log a.root was

    two : WritesTwo a.root.file a.root.first a.log was
    two = subst (λ (o : Bool). WritesBy o a.root.file a.root.first a.log was) some quiet.writes.by

    named_is : xs ≡ records two.bs
    named_is = let low = two.holds.low in log_in_is a.root.first two.bs (content (log_file a.root.file) was) two.holds.named.batches_are two.holds.short (omega (arith, low))

    start_is : start ≡ a.root.first + length xs
    start_is = omega (arith, two.goes_on.start, ap length named_is)

    older_len : start - a.root.first ≡ length (records_in xs)
    older_len = omega (arith, start_is, length-map xs record_in)

    both : kept_log a.root.file a.root.first was ≡ xs ++ ys
    both = choose_yes (has_newer a.root.first (content (log_file a.root.file) was) (content (other_file a.root.file) was)) (xs ++ ys) xs (two_newer a.root.file a.root.first was two.bs two.cs two.holds)

    now_both : (now_of g a).records ≡ records_in xs ++ (records_in ys ++ waiting_of a)
    now_both = ap (λ (l : List (List ℕ)). records_in l ++ waiting_of a) both ∙ ap (λ (l : List Record). l ++ waiting_of a) (map-append record_in xs ys) ∙ append_assoc (records_in xs) (records_in ys) (waiting_of a)

    older_home : AreHome a.root.first (records_in xs) (home_of g a)
    older_home q =
        let front : take (start - a.root.first) (now_of g a).records ≡ records_in xs =
        ap (λ (n : ℕ). take n (now_of g a).records) older_len ∙ ap (λ (l : List Record). take (length (records_in xs)) l) now_both ∙ take_at (records_in xs) (records_in ys ++ waiting_of a) (length (records_in xs)) refl in
        ap (λ (l : List Record). overlaid q a.root.first l (home_of g a q)) (sym front) ∙ home q

    can : CanDropOlder a.root start was
    can = record {
      two = two_newer a.root.file a.root.first was two.bs two.cs two.holds;
      start_is = start_is;
      high = omega (arith, high, two.goes_on.start, two.goes_on.first_is);
      home = older_home;
    }

    pub drop_leaves : (b : Base D O) → LeavesOnly g a.disk b.disk (IsOldOrNewValue RootBlock (root_block newer) was) → LeavesBase g a b
    drop_leaves b crash =
        let Written : Image → Type 0 = IsOldOrNewValue RootBlock (root_block newer) was in
        let file = by_is_log a.log.older a.root.file a.root.first a.log was quiet.writes.by in
        let same : (c : Image) → Written c → content a.log.file c ≡ content a.log.file was = λ c which. log_content a.log.file was c file (root_apart was c which.0.files) in
        record {
          front = weaker g a.disk b.disk Written (FoldsFront (state_of (stored_of g a)) (waiting_of a)) crash (λ c which. (0, folds_dropped a.root start was c quiet.sound can which));
          gate = weaker g a.disk b.disk Written (HasGate a.log) crash (λ c which. omega (arith, gate_there g a was quiet refl, ap length (same c which)));
        }

    -- once it is written
    module _ (d : D) (others : OthersStay RootBlock was (g.reads d)) (is : value_of RootBlock (g.reads d) ≡ Some (root_block newer)) where
      abbrev b : Base D O
      b = record a { disk = d; log = record a.log { older = false }; root = newer }

      abbrev now : Image
      now = g.reads d

      abbrev ws : List Record
      ws = waiting_of a

      sound_now : IsSound newer now
      sound_now = sound_dropped a.root start was quiet.sound can now others is

      log_is : kept_log newer.file newer.first now ≡ ys
      log_is = log_dropped a.root start was quiet.sound can now others

      homes : (q : ℕ) → home_of g b q ≡ home_of g a q
      homes q = home_old a.root was now others q

      state_left : state_of (stored_of g b) ≡ state_of (stored_of g a)
      state_left = state_without a.root start was quiet.sound can now others

      now_state : state_of (now_of g b) ≡ state_of (now_of g a)
      now_state = state_more ws (stored_of g b) sound_now.below ∙ ap (steps ws) state_left ∙ sym (state_more ws (stored_of g a) quiet.sound.below)

      first_is : start ≡ a.root.first + length (records_in xs)
      first_is = omega (arith, start_is, length-map xs record_in)

      -- all records, without the older ones
      rest_is : (now_of g b).records ≡ records_in ys ++ ws
      rest_is = ap (λ (l : List (List ℕ)). records_in l ++ ws) log_is

      all_is : (now_of g a).records ≡ records_in xs ++ (now_of g b).records
      all_is = now_both ∙ ap (λ (l : List Record). records_in xs ++ l) (sym rest_is)

      pub records_left : (stored_of g b).records ≡ drop (start - a.root.first) (stored_of g a).records
      records_left =
          ap records_in log_is
          ∙ sym (ap (λ (n : ℕ). drop n (stored_of g a).records) older_len ∙ ap (λ (l : List (List ℕ)). drop (length (records_in xs)) (records_in l)) both ∙ ap (λ (l : List Record). drop (length (records_in xs)) l) (map-append record_in xs ys)
          ∙ drop_at (records_in xs) (records_in ys) (length (records_in xs)) refl)

      -- a page that has the older ones is the same without them
      without : (q : ℕ) (h : PageHeld) → overlaid q a.root.first (records_in xs) h ≡ h → (rs : List Record) → overlaid q a.root.first (records_in xs ++ rs) h ≡ overlaid q start rs h
      without q h has rs = page_dropped q a.root.first (records_in xs) rs h has ∙ ap (λ (n : ℕ). overlaid q n rs h) (sym first_is)

      pages_left : (q : ℕ) → overlaid q b.root.first (now_of g b).records (home_of g b q) ≡ overlaid q a.root.first (now_of g a).records (home_of g a q)
      pages_left q =
          ap (overlaid q start (now_of g b).records) (homes q) ∙ sym (without q (home_of g a q) (older_home q) (now_of g b).records)
          ∙ ap (λ (l : List Record). overlaid q a.root.first l (home_of g a q)) (sym all_is)

      pub drop_fold : KeepsFold g a b
      drop_fold = record { homes = homes; hardened = state_left; now = now_state; tables = ap (λ (s : State). s.tables) now_state; pages = pages_left }

      next_is_same : next_of (stored_of g b) ≡ next_of (stored_of g a)
      next_is_same = next_dropped a.root start was quiet.sound can now others

      pub drop_quiet : IsDurable g d → IsQuiet g b
      drop_quiet only =
          let w = two in
          let there = writes_same a.root a.log was now (root_apart was now others.files) quiet.writes in
          let two_there : WritesTwo a.root.file a.root.first a.log now = subst (λ (o : Bool). WritesBy o a.root.file a.root.first a.log now) some there.by in
          let writes : WritesBehind newer.file start b.log now = subst (λ (n : ℕ). WritesBehind newer.file n b.log now) (sym two_there.goes_on.start) (alone a.log a.root.file a.root.first now quiet.writes.numbered two_there) in
          let kept = kept_log a.root.file a.root.first was in
          let fits : EachFits a.root.pages (tables_behind no_tables xs) (ys ++ a.log.buffered) =
          each_behind a.root.pages no_tables xs (ys ++ a.log.buffered) (subst (EachFits a.root.pages no_tables) (ap (λ (l : List (List ℕ)). l ++ a.log.buffered) both ∙ append_assoc xs ys a.log.buffered) quiet.follows.fits) in
          let begins = begins_append ys a.log.buffered (begun a.root start was quiet.sound can) quiet.follows.changes in
          record {
            only = only;
            sound = sound_now;
            writes = writes;
            follows = record {
              file_is = last_written newer.file start now false b.log writes.by;
              fits = subst (λ (l : List (List ℕ)). EachFits a.root.pages no_tables (l ++ a.log.buffered)) (sym log_is) (fits_alone a.root.pages (tables_behind no_tables xs) (ys ++ a.log.buffered) begins fits);
              changes = quiet.follows.changes;
            };
            durable = quiet.durable ∙ sym next_is_same;
            first = quiet.first ∙ sym next_is_same;
          }

      -- what comes behind the older records, where all are taken up to a number
      front_is : (since : ℕ) → start ≤ since → take (since - a.root.first) (now_of g a).records ≡ records_in xs ++ take (since - start) (now_of g b).records
      front_is since late =
          let n : since - a.root.first ≡ length (records_in xs) + (since - start) = omega (arith, late, first_is) in
          ap (λ (m : ℕ). take m (now_of g a).records) n ∙ ap (λ (l : List Record). take (length (records_in xs) + (since - start)) l) all_is ∙ take-append-add (records_in xs) (now_of g b).records (since - start)

      behind_late : (q since : ℕ) → start ≤ since → overlaid q a.root.first (take (since - a.root.first) (now_of g a).records) (home_of g a q) ≡ home_of g a q → overlaid q start (take (since - start) (now_of g b).records) (home_of g a q) ≡ home_of g a q
      behind_late q since late has =
          sym (without q (home_of g a q) (older_home q) (take (since - start) (now_of g b).records))
          ∙ ap (λ (l : List Record). overlaid q a.root.first l (home_of g a q)) (sym (front_is since late)) ∙ has

      behind_early : (q since : ℕ) → since ≤ start → overlaid q start (take (since - start) (now_of g b).records) (home_of g a q) ≡ home_of g a q
      behind_early q since early = let n : since - start ≡ 0 = omega (arith, early) in ap (λ (m : ℕ). overlaid q start (take m (now_of g b).records) (home_of g a q)) n

      behind_still : (q since : ℕ) → overlaid q a.root.first (take (since - a.root.first) (now_of g a).records) (home_of g a q) ≡ home_of g a q → overlaid q start (take (since - start) (now_of g b).records) (home_of g a q) ≡ home_of g a q
      behind_still q since has = ⊎_elim (λ low. behind_early q since (omega (arith, low))) (λ late. behind_late q since late has) (cases_lt since start)

      stored_all : (stored_of g a).records ≡ records_in xs ++ (stored_of g b).records
      stored_all = ap records_in both ∙ map-append record_in xs ys ∙ ap (λ (l : List (List ℕ)). records_in xs ++ records_in l) (sym log_is)

      pub drop_holds : HoldsStill (home_of g) (MaySave g) a b
      drop_holds = record {
        same = homes;
        still = λ q since v may.
            let k = home_of g a q in
            let above = may.above in
            let next = next_is_same in
            let low = may.low in
            let early = may.early in
            let lens = ap (λ (l : List Record). length l) all_is in
            let split = length-append (records_in xs) (now_of g b).records in
            record {
              counted = may.counted;
              above = subst (λ (h : PageHeld). h.lsn < v.lsn) (sym (homes q)) above;
              low = omega (arith, low, lens, split, first_is);
              is = ⊎_elim (λ all. inl (all ∙ sym (pages_left q)))
                  (λ same.
                  let has = higher_has q a.root.first (records_in xs) k v (older_home q) (omega (arith, above)) in
                  inr (sym (without q v has (stored_of g b).records) ∙ ap (λ (l : List Record). overlaid q a.root.first l v) (sym stored_all) ∙ same ∙ ap (λ (l : List Record). overlaid q a.root.first l k) stored_all
                  ∙ without q k (older_home q) (stored_of g b).records ∙ ap (overlaid q start (stored_of g b).records) (sym (homes q))))
                  may.is;
              early = omega (arith, early, lens, split, first_is);
              behind = ap (overlaid q start (take (since - start) (now_of g b).records)) (homes q) ∙ behind_still q since may.behind ∙ sym (homes q);
            };
      }

  -- whatever stands on the disk
  pub stands_dropped : (a : Base D O) (d : D) → StandsWell g a → a.log.older ≡ true → a.log.first ≤ 2 ^ 63 → OthersStay RootBlock (g.reads a.disk) (g.reads d) → value_of RootBlock (g.reads d) ≡ Some (root_block (newer_root a.log.start a.root))
      → StandsWell g (record a { disk = d; log = record a.log { older = false }; root = newer_root a.log.start a.root })
  stands_dropped a d stands some high others is =
      let goes = stands.goes_on in
      let start = subst (λ (o : Bool). StartsAt o a.root.first a.log.start) some stands.starts in
      let here = goes_on_same a.log (g.reads a.disk) (g.reads d) (log_content a.log.file (g.reads a.disk) (g.reads d) stands.file (root_apart (g.reads a.disk) (g.reads d) others.files)) goes.2 in
      record {
        says = (is, newer_passes a.root a.log.start stands.says.1 start (omega (arith, high, goes.2.start, goes.2.first_is)));
        file = stands.file;
        goes_on = (goes.0, goes.1, record { log_is = here.log_is; start = here.start; place = here.place; first_is = here.first_is });
        size = subst (λ (l : List ℕ). 8256 * a.root.pages ≤ length l) (sym (pages_file a.root (g.reads a.disk) (g.reads d) others)) stands.size;
        starts = refl;
      }

  -- the root that is written is that one
  pub is_newer : (a : Base D O) (r : Root) → StandsWell g a → (a.root.stamp < 2 ^ 64 - 1 → r ≡ newer_root a.log.start a.root) → r ≡ newer_root a.log.start a.root
  is_newer a r stands is =
      let stamp = stands.says.1.stamp in
      let first = stands.says.1.first_high in
      let pages = stands.says.1.pages_high in
      is (omega (arith, stamp, first, pages))
