-- The older of two generations goes: the root names the newer one, and the state is the same.
use Rattle.std.proofs.Common.{◌≡◌, inl, inr, ℕ, zero, suc, ◌+◌, ◌<◌, ◌≤◌, ◌*◌, ◌^◌, true, List, [], ◌∷◌, ◌++◌, length, Some, sym, ◌∙◌, ap, subst, arith, length-append}
use Rattle.std.proofs.lemmas.List.{map-append, length-map}
use Rattle.ctr_log.specs.types_File.{File}
use Rattle.ctr_log.specs.home_Root.{Root}
use Rattle.ctr_pool.specs.ctr_disk.Image.{Image, content}
use Rattle.ctr_log.specs.home_Block.TheVariants.{Root as RootBlock}
use Rattle.ctr_log.specs.home_Blocks.{value_of}
use Rattle.ctr_log.specs.home_Roots.{IsRoot, root_block}
use Rattle.ctr_log.specs.home_Writing.{OthersStay, IsOldOrNewValue}
use Rattle.ctr_log.specs.Logs.{Batches, HasLog, records}
use Rattle.ctr_log.specs.Reading.{log_file}
use Rattle.ctr_log.specs.Kept.{log_in, kept_log, other_file, other_byte, has_newer, IsDropped, HoldsOne, HoldsTwo, HoldsLog}
use Rattle.ctr_log.proofs.KeptLaws.{log_in_is, begins, kept_one}
use Rattle.ctr_log.proofs.ForgetLaws.{named_other, other_named, some_records}
use Rattle.ctr_meta.specs.rec_Record.{Record}
use Rattle.ctr_meta.specs.rec_Read.{record_in}
use Rattle.ctr_meta.specs.Tables.{Tables, no_tables}
use Rattle.ctr_meta.specs.Effects.{effect}
use Rattle.ctr_meta.specs.Needs.{needs}
use Rattle.ctr_pool.specs.Pages.{PageHeld}
use Rattle.ctr_redo.specs.Fitting.{EachFits, BeginsOnce, TablesGoOn}
use Rattle.ctr_redo.specs.States.{Stored, state_of, next_of, without_older, AreHome}
use Rattle.ctr_redo.specs.Images.{records_in, home_in, stored_in, IsSound, FoldsTo, named_log, other_log, newer_root, CanDropOlder}
use Rattle.ctr_redo.proofs.FitLaws.{tables_behind, each_behind, go_on_append, newer_out, choose_yes}
use Rattle.ctr_redo.proofs.StateLaws.{state_same}
use Rattle.ctr_redo.proofs.ImageLaws.{KeepsLogs, root_apart, named_same, other_same}
use Rattle.ctr_redo.proofs.GrowthLaws.{page_same, pages_file, home_old, folds_before}
use Rattle.ctr_redo.proofs.Generations.{is_checkpoint, state_dropped}

-- records of which the first is a Checkpoint fit behind nothing
pub fits_alone : (counted : ℕ) (t : Tables) (ys : List (List ℕ)) → BeginsOnce ys → EachFits counted t ys → EachFits counted no_tables ys
fits_alone counted t [] begun all = absurd begun
fits_alone counted t (y ∷ ys) begun all =
    let is = is_checkpoint y begun.0 in
    let there : needs (record_in y) t ≡ needs (record_in y) no_tables = ap (λ (r : Record). needs r t) is.2 ∙ sym (ap (λ (r : Record). needs r no_tables) is.2) in
    let made : effect (record_in y) t ≡ effect (record_in y) no_tables = ap (λ (r : Record). effect r t) is.2 ∙ sym (ap (λ (r : Record). effect r no_tables) is.2) in (
      record { logged = all.0.logged; bytes_are = all.0.bytes_are; inside = all.0.inside; needed = sym there ∙ all.0.needed },
      subst (λ (u : Tables). EachFits counted u ys) made all.1,
    )

go_on_alone : (ys : List (List ℕ)) → BeginsOnce ys → TablesGoOn ys
go_on_alone [] begun = absurd begun
go_on_alone (y ∷ ys) begun = go_on_append (y ∷ []) ys tt begun.1

-- without records that are home, in front of such as begin with a Checkpoint, the state is the same
without_home : (ys : List (List ℕ)) → BeginsOnce ys → (xs : List Record) (i : Stored) → i.records ≡ xs ++ records_in ys → AreHome i.first xs i.homes → state_of (without_older xs (records_in ys) i) ≡ state_of i
without_home [] begun xs i is home = absurd begun
without_home (y ∷ ys) begun xs i is home =
    let ck = is_checkpoint y begun.0 in
    ap (λ (r : Record). state_of (without_older xs (r ∷ records_in ys) i)) ck.2
    ∙ state_dropped xs (records_in ys) ck.0 ck.1 i (is ∙ ap (λ (r : Record). xs ++ r ∷ records_in ys) ck.2) home

-- the two generations that an image holds
two_held : (file first : ℕ) (rs : List (List ℕ)) (image : Image) → HoldsLog file first rs image → has_newer first (content (log_file file) image) (content (other_file file) image) ≡ true
    → (bs : Batches) × (cs : Batches) × HoldsTwo file first bs cs image
two_held file first rs image (inl one) is = absurd (cc (is, newer_out first (content (log_file file) image) (content (other_file file) image) one.2.dropped))
two_held file first rs image (inr two) is = (two.0, two.1, two.3)

-- the root that drops the older one passes its checks
pub newer_passes : (root : Root) (start : ℕ) → IsRoot root → root.first < start → start ≤ 2 ^ 63 → IsRoot (newer_root start root)
newer_passes root start is later high = record {
  format = is.format;
  file = other_low root.file;
  first_low = omega (arith, later);
  first_high = high;
  pages_low = is.pages_low;
  pages_high = is.pages_high;
  stamp = let stamp = is.stamp in omega (arith, stamp, later);
}
  where
    other_low : (n : ℕ) → other_byte n ≤ 1
    other_low zero = omega arith
    other_low (suc n) = omega arith

module _ (root : Root) (start : ℕ) (old : Image) (sound : IsSound root old) (can : CanDropOlder root start old) where
  abbrev xs : List (List ℕ)
  xs = named_log root old

  abbrev ys : List (List ℕ)
  ys = other_log root old

  abbrev newer : Root
  newer = newer_root start root

  held : (bs : Batches) × (cs : Batches) × HoldsTwo root.file root.first bs cs old
  held = two_held root.file root.first (kept_log root.file root.first old) old sound.log can.two

  abbrev bs : Batches
  bs = held.0

  abbrev cs : Batches
  cs = held.1

  older_is : xs ≡ records bs
  older_is = let low = held.2.low in log_in_is root.first bs (content (log_file root.file) old) held.2.named.batches_are held.2.short (omega (arith, low))

  newer_is : ys ≡ records cs
  newer_is = let low = held.2.low in log_in_is (root.first + length (records bs)) cs (content (other_file root.file) old) held.2.newer.batches_are held.2.newer_short low

  next_is : root.first + length (records bs) ≡ start
  next_is = omega (arith, can.start_is, ap length older_is)

  pub later : root.first < start
  later = omega (arith, next_is, some_records bs held.2.named.some held.2.named.batches_are.each)

  pub kept_both : kept_log root.file root.first old ≡ xs ++ ys
  kept_both = choose_yes (has_newer root.first (content (log_file root.file) old) (content (other_file root.file) old)) (xs ++ ys) xs can.two

  both_in : records_in (kept_log root.file root.first old) ≡ records_in xs ++ records_in ys
  both_in = ap records_in kept_both ∙ map-append record_in xs ys

  pub begun : BeginsOnce ys
  begun = sound.begins.newer can.two

  module _ (new : Image) (others : OthersStay RootBlock old new) where
    logs : KeepsLogs old new
    logs = root_apart old new others.files

    named_now : content (log_file newer.file) new ≡ content (other_file root.file) old
    named_now = ap (λ (f : File). content f new) (named_other root.file) ∙ other_same root.file old new logs

    other_now : content (other_file newer.file) new ≡ content (log_file root.file) old
    other_now = ap (λ (f : File). content f new) (other_named root.file) ∙ named_same root.file old new logs

    -- the named file of before is dropped by its number
    dropped : IsDropped start (content (other_file newer.file) new)
    dropped =
        let low = held.2.low in
        let head = begins root.first bs (content (log_file root.file) old) held.2.named held.2.short (omega (arith, low)) in
        subst (IsDropped start) (sym other_now) (inr (omega (arith, head.1, later)))

    holds : HoldsOne newer.file start cs new
    holds = record {
      named = subst (HasLog start cs) (sym named_now) (subst (λ (n : ℕ). HasLog n cs (content (other_file root.file) old)) next_is held.2.newer);
      short = held.2.newer_short;
      low = let low = held.2.low in omega (arith, low, next_is);
      dropped = dropped;
    }

    pub log_dropped : kept_log newer.file newer.first new ≡ ys
    log_dropped = kept_one newer.file start new cs holds ∙ sym newer_is

    pub next_dropped : next_of (stored_in newer new) ≡ next_of (stored_in root old)
    next_dropped = omega (
      arith,
      can.start_is,
      ap (λ (l : List (List ℕ)). length (records_in l)) log_dropped,
      length-map ys record_in,
      ap length both_in,
      length-append (records_in xs) (records_in ys),
      length-map xs record_in,
    )

    pub records_dropped : (stored_in root old).records ≡ records_in xs ++ (stored_in newer new).records
    records_dropped = both_in ∙ ap (λ (l : List (List ℕ)). records_in xs ++ records_in l) (sym log_dropped)

    pub sound_dropped : value_of RootBlock new ≡ Some (root_block newer) → IsSound newer new
    sound_dropped is = record {
      says = (is, newer_passes root start sound.says.1 later can.high);
      log = inl (cs, sym newer_is ∙ sym log_dropped, holds);
      fits = subst (EachFits root.pages no_tables) (sym log_dropped) (fits_alone root.pages (tables_behind no_tables xs) ys begun (each_behind root.pages no_tables xs ys (subst (EachFits root.pages no_tables) kept_both sound.fits)));
      begins = record {
        named = subst (λ (l : List ℕ). BeginsOnce (log_in l)) (sym named_now) begun;
        newer = λ there. absurd (cc (there, newer_out start (content (log_file newer.file) new) (content (other_file newer.file) new) dropped));
      };
      continues = subst TablesGoOn (sym log_dropped) (go_on_alone ys begun);
      below = λ q. let low = sound.below q in omega (arith, next_dropped, low, ap (λ (h : PageHeld). h.lsn) (home_old root old new others q));
      numbered = λ q v inside has. sound.numbered q v inside (sym (page_same root old new others q) ∙ has);
      size = subst (λ (bytes : List ℕ). 8256 * root.pages ≤ length bytes) (sym (pages_file root old new others)) sound.size;
    }

    pub state_without : state_of (stored_in newer new) ≡ state_of (stored_in root old)
    state_without =
        let made : ℕ → List Record → Stored = λ n rs. record { counted = root.pages; homes = home_in root.pages new; first = n; records = rs } in
        let first_is : start ≡ root.first + length (records_in xs) = omega (arith, can.start_is, length-map xs record_in) in
        ap (λ (l : List (List ℕ)). state_of (made start (records_in l))) log_dropped
        ∙ ap (λ (n : ℕ). state_of (made n (records_in ys))) first_is
        ∙ state_same (home_in root.pages old) (home_in root.pages new) root.pages (root.first + length (records_in xs)) (records_in ys) (home_old root old new others)
        ∙ without_home ys begun (records_in xs) (stored_in root old) both_in can.home

    pub folds_without : value_of RootBlock new ≡ Some (root_block newer) → FoldsTo new (state_of (stored_in root old))
    folds_without is = record { root = newer; sound = sound_dropped is; state_is = state_without }

-- a crash in the root's writing that drops the older one
pub folds_dropped : (root : Root) (start : ℕ) (old new : Image) → IsSound root old → CanDropOlder root start old → IsOldOrNewValue RootBlock (root_block (newer_root start root)) old new → FoldsTo new (state_of (stored_in root old))
folds_dropped root start old new sound can (others, inl is) = folds_before root old new others sound is
folds_dropped root start old new sound can (others, inr is) = folds_without root start old sound can new others is
