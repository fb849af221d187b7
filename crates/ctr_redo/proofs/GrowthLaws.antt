-- More pages are counted, which were blank: the state is the same but for their number.
use Rattle.std.proofs.Common.{◌≡◌, ◌⊎◌, inl, inr, ⊎_elim, ℕ, ◌+◌, ◌<◌, ◌≤◌, ◌*◌, Bool, if◌then◌else◌, List, ◌++◌, length, Option, Some, None, refl, sym, ◌∙◌, ap, subst, arith}
use Rattle.std.proofs.lemmas.List.{map-append}
use Rattle.std.proofs.lemmas.Bool.{lt-ltb, le-ltb, cases_lt}
use Rattle.ctr_log.specs.types_File.TheVariants.{Pages}
use Rattle.ctr_log.specs.home_Root.{Root}
use Rattle.ctr_pool.specs.ctr_disk.Image.{Image, content}
use Rattle.ctr_log.specs.home_Block.TheVariants.{Page, Root as RootBlock}
use Rattle.ctr_log.specs.home_Blocks.{BlockValue, value_of, zero_bytes, page_with, blank_page}
use Rattle.ctr_log.specs.home_Roots.{SaysRoot, root_block}
use Rattle.ctr_log.specs.home_Writing.{OthersStay, IsOldOrNewValue}
use Rattle.ctr_log.specs.Kept.{kept_log, HoldsLog}
use Rattle.ctr_meta.specs.Effects.{tables_of}
use Rattle.ctr_meta.specs.rec_Record.{Record}
use Rattle.ctr_meta.specs.rec_Read.{record_in}
use Rattle.ctr_pool.specs.Pages.{PageHeld}
use Rattle.ctr_redo.specs.Overlaid.{overlaid}
use Rattle.ctr_meta.specs.Tables.{no_tables}
use Rattle.ctr_redo.specs.Fitting.{EachFits, FilesBegin, TablesGoOn}
use Rattle.ctr_redo.specs.States.{page_limit, state_of, with_more, page_at, next_of, LieBelow}
use Rattle.ctr_redo.specs.Images.{records_in, home_in, stored_in, IsSound, FoldsTo, CanCount}
use Rattle.ctr_redo.proofs.StateLaws.{pages_same, page_is}
use Rattle.ctr_redo.proofs.FitLaws.{each_more, stays_blank}
use Rattle.ctr_redo.proofs.ImageLaws.{KeepsLogs, root_apart, kept_same, holds_same, begins_same}

pub counted_page : (counted p : ℕ) (image : Image) (v : Option BlockValue) → p < counted → value_of (Page p) image ≡ v → home_in counted image p ≡ record { lsn = (page_with v).lsn; body = (page_with v).bytes }
counted_page counted p image v inside is =
    ap (λ (b : Bool). record { lsn = (if b then page_with (value_of (Page p) image) else blank_page).lsn; body = (if b then page_with (value_of (Page p) image) else blank_page).bytes }) (lt-ltb p counted inside)
    ∙ ap (λ (o : Option BlockValue). record { lsn = (page_with o).lsn; body = (page_with o).bytes }) is

pub blank_home : (counted p : ℕ) (image : Image) → counted ≤ p → home_in counted image p ≡ record { lsn = blank_page.lsn; body = blank_page.bytes }
blank_home counted p image outside =
    ap (λ (b : Bool). record { lsn = (if b then page_with (value_of (Page p) image) else blank_page).lsn; body = (if b then page_with (value_of (Page p) image) else blank_page).bytes }) (le-ltb p counted outside)

-- a page that isn't counted, with records that fit
pub page_blank : (root : Root) (waiting : List (List ℕ)) (image : Image) (p : ℕ) → EachFits root.pages no_tables (kept_log root.file root.first image ++ waiting) → root.pages ≤ p → p < page_limit
    → page_at p (state_of (with_more (records_in waiting) (stored_in root image))).pages ≡ zero_bytes 4096
page_blank root waiting image p fits beyond inside =
    let kept = kept_log root.file root.first image in
    let home = home_in root.pages image p in
    page_is p (with_more (records_in waiting) (stored_in root image)) inside
    ∙ ap (λ (rs : List Record). (overlaid p root.first rs home).body) (sym (map-append record_in kept waiting))
    ∙ ap (λ (h : PageHeld). h.body) (stays_blank root.pages p root.first no_tables (kept ++ waiting) home beyond fits)
    ∙ ap (λ (h : PageHeld). h.body) (blank_home root.pages p image beyond)

-- the pages at home, where more are counted, which were blank
module _ (counted more : ℕ) (old new : Image) (grows : counted ≤ more) (blank : (p : ℕ) → counted ≤ p → p < more → value_of (Page p) old ≡ None) (others : OthersStay RootBlock old new) where
  value_kept : (q : ℕ) → value_of (Page q) new ≡ value_of (Page q) old
  value_kept q = others.blocks (Page q) (λ is. absurd (cc is))

  pub home_counted : (q : ℕ) → home_in more new q ≡ home_in counted old q
  home_counted q =
      ⊎_elim (λ inside. counted_page more q new (value_of (Page q) old) (omega (arith, inside, grows)) (value_kept q) ∙ sym (counted_page counted q old (value_of (Page q) old) inside refl))
      (λ outside.
      ⊎_elim (λ between. counted_page more q new None between (value_kept q ∙ blank q outside between) ∙ sym (blank_home counted q old outside))
      (λ beyond. blank_home more q new beyond ∙ sym (blank_home counted q old outside))
      (cases_lt q more))
      (cases_lt q counted)

-- the root is written: the pages and the log stay
module _ (root : Root) (old new : Image) (others : OthersStay RootBlock old new) where
  pub page_same : (q : ℕ) → value_of (Page q) new ≡ value_of (Page q) old
  page_same q = others.blocks (Page q) (λ is. absurd (cc is))

  logs : KeepsLogs old new
  logs = root_apart old new others.files

  pub pages_file : content Pages new ≡ content Pages old
  pages_file = ap (λ (i : Image). i.pages) others.files

  -- each page at home is as it was
  pub home_old : (q : ℕ) → home_in root.pages new q ≡ home_in root.pages old q
  home_old q =
      ⊎_elim (λ inside. counted_page root.pages q new (value_of (Page q) old) inside (page_same q) ∙ sym (counted_page root.pages q old (value_of (Page q) old) inside refl))
      (λ outside. blank_home root.pages q new outside ∙ sym (blank_home root.pages q old outside))
      (cases_lt q root.pages)

  next_old : next_of (stored_in root new) ≡ next_of (stored_in root old)
  next_old = ap (λ (l : List (List ℕ)). root.first + length (records_in l)) (kept_same root.file root.first old new logs)

  state_old : state_of (stored_in root new) ≡ state_of (stored_in root old)
  state_old =
      let rs = records_in (kept_log root.file root.first old) in
      ap (λ (l : List (List ℕ)). state_of (record { counted = root.pages; homes = home_in root.pages new; first = root.first; records = records_in l })) (kept_same root.file root.first old new logs)
      ∙ ap (λ (ps : List (List ℕ)). record { counted = root.pages; pages = ps; tables = tables_of rs }) (pages_same (home_in root.pages new) (home_in root.pages old) root.first root.first rs rs (λ q. ap (overlaid q root.first rs) (home_old q)) 0 page_limit)

  -- and the root's old value leaves what was
  pub folds_before : IsSound root old → value_of RootBlock new ≡ value_of RootBlock old → FoldsTo new (state_of (stored_in root old))
  folds_before sound is = record {
    root = root;
    sound = record {
      says = subst (λ (o : Option BlockValue). SaysRoot o root) (sym is) sound.says;
      log = subst (λ (l : List (List ℕ)). HoldsLog root.file root.first l new) (sym (kept_same root.file root.first old new logs)) (holds_same root.file root.first (kept_log root.file root.first old) old new logs sound.log);
      fits = subst (EachFits root.pages no_tables) (sym (kept_same root.file root.first old new logs)) sound.fits;
      begins = begins_same root.file root.first old new logs sound.begins;
      continues = subst TablesGoOn (sym (kept_same root.file root.first old new logs)) sound.continues;
      below = λ q. let low = sound.below q in omega (arith, next_old, low, ap (λ (h : PageHeld). h.lsn) (home_old q));
      numbered = λ q v inside has. sound.numbered q v inside (sym (page_same q) ∙ has);
      size = subst (λ (bytes : List ℕ). 8256 * root.pages ≤ length bytes) (sym pages_file) sound.size;
    };
    state_is = state_old;
  }

module _ (root more : Root) (old new : Image) (sound : IsSound root old) (can : CanCount root more old) (others : OthersStay RootBlock old new) where
  logs_new : KeepsLogs old new
  logs_new = root_apart old new others.files

  home_new : (q : ℕ) → home_in more.pages new q ≡ home_in root.pages old q
  home_new q = home_counted root.pages more.pages old new can.grows can.blank others q

  pub log_new : kept_log more.file more.first new ≡ kept_log root.file root.first old
  log_new = ap (λ (n : ℕ). kept_log n more.first new) can.file ∙ ap (λ (n : ℕ). kept_log root.file n new) can.first ∙ kept_same root.file root.first old new logs_new

  pub next_new : next_of (stored_in more new) ≡ next_of (stored_in root old)
  next_new = ap (λ (l : List (List ℕ)). more.first + length (records_in l)) log_new ∙ ap (λ (n : ℕ). n + length (records_in (kept_log root.file root.first old))) can.first

  below : (n : ℕ) (homes : ℕ → PageHeld) → n ≡ next_of (stored_in root old) → ((q : ℕ) → homes q ≡ home_in root.pages old q) → LieBelow n homes
  below n homes is each q = let low = sound.below q in omega (arith, is, low, ap (λ (h : PageHeld). h.lsn) (each q))

  pub state_new : state_of (stored_in more new) ≡ record (state_of (stored_in root old)) { counted = more.pages }
  state_new =
      let rs = records_in (kept_log root.file root.first old) in
      ap (λ (n : ℕ). state_of (record { counted = more.pages; homes = home_in more.pages new; first = n; records = records_in (kept_log more.file more.first new) })) can.first
      ∙ ap (λ (l : List (List ℕ)). state_of (record { counted = more.pages; homes = home_in more.pages new; first = root.first; records = records_in l })) log_new
      ∙ ap (λ (ps : List (List ℕ)). record { counted = more.pages; pages = ps; tables = tables_of rs }) (pages_same (home_in more.pages new) (home_in root.pages old) root.first root.first rs rs (λ q. ap (overlaid q root.first rs) (home_new q)) 0 page_limit)

  pub sound_behind : value_of RootBlock new ≡ Some (root_block more) → IsSound more new
  sound_behind is = record {
    says = (is, can.is_root);
    log =
        let held = holds_same root.file root.first (kept_log root.file root.first old) old new logs_new sound.log in
        subst (λ (l : List (List ℕ)). HoldsLog more.file more.first l new) (sym log_new)
        (subst (λ (n : ℕ). HoldsLog n more.first (kept_log root.file root.first old) new) (sym can.file) (subst (λ (n : ℕ). HoldsLog root.file n (kept_log root.file root.first old) new) (sym can.first) held));
    fits = subst (EachFits more.pages no_tables) (sym log_new) (each_more root.pages more.pages no_tables (kept_log root.file root.first old) can.grows sound.fits);
    begins =
        subst (λ (n : ℕ). FilesBegin n more.first new) (sym can.file)
        (subst (λ (n : ℕ). FilesBegin root.file n new) (sym can.first) (begins_same root.file root.first old new logs_new sound.begins));
    continues = subst TablesGoOn (sym log_new) sound.continues;
    below = below (next_of (stored_in more new)) (home_in more.pages new) next_new home_new;
    numbered = λ q v inside has.
        ⊎_elim (λ before. sound.numbered q v before (sym (page_same root old new others q) ∙ has))
        (λ outside. let none : None ≡ Some v = sym (can.blank q outside inside) ∙ sym (page_same root old new others q) ∙ has in absurd (cc none))
        (cases_lt q root.pages);
    size = subst (λ (bytes : List ℕ). 8256 * more.pages ≤ length bytes) (sym (pages_file root old new others)) can.size;
  }

  pub folds_behind : value_of RootBlock new ≡ Some (root_block more) → FoldsTo new (record (state_of (stored_in root old)) { counted = more.pages })
  folds_behind is = record { root = more; sound = sound_behind is; state_is = state_new }

pub folds_counted : (root more : Root) (old new : Image) → IsSound root old → CanCount root more old → IsOldOrNewValue RootBlock (root_block more) old new
    → FoldsTo new (state_of (stored_in root old)) ⊎ FoldsTo new (record (state_of (stored_in root old)) { counted = more.pages })
folds_counted root more old new sound can (others, inl is) = inl (folds_before root old new others sound is)
folds_counted root more old new sound can (others, inr is) = inr (folds_behind root more old new sound can others is)
