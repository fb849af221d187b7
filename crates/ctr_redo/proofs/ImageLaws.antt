-- What calls of the log and of the homes leave folds to the same state, or to one with more records.
use Rattle.std.proofs.Common.{◌≡◌, ◌≢◌, inl, inr, ⊎_elim, ℕ, zero, suc, ◌+◌, ◌<◌, ◌≤◌, ◌*◌, Bool, true, false, nat_lt, if◌then◌else◌, List, ◌++◌, length, take, Option, Some, sym, ◌∙◌, ap, subst, arith, length-append}
use Rattle.std.proofs.lemmas.List.{map-append, take-map}
use Rattle.std.proofs.lemmas.Bool.{lt-ltb}
use Rattle.std.proofs.lemmas.Bool.Decides.{eqb_tells}
use Rattle.ctr_log.specs.types_File.{File}
use Rattle.ctr_log.specs.types_File.TheVariants.{Root as RootFile, LogA, LogB, Pages}
use Rattle.ctr_log.specs.home_Root.{Root}
use Rattle.ctr_pool.specs.ctr_disk.Image.{Image, content, OtherFilesStay}
use Rattle.ctr_log.specs.home_Block.{Block}
use Rattle.ctr_log.specs.home_Block.TheVariants.{Page, Root as RootBlock}
use Rattle.ctr_log.specs.home_Blocks.{BlockValue, value_of, page_with, blank_page}
use Rattle.ctr_log.specs.home_Roots.{SaysRoot}
use Rattle.ctr_log.specs.home_Writing.{OthersStay, IsOldOrNewValue}
use Rattle.ctr_log.specs.Logs.{HasLog, records}
use Rattle.ctr_log.specs.Reading.{log_file}
use Rattle.ctr_log.specs.Kept.{log_in, kept_in, kept_log, other_file, writer_file, has_newer, IsDropped, HoldsLog, KeepsPrefix}
use Rattle.ctr_log.proofs.KeptLaws.{holds_is}
use Rattle.ctr_meta.specs.rec_Record.{Record}
use Rattle.ctr_meta.specs.rec_Read.{record_in}
use Rattle.ctr_pool.specs.Pages.{PageHeld}
use Rattle.ctr_meta.specs.Tables.{no_tables}
use Rattle.ctr_redo.specs.Fitting.{EachFits, BeginsOnce, FilesBegin, last_file, MayFollow, TablesGoOn, HaveNoCheckpoint}
use Rattle.ctr_redo.specs.States.{Stored, state_of, steps, with_more, home_put, next_of, LieBelow}
use Rattle.ctr_redo.specs.Images.{records_in, home_in, stored_in, IsSound, FoldsTo, FoldsFront, IsLogFile, held_by, MayStand}
use Rattle.ctr_redo.proofs.FitLaws.{each_prefix, none_prefix, begin_flushed, go_on_append}
use Rattle.ctr_redo.proofs.StateLaws.{state_more, state_same, state_swapped_now, below_more, put_there, put_elsewhere}

-- ---- one file changes

-- what no change of the log's files touches
pub record KeepsHomes (old new : Image) : Type 0 where
  pub root : content RootFile new ≡ content RootFile old
  pub pages : content Pages new ≡ content Pages old

pub logs_apart : (f : File) (old new : Image) → IsLogFile f → OtherFilesStay f old new → KeepsHomes old new
logs_apart RootFile old new is same = absurd is
logs_apart LogA old new is same = record { root = ap (λ (i : Image). i.root) same; pages = ap (λ (i : Image). i.pages) same }
logs_apart LogB old new is same = record { root = ap (λ (i : Image). i.root) same; pages = ap (λ (i : Image). i.pages) same }
logs_apart Pages old new is same = absurd is

-- what no change of another file touches
pub record KeepsLogs (old new : Image) : Type 0 where
  pub log_a : content LogA new ≡ content LogA old
  pub log_b : content LogB new ≡ content LogB old

pub pages_apart : (old new : Image) → OtherFilesStay Pages old new → KeepsLogs old new
pages_apart old new same = record { log_a = ap (λ (i : Image). i.log_a) same; log_b = ap (λ (i : Image). i.log_b) same }

pub root_apart : (old new : Image) → OtherFilesStay RootFile old new → KeepsLogs old new
root_apart old new same = record { log_a = ap (λ (i : Image). i.log_a) same; log_b = ap (λ (i : Image). i.log_b) same }

pub named_same : (n : ℕ) (old new : Image) → KeepsLogs old new → content (log_file n) new ≡ content (log_file n) old
named_same zero old new same = same.log_a
named_same (suc n) old new same = same.log_b

pub other_same : (n : ℕ) (old new : Image) → KeepsLogs old new → content (other_file n) new ≡ content (other_file n) old
other_same zero old new same = same.log_b
other_same (suc n) old new same = same.log_a

pub kept_same : (file first : ℕ) (old new : Image) → KeepsLogs old new → kept_log file first new ≡ kept_log file first old
kept_same file first old new same =
    ap (λ (l : List ℕ). kept_in first l (content (other_file file) new)) (named_same file old new same) ∙ ap (kept_in first (content (log_file file) old)) (other_same file old new same)

pub holds_same : (file first : ℕ) (rs : List (List ℕ)) (old new : Image) → KeepsLogs old new → HoldsLog file first rs old → HoldsLog file first rs new
holds_same file first rs old new same (inl (bs, are, h)) = inl (
  bs,
  are,
  record {
    named = subst (HasLog first bs) (sym (named_same file old new same)) h.named;
    short = h.short;
    low = h.low;
    dropped = subst (IsDropped first) (sym (other_same file old new same)) h.dropped;
  },
)
holds_same file first rs old new same (inr (bs, cs, are, h)) = inr (
  bs,
  cs,
  are,
  record {
    named = subst (HasLog first bs) (sym (named_same file old new same)) h.named;
    short = h.short;
    newer = subst (HasLog (first + length (records bs)) cs) (sym (other_same file old new same)) h.newer;
    newer_short = h.newer_short;
    low = h.low;
  },
)

pub begins_same : (file first : ℕ) (old new : Image) → KeepsLogs old new → FilesBegin file first old → FilesBegin file first new
begins_same file first old new same begun = record {
  named = subst (λ (l : List ℕ). BeginsOnce (log_in l)) (sym (named_same file old new same)) begun.named;
  newer = λ is.
      subst (λ (l : List ℕ). BeginsOnce (log_in l)) (sym (other_same file old new same))
      (begun.newer (sym (ap (λ (l : List ℕ). has_newer first l (content (other_file file) new)) (named_same file old new same) ∙ ap (has_newer first (content (log_file file) old)) (other_same file old new same)) ∙ is));
}

-- what may follow the log may still, where that is as it was
pub follows_same : (root : Root) (f : File) (more : List (List ℕ)) (old new : Image) → KeepsLogs old new → MayFollow root f more old → MayFollow root f more new
follows_same root f more old new same may = record {
  file_is = may.file_is
      ∙ ap (λ (l : List ℕ). writer_file (has_newer root.first l (content (other_file root.file) old)) root.file) (sym (named_same root.file old new same))
      ∙ ap (λ (l : List ℕ). writer_file (has_newer root.first (content (log_file root.file) new) l) root.file) (sym (other_same root.file old new same));
  fits = subst (λ (l : List (List ℕ)). EachFits root.pages no_tables (l ++ more)) (sym (kept_same root.file root.first old new same)) may.fits;
  changes = may.changes;
}

-- ---- a flush

pub last_is_log : (newer : Bool) (file : ℕ) → IsLogFile (writer_file newer file)
last_is_log false zero = tt
last_is_log false (suc n) = tt
last_is_log true zero = tt
last_is_log true (suc n) = tt

-- the log with more records behind it, and the homes as they were
pub more_stored : (root : Root) (more : List (List ℕ)) (old new : Image) → KeepsHomes old new → kept_log root.file root.first new ≡ kept_log root.file root.first old ++ more
    → stored_in root new ≡ with_more (records_in more) (stored_in root old)
more_stored root more old new same log =
    let made : (ℕ → PageHeld) → List Record → Stored = λ homes rs. record { counted = root.pages; homes = homes; first = root.first; records = rs } in
    let homes : home_in root.pages new ≡ home_in root.pages old = homes_same root.pages old new same.pages in
    ap (λ (h : ℕ → PageHeld). made h (records_in (kept_log root.file root.first new))) homes
    ∙ ap (λ (l : List (List ℕ)). made (home_in root.pages old) (records_in l)) log
    ∙ ap (made (home_in root.pages old)) (map-append record_in (kept_log root.file root.first old) more)
  where
    homes_same : (counted : ℕ) (old new : Image) → content Pages new ≡ content Pages old → home_in counted new ≡ home_in counted old
    homes_same counted old new same = ap (λ (bytes : List ℕ). home_in counted (record old { pages = bytes })) same

-- it is sound with them, where they fit and the tables go on over each Checkpoint
pub sound_more : (root : Root) (more : List (List ℕ)) (old new : Image) → IsSound root old → KeepsHomes old new → HoldsLog root.file root.first (kept_log root.file root.first old ++ more) new
    → EachFits root.pages no_tables (kept_log root.file root.first old ++ more) → FilesBegin root.file root.first new → TablesGoOn (kept_log root.file root.first old ++ more) → IsSound root new
sound_more root more old new sound same holds fits begun goes_on =
    let log : kept_log root.file root.first new ≡ kept_log root.file root.first old ++ more = holds_is root.file root.first new (kept_log root.file root.first old ++ more) holds in
    let stored = more_stored root more old new same log in
    let later : next_of (stored_in root old) ≤ next_of (stored_in root new) = omega (arith, ap (λ (s : Stored). next_of s) stored, length-append (stored_in root old).records (records_in more)) in
    record {
      says = subst (λ (bytes : List ℕ). SaysRoot (value_of RootBlock (record old { root = bytes })) root) (sym same.root) sound.says;
      log = subst (λ (l : List (List ℕ)). HoldsLog root.file root.first l new) (sym log) holds;
      fits = subst (EachFits root.pages no_tables) (sym log) fits;
      begins = begun;
      continues = subst TablesGoOn (sym log) goes_on;
      below = subst (λ (h : ℕ → PageHeld). LieBelow (next_of (stored_in root new)) h) (sym (ap (λ (s : Stored). s.homes) stored)) (below_more (next_of (stored_in root old)) (next_of (stored_in root new)) (home_in root.pages old) later sound.below);
      numbered = λ p v inside is. sound.numbered p v inside (sym (ap (λ (bytes : List ℕ). value_of (Page p) (record old { pages = bytes })) same.pages) ∙ is);
      size = subst (λ (bytes : List ℕ). 8256 * root.pages ≤ length bytes) (sym same.pages) sound.size;
    }

pub sound_flushed : (root : Root) (more : List (List ℕ)) (old new : Image) → IsSound root old → KeepsHomes old new → HoldsLog root.file root.first (kept_log root.file root.first old ++ more) new
    → EachFits root.pages no_tables (kept_log root.file root.first old ++ more) → FilesBegin root.file root.first new → HaveNoCheckpoint more → IsSound root new
sound_flushed root more old new sound same holds fits begun none = sound_more root more old new sound same holds fits begun (go_on_append (kept_log root.file root.first old) more sound.continues none)

pub state_flushed : (root : Root) (more : List (List ℕ)) (old new : Image) → IsSound root old → KeepsHomes old new → kept_log root.file root.first new ≡ kept_log root.file root.first old ++ more
    → state_of (stored_in root new) ≡ steps (records_in more) (state_of (stored_in root old))
state_flushed root more old new sound same log = ap state_of (more_stored root more old new same log) ∙ state_more (records_in more) (stored_in root old) sound.below

-- a crash in a flush
pub folds_flushed : (root : Root) (f : File) (more : List (List ℕ)) (old new : Image) → IsSound root old → MayFollow root f more old → KeepsPrefix f root.file root.first more old new
    → FoldsFront (state_of (stored_in root old)) (records_in more) new
folds_flushed root f more old new sound follows keeps =
    let others = subst (λ (x : File). OtherFilesStay x old new) follows.file_is keeps.others in
    let newer = has_newer root.first (content (log_file root.file) old) (content (other_file root.file) old) in
    let same = logs_apart (last_file root.file root.first old) old new (last_is_log newer root.file) others in
    let front = take keeps.count more in
    let log = holds_is root.file root.first new (kept_log root.file root.first old ++ front) keeps.holds in
    let fits = each_prefix root.pages keeps.count no_tables (kept_log root.file root.first old) more follows.fits in
    let begun = begin_flushed root.file root.first front old new sound.log log (none_prefix keeps.count more follows.changes) sound.begins others in (
      keeps.count,
      record {
        root = root;
        sound = sound_flushed root front old new sound same keeps.holds fits begun (none_prefix keeps.count more follows.changes);
        state_is = state_flushed root front old new sound same log ∙ ap (λ (l : List Record). steps l (state_of (stored_in root old))) (sym (take-map record_in keeps.count more));
      },
    )

-- ---- a page's writing

other_page : (p q : ℕ) → q ≢ p → Page q ≢ Page p
other_page p q other is = other (number_of is)
  where
    number : Block → ℕ
    number (Page n) = n
    number RootBlock = 0

    number_of : Page q ≡ Page p → q ≡ p
    number_of e = ap number e

counted_home : (counted p : ℕ) (image : Image) (v : Option BlockValue) → p < counted → value_of (Page p) image ≡ v → home_in counted image p ≡ record { lsn = (page_with v).lsn; body = (page_with v).bytes }
counted_home counted p image v inside is =
    ap (λ (b : Bool). record { lsn = (if b then page_with (value_of (Page p) image) else blank_page).lsn; body = (if b then page_with (value_of (Page p) image) else blank_page).bytes }) (lt-ltb p counted inside)
    ∙ ap (λ (o : Option BlockValue). record { lsn = (page_with o).lsn; body = (page_with o).bytes }) is

home_as : (counted q : ℕ) (old new : Image) → value_of (Page q) new ≡ value_of (Page q) old → home_in counted new q ≡ home_in counted old q
home_as counted q old new same =
    ap (λ (o : Option BlockValue). record { lsn = (if nat_lt q counted then page_with o else blank_page).lsn; body = (if nat_lt q counted then page_with o else blank_page).bytes }) same

-- the page is this at home now, and the others are as they were
pub home_written : (counted p : ℕ) (v : BlockValue) (old new : Image) → p < counted → OthersStay (Page p) old new → value_of (Page p) new ≡ Some v
    → (q : ℕ) → home_in counted new q ≡ home_put p (held_by v) (home_in counted old) q
home_written counted p v old new inside others is q =
    ⊎_elim
    (λ w. subst (λ (n : ℕ). home_in counted new n ≡ home_put p (held_by v) (home_in counted old) n) (sym w.1) (counted_home counted p new (Some v) inside is ∙ sym (put_there p (held_by v) (home_in counted old))))
    (λ w. home_as counted q old new (others.blocks (Page q) (other_page p q w.1)) ∙ sym (put_elsewhere p q (held_by v) (home_in counted old) w.1))
    (eqb_tells q p)

-- the pages are as they were
pub homes_kept : (counted p : ℕ) (old new : Image) → OthersStay (Page p) old new → value_of (Page p) new ≡ value_of (Page p) old → (q : ℕ) → home_in counted new q ≡ home_in counted old q
homes_kept counted p old new others is q =
    ⊎_elim (λ w. subst (λ (n : ℕ). home_in counted new n ≡ home_in counted old n) (sym w.1) (home_as counted p old new is)) (λ w. home_as counted q old new (others.blocks (Page q) (other_page p q w.1))) (eqb_tells q p)

-- the state of an image whose pages at home are these, and whose log is as it was
pub state_with : (root : Root) (homes : ℕ → PageHeld) (old new : Image) → KeepsLogs old new → ((q : ℕ) → home_in root.pages new q ≡ homes q)
    → state_of (stored_in root new) ≡ state_of (record (stored_in root old) { homes = homes })
state_with root homes old new same each =
    let made : List (List ℕ) → Stored = λ l. record { counted = root.pages; homes = home_in root.pages new; first = root.first; records = records_in l } in
    ap (λ (l : List (List ℕ)). state_of (made l)) (kept_same root.file root.first old new same)
    ∙ state_same homes (home_in root.pages new) root.pages root.first (records_in (kept_log root.file root.first old)) each

-- the same with more records behind the log
pub state_with_more : (root : Root) (more : List Record) (homes : ℕ → PageHeld) (old new : Image) → KeepsLogs old new → ((q : ℕ) → home_in root.pages new q ≡ homes q)
    → state_of (with_more more (stored_in root new)) ≡ state_of (with_more more (record (stored_in root old) { homes = homes }))
state_with_more root more homes old new same each =
    let made : List (List ℕ) → Stored = λ l. record { counted = root.pages; homes = home_in root.pages new; first = root.first; records = records_in l ++ more } in
    ap (λ (l : List (List ℕ)). state_of (made l)) (kept_same root.file root.first old new same)
    ∙ state_same homes (home_in root.pages new) root.pages root.first (records_in (kept_log root.file root.first old) ++ more) each

pub next_same : (root : Root) (old new : Image) → KeepsLogs old new → next_of (stored_in root new) ≡ next_of (stored_in root old)
next_same root old new same = ap (λ (l : List (List ℕ)). root.first + length (records_in l)) (kept_same root.file root.first old new same)

root_stays : (p : ℕ) (old new : Image) → OthersStay (Page p) old new → value_of RootBlock new ≡ value_of RootBlock old
root_stays p old new others = others.blocks RootBlock (λ is. absurd (cc is))

-- an image stays sound where a page has its number at home and no record that the log lacks
pub sound_page : (root : Root) (p : ℕ) (old new : Image) → IsSound root old → OthersStay (Page p) old new → LieBelow (next_of (stored_in root old)) (home_in root.pages new)
    → ((v : BlockValue) → p < root.pages → value_of (Page p) new ≡ Some v → v.number ≡ p) → IsSound root new
sound_page root p old new sound others below numbered =
    let same = pages_apart old new others.files in
    let next = next_same root old new same in record {
      says = subst (λ (o : Option BlockValue). SaysRoot o root) (sym (root_stays p old new others)) sound.says;
      log = subst (λ (l : List (List ℕ)). HoldsLog root.file root.first l new) (sym (kept_same root.file root.first old new same)) (holds_same root.file root.first (kept_log root.file root.first old) old new same sound.log);
      fits = subst (EachFits root.pages no_tables) (sym (kept_same root.file root.first old new same)) sound.fits;
      begins = begins_same root.file root.first old new same sound.begins;
      continues = subst TablesGoOn (sym (kept_same root.file root.first old new same)) sound.continues;
      below = below_more (next_of (stored_in root old)) (next_of (stored_in root new)) (home_in root.pages new) (omega (arith, next)) below;
      numbered = λ q v inside is.
          ⊎_elim
          (λ w. numbered_at q v inside is w.1)
          (λ w. sound.numbered q v inside (sym (others.blocks (Page q) (other_page p q w.1)) ∙ is))
          (eqb_tells q p);
      size = let old_size = sound.size in let longer = others.no_shorter in omega (arith, old_size, longer);
    }
  where
    numbered_at : (q : ℕ) (v : BlockValue) → q < root.pages → value_of (Page q) new ≡ Some v → q ≡ p → v.number ≡ q
    numbered_at q v inside is at =
        subst (λ (n : ℕ). v.number ≡ n) (sym at) (numbered v (subst (λ (n : ℕ). n < root.pages) at inside) (subst (λ (n : ℕ). value_of (Page n) new ≡ Some v) at is))

-- a page that is as it was
pub sound_kept : (root : Root) (p : ℕ) (old new : Image) → IsSound root old → OthersStay (Page p) old new → value_of (Page p) new ≡ value_of (Page p) old → IsSound root new
sound_kept root p old new sound others is =
    sound_page root p old new sound others (λ q. subst (λ (h : PageHeld). h.lsn < next_of (stored_in root old)) (sym (homes_kept root.pages p old new others is q)) (sound.below q))
    (λ v inside has. sound.numbered p v inside (sym is ∙ has))

put_below : (next p : ℕ) (v : PageHeld) (homes : ℕ → PageHeld) → v.lsn < next → LieBelow next homes → LieBelow next (home_put p v homes)
put_below next p v homes low below q =
    ⊎_elim
    (λ w. subst (λ (n : ℕ). (home_put p v homes n).lsn < next) (sym w.1) (subst (λ (h : PageHeld). h.lsn < next) (sym (put_there p v homes)) low))
    (λ w. subst (λ (h : PageHeld). h.lsn < next) (sym (put_elsewhere p q v homes w.1)) (below q))
    (eqb_tells q p)

-- a page that was written
pub sound_written : (root : Root) (p : ℕ) (v : BlockValue) (old new : Image) → IsSound root old → MayStand root old p v → OthersStay (Page p) old new → value_of (Page p) new ≡ Some v → IsSound root new
sound_written root p v old new sound may others is =
    let next = next_of (stored_in root old) in
    sound_page root p old new sound others
    (λ q. subst (λ (h : PageHeld). h.lsn < next) (sym (home_written root.pages p v old new may.counted others is q)) (put_below next p (held_by v) (home_in root.pages old) may.below sound.below q))
    (λ w inside has. subst (λ (x : BlockValue). x.number ≡ p) (one v w (sym is ∙ has)) may.number)
  where
    one : (a b : BlockValue) → Some a ≡ Some b → a ≡ b
    one a b e = cc e

pub state_written : (root : Root) (p : ℕ) (v : BlockValue) (old new : Image) → MayStand root old p v → OthersStay (Page p) old new → value_of (Page p) new ≡ Some v
    → state_of (stored_in root new) ≡ state_of (stored_in root old)
state_written root p v old new may others is =
    state_with root (home_put p (held_by v) (home_in root.pages old)) old new (pages_apart old new others.files) (home_written root.pages p v old new may.counted others is)
    ∙ state_swapped_now p (held_by v) (stored_in root old) may.same

-- a crash in a page's writing
pub folds_written : (root : Root) (p : ℕ) (v : BlockValue) (old new : Image) → IsSound root old → MayStand root old p v → IsOldOrNewValue (Page p) v old new → FoldsTo new (state_of (stored_in root old))
folds_written root p v old new sound may (others, inl is) = record {
  root = root;
  sound = sound_kept root p old new sound others is;
  state_is = state_with root (home_in root.pages old) old new (pages_apart old new others.files) (homes_kept root.pages p old new others is);
}
folds_written root p v old new sound may (others, inr is) = record {
  root = root;
  sound = sound_written root p v old new sound may others is;
  state_is = state_written root p v old new may others is;
}
