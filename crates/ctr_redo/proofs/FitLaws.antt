-- Records that fit, one behind another.
use Rattle.std.proofs.Common.{◌≡◌, inl, inr, ℕ, zero, suc, ◌+◌, ◌≤◌, Bool, true, false, if◌then◌else◌, List, [], ◌∷◌, ◌++◌, length, take, drop, get_or, Option, Some, None, refl, sym, ◌∙◌, ap, subst, arith, append_assoc}
use Rattle.std.proofs.lemmas.List.{take-append-drop, append_cancel_left}
use Rattle.std.specs.Prelude.{fold}
use Rattle.std.proofs.lemmas.Bool.Decides.{nat_tests}
use Rattle.ctr_pool.specs.ctr_disk.Image.{Image, content, OtherFilesStay}
use Rattle.ctr_meta.specs.ctr_bytes.Fields.{field}
use Rattle.ctr_log.specs.Logs.{Batches, Log, records}
use Rattle.ctr_log.specs.Reading.{log_file}
use Rattle.ctr_log.specs.Kept.{log_in, kept_log, other_file, writer_file, has_newer, IsDropped, HoldsTwo, HoldsLog, WritesBy}
use Rattle.ctr_log.proofs.KeptLaws.{log_in_is, begins}
use Rattle.ctr_pool.specs.rec_Overlay.{Overlay}
use Rattle.ctr_meta.specs.rec_Read.{record_in}
use Rattle.ctr_meta.specs.Tables.{Tables, no_tables}
use Rattle.ctr_meta.specs.Effects.{effect}
use Rattle.ctr_pool.specs.Pages.{PageHeld}
use Rattle.ctr_redo.specs.Overlaid.{overlay_of, lies_on, overlaid}
use Rattle.ctr_redo.specs.Images.{records_in}
use Rattle.ctr_redo.specs.Fitting.{LiesInside, EachFits, HaveNoCheckpoint, CheckpointsKeep, TablesGoOn, BeginsOnce, FilesBegin, last_file}
use Rattle.ctr_redo.proofs.PageLaws.{stays_out}

-- the tables that records leave, behind these
abbrev pub tables_behind : Tables → List (List ℕ) → Tables
tables_behind t [] = t
tables_behind t (b ∷ bs) = tables_behind (effect (record_in b) t) bs

-- from the start they are those of the records
pub tables_behind_is : (t : Tables) (bs : List (List ℕ)) → tables_behind t bs ≡ fold (λ (u : Tables) r. effect r u) t (records_in bs)
tables_behind_is t [] = refl
tables_behind_is t (b ∷ bs) = tables_behind_is (effect (record_in b) t) bs

pub each_append : (counted : ℕ) (t : Tables) (xs ys : List (List ℕ)) → EachFits counted t xs → EachFits counted (tables_behind t xs) ys → EachFits counted t (xs ++ ys)
each_append counted t [] ys here behind = behind
each_append counted t (x ∷ xs) ys here behind = (here.0, each_append counted (effect (record_in x) t) xs ys here.1 behind)

pub each_front : (counted : ℕ) (t : Tables) (xs ys : List (List ℕ)) → EachFits counted t (xs ++ ys) → EachFits counted t xs
each_front counted t [] ys all = tt
each_front counted t (x ∷ xs) ys all = (all.0, each_front counted (effect (record_in x) t) xs ys all.1)

-- what fits behind others fits behind the tables that they leave
pub each_behind : (counted : ℕ) (t : Tables) (xs ys : List (List ℕ)) → EachFits counted t (xs ++ ys) → EachFits counted (tables_behind t xs) ys
each_behind counted t [] ys all = all
each_behind counted t (x ∷ xs) ys all = each_behind counted (effect (record_in x) t) xs ys all.1

-- with a prefix of what fits
pub each_prefix : (counted n : ℕ) (t : Tables) (xs ys : List (List ℕ)) → EachFits counted t (xs ++ ys) → EachFits counted t (xs ++ take n ys)
each_prefix counted n t xs ys all =
    each_front counted t (xs ++ take n ys) (drop n ys)
    (subst (EachFits counted t) (ap (λ (l : List (List ℕ)). xs ++ l) (sym (take-append-drop n ys)) ∙ sym (append_assoc xs (take n ys) (drop n ys))) all)

inside_more : (n m : ℕ) (o : Option Overlay) → n ≤ m → LiesInside n o → LiesInside m o
inside_more n m None more inside = tt
inside_more n m (Some o) more inside = omega (arith, inside, more)

-- where more pages are counted they fit still
pub each_more : (n m : ℕ) (t : Tables) (bs : List (List ℕ)) → n ≤ m → EachFits n t bs → EachFits m t bs
each_more n m t [] more all = tt
each_more n m t (b ∷ bs) more all = (
  record { logged = all.0.logged; bytes_are = all.0.bytes_are; inside = inside_more n m (overlay_of (record_in b)) more all.0.inside; needed = all.0.needed },
  each_more n m (effect (record_in b) t) bs more all.1,
)

pub none_prefix : (n : ℕ) (bs : List (List ℕ)) → HaveNoCheckpoint bs → HaveNoCheckpoint (take n bs)
none_prefix zero bs none = tt
none_prefix (suc n) [] none = tt
none_prefix (suc n) (b ∷ bs) none = (none.0, none_prefix n bs none.1)

pub none_append : (xs ys : List (List ℕ)) → HaveNoCheckpoint xs → HaveNoCheckpoint ys → HaveNoCheckpoint (xs ++ ys)
none_append [] ys here behind = behind
none_append (x ∷ xs) ys here behind = (here.0, none_append xs ys here.1 behind)

-- records of which none is a Checkpoint keep all that are
keep_none : (t : Tables) (ys : List (List ℕ)) → HaveNoCheckpoint ys → CheckpointsKeep t ys
keep_none t [] none = tt
keep_none t (y ∷ ys) none = (λ is. absurd (none.0 is), keep_none (effect (record_in y) t) ys none.1)

keep_append : (t : Tables) (xs ys : List (List ℕ)) → CheckpointsKeep t xs → HaveNoCheckpoint ys → CheckpointsKeep t (xs ++ ys)
keep_append t [] ys keep none = keep_none t ys none
keep_append t (x ∷ xs) ys keep none = (keep.0, keep_append (effect (record_in x) t) xs ys keep.1 none)

keep_push : (t : Tables) (xs : List (List ℕ)) (b : List ℕ) → CheckpointsKeep t xs → effect (record_in b) (tables_behind t xs) ≡ tables_behind t xs → CheckpointsKeep t (xs ++ b ∷ [])
keep_push t [] b keep same = (λ is. same, tt)
keep_push t (x ∷ xs) b keep same = (keep.0, keep_push (effect (record_in x) t) xs b keep.1 same)

-- one that leaves the tables as they are may be a Checkpoint
pub go_on_push : (xs : List (List ℕ)) (b : List ℕ) → TablesGoOn xs → effect (record_in b) (tables_behind no_tables xs) ≡ tables_behind no_tables xs → TablesGoOn (xs ++ b ∷ [])
go_on_push [] b go same = tt
go_on_push (x ∷ xs) b go same = keep_push (effect (record_in x) no_tables) xs b go same

pub go_on_append : (xs ys : List (List ℕ)) → TablesGoOn xs → HaveNoCheckpoint ys → TablesGoOn (xs ++ ys)
go_on_append [] [] go none = tt
go_on_append [] (y ∷ ys) go none = keep_none (effect (record_in y) no_tables) ys none.1
go_on_append (x ∷ xs) ys go none = keep_append (effect (record_in x) no_tables) xs ys go none

pub begins_append : (xs ys : List (List ℕ)) → BeginsOnce xs → HaveNoCheckpoint ys → BeginsOnce (xs ++ ys)
begins_append [] ys here behind = absurd here
begins_append (x ∷ xs) ys here behind = (here.0, none_append xs ys here.1 behind)

-- ---- a page that isn't counted has none of them

off_page : (counted p : ℕ) (o : Option Overlay) → counted ≤ p → LiesInside counted o → lies_on o p ≡ true → ⊥
off_page counted p None beyond inside on = absurd (cc on)
off_page counted p (Some o) beyond inside on = let same : o.page ≡ p = grind (arith, nat_tests, on) in omega (arith, beyond, inside, same)

pub stays_blank : (counted p lsn : ℕ) (t : Tables) (bs : List (List ℕ)) (h : PageHeld) → counted ≤ p → EachFits counted t bs → overlaid p lsn (records_in bs) h ≡ h
stays_blank counted p lsn t [] h beyond all = refl
stays_blank counted p lsn t (b ∷ bs) h beyond all =
    ap (overlaid p (lsn + 1) (records_in bs)) (stays_out p lsn (record_in b) h (λ on. absurd (off_page counted p (overlay_of (record_in b)) beyond all.0.inside on)))
    ∙ stays_blank counted p (lsn + 1) (effect (record_in b) t) bs h beyond all.1

-- ---- which files are kept

newer_in : (first next : ℕ) (named other : List ℕ) → first + length (log_in named) ≡ next → get_or other 0 0 ≡ 1 → field 8 9 other ≡ next → has_newer first named other ≡ true
newer_in first next named other is open_ number = grind (arith, nat_tests)

pub newer_out : (first : ℕ) (named other : List ℕ) → IsDropped first other → has_newer first named other ≡ false
newer_out first named other (inl shut) = grind (arith, nat_tests)
newer_out first named other (inr below) = grind (arith, nat_tests)

pub choose_no : {A : Type 0} (b : Bool) (x y : A) → b ≡ false → (if b then x else y) ≡ y
choose_no true x y is = absurd (cc is)
choose_no false x y is = refl

pub choose_yes : {A : Type 0} (b : Bool) (x y : A) → b ≡ true → (if b then x else y) ≡ x
choose_yes true x y is = refl
choose_yes false x y is = absurd (cc is)

pub other_kept : (n : ℕ) (old new : Image) → OtherFilesStay (log_file n) old new → content (other_file n) new ≡ content (other_file n) old
other_kept zero old new same = ap (λ (i : Image). i.log_b) same
other_kept (suc n) old new same = ap (λ (i : Image). i.log_a) same

pub named_kept : (n : ℕ) (old new : Image) → OtherFilesStay (other_file n) old new → content (log_file n) new ≡ content (log_file n) old
named_kept zero old new same = ap (λ (i : Image). i.log_a) same
named_kept (suc n) old new same = ap (λ (i : Image). i.log_b) same

module _ (file first : ℕ) (image : Image) where
  abbrev named : List ℕ
  named = content (log_file file) image

  abbrev other : List ℕ
  other = content (other_file file) image

  pub two_newer : (bs cs : Batches) → (two : HoldsTwo file first bs cs image) → has_newer first named other ≡ true
  two_newer bs cs two =
      let low = two.low in
      let older = log_in_is first bs named two.named.batches_are two.short (omega (arith, low)) in
      let head = begins (first + length (records bs)) cs other two.newer two.newer_short (omega (arith, low)) in
      newer_in first (first + length (records bs)) named other (omega (arith, ap length older)) head.0 head.1

  -- what isn't newer was dropped
  dropped_of : (rs : List (List ℕ)) → HoldsLog file first rs image → has_newer first named other ≡ false → IsDropped first other
  dropped_of rs (inl one) none = one.2.dropped
  dropped_of rs (inr two) none = absurd (cc (two_newer two.0 two.1 two.3, none))

  -- the writer's file is the log's last one
  pub last_written : (older : Bool) (log : Log) → WritesBy older file first log image → log.file ≡ last_file file first image
  last_written false log w = w.file_is ∙ ap (λ (b : Bool). writer_file b file) (sym (newer_out first named other w.holds.dropped))
  last_written true log w = w.file_is ∙ ap (λ (b : Bool). writer_file b file) (sym (two_newer w.bs w.cs w.holds))

-- ---- a flush

module _ (file first : ℕ) (more : List (List ℕ)) (old new : Image) (held : HoldsLog file first (kept_log file first old) old) (log_is : kept_log file first new ≡ kept_log file first old ++ more) (changes : HaveNoCheckpoint more) (begun : FilesBegin file first old) where
  abbrev was_named : List ℕ
  was_named = content (log_file file) old

  abbrev was_other : List ℕ
  was_other = content (other_file file) old

  abbrev is_named : List ℕ
  is_named = content (log_file file) new

  abbrev is_other : List ℕ
  is_other = content (other_file file) new

  to_named : has_newer first was_named was_other ≡ false → is_other ≡ was_other → FilesBegin file first new
  to_named none same =
      let none_new = newer_out first is_named is_other (subst (IsDropped first) (sym same) (dropped_of file first old (kept_log file first old) held none)) in
      let now : kept_log file first new ≡ log_in is_named = choose_no (has_newer first is_named is_other) (log_in is_named ++ log_in is_other) (log_in is_named) none_new in
      let before : kept_log file first old ≡ log_in was_named = choose_no (has_newer first was_named was_other) (log_in was_named ++ log_in was_other) (log_in was_named) none in
      let grown : log_in was_named ++ more ≡ log_in is_named = ap (λ (l : List (List ℕ)). l ++ more) (sym before) ∙ sym log_is ∙ now in record {
        named = subst BeginsOnce grown (begins_append (log_in was_named) more begun.named changes);
        newer = λ is. absurd (cc (is, none_new));
      }

  to_other : has_newer first was_named was_other ≡ true → is_named ≡ was_named → FilesBegin file first new
  to_other some same = record {
    named = subst (λ (l : List ℕ). BeginsOnce (log_in l)) (sym same) begun.named;
    newer = λ is.
        let now : kept_log file first new ≡ log_in is_named ++ log_in is_other = choose_yes (has_newer first is_named is_other) (log_in is_named ++ log_in is_other) (log_in is_named) is in
        let before : kept_log file first old ≡ log_in was_named ++ log_in was_other = choose_yes (has_newer first was_named was_other) (log_in was_named ++ log_in was_other) (log_in was_named) some in
        let grown : log_in was_named ++ (log_in was_other ++ more) ≡ log_in was_named ++ log_in is_other =
        sym (append_assoc (log_in was_named) (log_in was_other) more) ∙ ap (λ (l : List (List ℕ)). l ++ more) (sym before) ∙ sym log_is ∙ now ∙ ap (λ (l : List ℕ). log_in l ++ log_in is_other) same in
        subst BeginsOnce (append_cancel_left (log_in was_named) (log_in was_other ++ more) (log_in is_other) grown) (begins_append (log_in was_other) more (begun.newer some) changes);
  }

  by_newer : (b : Bool) → has_newer first was_named was_other ≡ b → OtherFilesStay (writer_file b file) old new → FilesBegin file first new
  by_newer false is others = to_named is (other_kept file old new others)
  by_newer true is others = to_other is (named_kept file old new others)

  pub begin_flushed : OtherFilesStay (last_file file first old) old new → FilesBegin file first new
  begin_flushed others = by_newer (has_newer first was_named was_other) refl others
