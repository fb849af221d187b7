-- A second generation begins: the state is the same, whichever of both a crash finds.
use Rattle.std.proofs.Common.{◌≡◌, inl, inr, ℕ, zero, suc, ◌+◌, ◌<◌, true, List, [], ◌∷◌, ◌++◌, length, take, refl, sym, ◌∙◌, ap, subst, arith}
use Rattle.std.proofs.Math.Seq.{take-nil}
use Rattle.std.proofs.lemmas.List.{append-nil, append_cancel_left}
use Rattle.ctr_log.specs.home_Root.{Root}
use Rattle.ctr_pool.specs.ctr_disk.Image.{Image, content, OtherFilesStay}
use Rattle.ctr_log.specs.Logs.{Batches, records}
use Rattle.ctr_log.specs.Reading.{log_file}
use Rattle.ctr_log.specs.Kept.{log_in, kept_log, other_file, has_newer, HoldsLog, HoldsTwo, KeepsPrefix}
use Rattle.ctr_log.proofs.KeptLaws.{log_in_is, holds_is}
use Rattle.ctr_log.proofs.ForgetLaws.{some_records}
use Rattle.ctr_meta.specs.rec_Record.{Record}
use Rattle.ctr_meta.specs.rec_Read.{record_in}
use Rattle.ctr_meta.specs.Tables.{no_tables}
use Rattle.ctr_meta.specs.Effects.{effect, tables_of}
use Rattle.ctr_redo.specs.Fitting.{EachFits, BeginsOnce, FilesBegin, TablesGoOn}
use Rattle.ctr_redo.specs.States.{state_of, step, steps}
use Rattle.ctr_redo.specs.Images.{records_in, stored_in, IsSound, FoldsTo, IsLogFile, MayBeginSecond}
use Rattle.ctr_redo.proofs.FitLaws.{tables_behind, tables_behind_is, go_on_push, newer_out, choose_no, choose_yes, named_kept}
use Rattle.ctr_redo.proofs.ImageLaws.{KeepsHomes, logs_apart, sound_more, state_flushed}
use Rattle.ctr_redo.proofs.Generations.{is_checkpoint, state_checkpoint}

other_is_log : (n : ℕ) → IsLogFile (other_file n)
other_is_log zero = tt
other_is_log (suc n) = tt

-- a log that is kept in two files has a record in the other one
newer_some : (file first : ℕ) (rs : List (List ℕ)) (image : Image) → HoldsLog file first rs image → has_newer first (content (log_file file) image) (content (other_file file) image) ≡ true
    → 0 < length (log_in (content (other_file file) image))
newer_some file first rs image (inl one) is = absurd (cc (is, newer_out first (content (log_file file) image) (content (other_file file) image) one.2.dropped))
newer_some file first rs image (inr two) is = by two.1 two.3
  where
    by : {bs : Batches} (cs : Batches) → HoldsTwo file first bs cs image → 0 < length (log_in (content (other_file file) image))
    by {bs} cs h =
        let low = h.low in
        let all = log_in_is (first + length (records bs)) cs (content (other_file file) image) h.newer.batches_are h.newer_short low in
        omega (arith, ap length all, some_records cs h.newer.some h.newer.batches_are.each)

-- the first of a record and nothing, where there is one
begun_by : (b : List ℕ) (n : ℕ) (ys : List (List ℕ)) → ys ≡ take n (b ∷ []) → 0 < length ys → BeginsOnce (b ∷ []) → BeginsOnce ys
begun_by b zero ys is some begun = absurd (omega (arith, some, ap length is))
begun_by b (suc n) ys is some begun = subst BeginsOnce (sym (is ∙ ap (λ (l : List (List ℕ)). b ∷ l) (take-nil n))) begun

module _ (root : Root) (b : List ℕ) (old new : Image) (sound : IsSound root old) (may : MayBeginSecond root b old) (others : OtherFilesStay (other_file root.file) old new) where
  abbrev kept : List (List ℕ)
  kept = kept_log root.file root.first old

  same : KeepsHomes old new
  same = logs_apart (other_file root.file) old new (other_is_log root.file) others

  named_is : content (log_file root.file) new ≡ content (log_file root.file) old
  named_is = named_kept root.file old new others

  -- the kept log is the named file's
  alone : kept ≡ log_in (content (log_file root.file) old)
  alone = choose_no (has_newer root.first (content (log_file root.file) old) (content (other_file root.file) old)) (log_in (content (log_file root.file) old) ++ log_in (content (other_file root.file) old)) (log_in (content (log_file root.file) old)) may.one

  -- a front of the one record stands in the other file
  files_begin : (n : ℕ) → HoldsLog root.file root.first (kept ++ take n (b ∷ [])) new → FilesBegin root.file root.first new
  files_begin n holds = record {
    named = subst (λ (l : List ℕ). BeginsOnce (log_in l)) (sym named_is) sound.begins.named;
    newer = λ is.
        let named = log_in (content (log_file root.file) new) in
        let other = log_in (content (other_file root.file) new) in
        let now : kept_log root.file root.first new ≡ named ++ other = choose_yes (has_newer root.first (content (log_file root.file) new) (content (other_file root.file) new)) (named ++ other) named is in
        let both : kept ++ other ≡ kept ++ take n (b ∷ []) =
        ap (λ (l : List (List ℕ)). l ++ other) (alone ∙ ap log_in (sym named_is)) ∙ sym now ∙ holds_is root.file root.first new (kept ++ take n (b ∷ [])) holds in
        begun_by b n other (append_cancel_left kept other (take n (b ∷ [])) both) (newer_some root.file root.first (kept ++ take n (b ∷ [])) new holds is) (may.number, tt);
  }

  -- the tables before the record, by its place
  tables_are : tables_behind no_tables kept ≡ tables_of (records_in kept)
  tables_are = tables_behind_is no_tables kept

  goes_on : (n : ℕ) → TablesGoOn (kept ++ take n (b ∷ []))
  goes_on zero = subst TablesGoOn (sym (append-nil kept)) sound.continues
  goes_on (suc n) =
      let keeps : effect (record_in b) (tables_behind no_tables kept) ≡ tables_behind no_tables kept = ap (effect (record_in b)) tables_are ∙ may.keeps ∙ sym tables_are in
      subst (λ (l : List (List ℕ)). TablesGoOn (kept ++ b ∷ l)) (sym (take-nil n)) (go_on_push kept b sound.continues keeps)

  fits : (n : ℕ) → EachFits root.pages no_tables (kept ++ take n (b ∷ []))
  fits zero = subst (EachFits root.pages no_tables) (sym (append-nil kept)) sound.fits
  fits (suc n) = subst (λ (l : List (List ℕ)). EachFits root.pages no_tables (kept ++ b ∷ l)) (sym (take-nil n)) may.fits

  -- it is no step
  no_step : step (record_in b) (state_of (stored_in root old)) ≡ state_of (stored_in root old)
  no_step =
      let s = state_of (stored_in root old) in
      let is = is_checkpoint b may.number in
      ap (λ (r : Record). step r s) is.2 ∙ state_checkpoint is.0 is.1 s (ap (λ (r : Record). effect r s.tables) (sym is.2) ∙ may.keeps)

  no_steps : (n : ℕ) → steps (records_in (take n (b ∷ []))) (state_of (stored_in root old)) ≡ state_of (stored_in root old)
  no_steps zero = refl
  no_steps (suc n) = ap (λ (l : List (List ℕ)). steps (records_in l) (step (record_in b) (state_of (stored_in root old)))) (take-nil n) ∙ no_step

  pub sound_begun : (n : ℕ) → HoldsLog root.file root.first (kept ++ take n (b ∷ [])) new → IsSound root new
  sound_begun n holds = sound_more root (take n (b ∷ [])) old new sound same holds (fits n) (files_begin n holds) (goes_on n)

  pub state_begun : (n : ℕ) → kept_log root.file root.first new ≡ kept ++ take n (b ∷ []) → state_of (stored_in root new) ≡ state_of (stored_in root old)
  state_begun n log = state_flushed root (take n (b ∷ [])) old new sound same log ∙ no_steps n

-- a crash while a generation begins
pub folds_begun : (root : Root) (b : List ℕ) (old new : Image) → IsSound root old → MayBeginSecond root b old → KeepsPrefix (other_file root.file) root.file root.first (b ∷ []) old new → FoldsTo new (state_of (stored_in root old))
folds_begun root b old new sound may keeps = record {
  root = root;
  sound = sound_begun root b old new sound may keeps.others keeps.count keeps.holds;
  state_is = state_begun root b old new sound may keeps.others keeps.count (holds_is root.file root.first new (kept_log root.file root.first old ++ take keeps.count (b ∷ [])) keeps.holds);
}
