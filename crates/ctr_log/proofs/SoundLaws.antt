-- The records of the batches before the first that is damaged are the first of all; and where no check
-- fails, they are all.
use Rattle.std.proofs.Common.{◌≡◌, ◌≢◌, ◌⊎◌, inl, inr, ℕ, zero, suc, ◌+◌, ◌==◌, Bool, true, false, if◌then◌else◌, List, [], ◌∷◌, ◌++◌, length, drop, get_or, refl, sym, ◌∙◌, ap, append_assoc, Ok, Err}
use Rattle.std.specs.Prelude.{Result, ⊤}
use Rattle.std.proofs.lemmas.Bool.{cases_eq}
use Rattle.std.proofs.lemmas.List.{append-nil}
use Rattle.ctr_types.specs.declared.file.File.{File}
use Rattle.ctr_home.specs.disk_StoreFault.{StoreFault}
use Rattle.ctr_home.specs.disk_Image.{Image, content}
use Rattle.ctr_home.specs.bytes_Fields.{field}
use Rattle.ctr_home.specs.declared.checks.Check.{Check}
use Rattle.ctr_home.specs.Checks.{check_of, judged}
use Rattle.ctr_log.specs.Reading.{log_file}
use Rattle.ctr_log.specs.Kept.{log_in, other_file, has_newer}
use Rattle.ctr_log.specs.LogChecks.{frame_bytes, batch_checks, log_checks, file_damage, damage_or, kept_damage, if_passed, sound_batch_visits, sound_visits, sound_kept_visits}
use Rattle.ctr_log.specs.Visits.{frame_visits, batch_visits, file_visits, kept_visits, IsFront}
use Rattle.ctr_log.specs.declared.visitor.Visit.{Visit}
use Rattle.ctr_log.proofs.KeptLaws.{picks, passes}
use Rattle.ctr_log.proofs.DamageLaws.{judged-append, judged-front}

-- where checks pass, those of both parts do
pub judged-parts : (file : File) (xs ys : List Check) → judged file (xs ++ ys) ≡ Ok tt → (judged file xs ≡ Ok tt) × (judged file ys ≡ Ok tt)
judged-parts file xs ys pass = by_first (judged file xs) refl
  where
    by_first : (d : Result ⊤ StoreFault) → judged file xs ≡ d → (judged file xs ≡ Ok tt) × (judged file ys ≡ Ok tt)
    by_first (Ok tt) is = (is, sym (judged-append file xs ys is) ∙ pass)
    by_first (Err e) is = let fails = judged-front file xs ys e is in absurd (cc (fails, pass))

-- ---- a file

front_if : (t : Bool) (d : Result ⊤ StoreFault) (here sound behind : List Visit) → IsFront sound behind → IsFront (if t then if_passed d (here ++ sound) else []) (if t then here ++ behind else [])
front_if true (Ok x) here sound behind front = (front.0, ap (λ (l : List Visit). here ++ l) front.1 ∙ sym (append_assoc here sound front.0))
front_if true (Err e) here sound behind front = (here ++ behind, refl)
front_if false d here sound behind front = ([], refl)

batch_front : (file : File) (lsn gate n : ℕ) (bytes : List ℕ) → IsFront (sound_batch_visits file lsn gate n bytes) (batch_visits file lsn gate n bytes)
batch_front file lsn gate zero bytes = ([], refl)
batch_front file lsn gate (suc n) bytes =
    let len = field 8 1 bytes in
    let count = field 4 17 bytes in
    front_if (get_or bytes 0 0 == 1) (judged file (batch_checks lsn gate bytes)) (frame_visits file lsn (gate + 21) count (frame_bytes bytes)) (sound_batch_visits file (lsn + count) (gate + (21 + len)) n (drop (21 + len) bytes))
    (batch_visits file (lsn + count) (gate + (21 + len)) n (drop (21 + len) bytes)) (batch_front file (lsn + count) (gate + (21 + len)) n (drop (21 + len) bytes))

pub file_front : (file : File) (first : ℕ) (bytes : List ℕ) → IsFront (sound_visits file first bytes) (file_visits file first bytes)
file_front file first bytes = batch_front file first 0 (length bytes) bytes

module _ (file : File) (lsn gate n : ℕ) (bytes : List ℕ) where
  abbrev len : ℕ
  len = field 8 1 bytes

  abbrev count : ℕ
  count = field 4 17 bytes

  abbrev here : List Visit
  here = frame_visits file lsn (gate + 21) count (frame_bytes bytes)

  abbrev sound : List Visit
  sound = sound_batch_visits file (lsn + count) (gate + (21 + len)) n (drop (21 + len) bytes)

  abbrev behind : List Visit
  behind = batch_visits file (lsn + count) (gate + (21 + len)) n (drop (21 + len) bytes)

  abbrev later : List Check
  later = log_checks (lsn + count) (gate + (21 + len)) n (drop (21 + len) bytes)

  all_step : (judged file later ≡ Ok tt → sound ≡ behind) → judged file (log_checks lsn gate (suc n) bytes) ≡ Ok tt → (get_or bytes 0 0 ≡ 1) ⊎ (get_or bytes 0 0 ≢ 1) → sound_batch_visits file lsn gate (suc n) bytes ≡ batch_visits file lsn gate (suc n) bytes
  all_step more pass (inl open_) =
      let parts = judged-parts file (batch_checks lsn gate bytes) later (ap (judged file) (sym (picks (get_or bytes 0 0) 1 (batch_checks lsn gate bytes ++ later) [] open_)) ∙ pass) in
      picks (get_or bytes 0 0) 1 (if_passed (judged file (batch_checks lsn gate bytes)) (here ++ sound)) [] open_
      ∙ ap (λ (d : Result ⊤ StoreFault). if_passed d (here ++ sound)) parts.0
      ∙ ap (λ (l : List Visit). here ++ l) (more parts.1)
      ∙ sym (picks (get_or bytes 0 0) 1 (here ++ behind) [] open_)
  all_step more pass (inr shut) =
      passes (get_or bytes 0 0) 1 (if_passed (judged file (batch_checks lsn gate bytes)) (here ++ sound)) [] shut
      ∙ sym (passes (get_or bytes 0 0) 1 (here ++ behind) [] shut)

batch_all : (file : File) (lsn gate n : ℕ) (bytes : List ℕ) → judged file (log_checks lsn gate n bytes) ≡ Ok tt → sound_batch_visits file lsn gate n bytes ≡ batch_visits file lsn gate n bytes
batch_all file lsn gate zero bytes pass = refl
batch_all file lsn gate (suc n) bytes pass =
    all_step file lsn gate n bytes (batch_all file (lsn + field 4 17 bytes) (gate + (21 + field 8 1 bytes)) n (drop (21 + field 8 1 bytes) bytes)) pass (cases_eq (get_or bytes 0 0) 1)

pub file_all : (file : File) (first : ℕ) (bytes : List ℕ) → file_damage file first bytes ≡ Ok tt → sound_visits file first bytes ≡ file_visits file first bytes
file_all file first bytes pass =
    batch_all file first 0 (length bytes) bytes (judged-parts file (check_of 0 1 (get_or bytes 0 0) ∷ []) (log_checks first 0 (length bytes) bytes) pass).1

-- ---- the log of an image

module _ (file first : ℕ) (image : Image) where
  abbrev named : List ℕ
  named = content (log_file file) image

  abbrev newer : List ℕ
  newer = content (other_file file) image

  abbrev next : ℕ
  next = first + length (log_in named)

  abbrev named_damage : Result ⊤ StoreFault
  named_damage = file_damage (log_file file) first named

  abbrev newer_damage : Result ⊤ StoreFault
  newer_damage = file_damage (other_file file) next newer

  abbrev named_all : List Visit
  named_all = file_visits (log_file file) first named

  abbrev newer_all : List Visit
  newer_all = file_visits (other_file file) next newer

  abbrev named_sound : List Visit
  named_sound = sound_visits (log_file file) first named

  abbrev newer_sound : List Visit
  newer_sound = sound_visits (other_file file) next newer

  front_of_both : (t : Bool) → IsFront (if t then newer_sound else []) (if t then newer_all else [])
  front_of_both true = file_front (other_file file) next newer
  front_of_both false = ([], refl)

  both_are : (t : Bool) → (if t then named_all ++ newer_all else named_all) ≡ named_all ++ (if t then newer_all else [])
  both_are true = refl
  both_are false = sym (append-nil named_all)

  by_damage : (t : Bool) (d : Result ⊤ StoreFault) → named_damage ≡ d → IsFront (named_sound ++ if_passed d (if t then newer_sound else [])) (named_all ++ (if t then newer_all else []))
  by_damage t (Ok tt) is =
      let more = front_of_both t in
      let same = file_all (log_file file) first named is in (
        more.0,
        ap (λ (l : List Visit). named_all ++ l) more.1 ∙ sym (append_assoc named_all (if t then newer_sound else []) more.0)
            ∙ ap (λ (l : List Visit). (l ++ (if t then newer_sound else [])) ++ more.0) (sym same),
      )
  by_damage t (Err e) is =
      let front = file_front (log_file file) first named in (
        front.0 ++ (if t then newer_all else []),
        ap (λ (l : List Visit). l ++ (if t then newer_all else [])) front.1 ∙ append_assoc named_sound front.0 (if t then newer_all else [])
            ∙ ap (λ (l : List Visit). l ++ (front.0 ++ (if t then newer_all else []))) (sym (append-nil named_sound)),
      )

  pub kept_front : IsFront (sound_kept_visits file first image) (kept_visits file first image)
  kept_front = let f = by_damage (has_newer first named newer) named_damage refl in (f.0, both_are (has_newer first named newer) ∙ f.1)

  all_by : (t : Bool) (d : Result ⊤ StoreFault) → named_damage ≡ d → damage_or d (if t then newer_damage else Ok tt) ≡ Ok tt → named_sound ++ if_passed d (if t then newer_sound else []) ≡ (if t then named_all ++ newer_all else named_all)
  all_by true (Ok tt) is pass = ap (λ (l : List Visit). l ++ newer_sound) (file_all (log_file file) first named is) ∙ ap (λ (l : List Visit). named_all ++ l) (file_all (other_file file) next newer pass)
  all_by false (Ok tt) is pass = append-nil named_sound ∙ file_all (log_file file) first named is
  all_by t (Err e) is pass = absurd (cc pass)

  pub kept_all : kept_damage file first image ≡ Ok tt → sound_kept_visits file first image ≡ kept_visits file first image
  kept_all pass = all_by (has_newer first named newer) named_damage refl pass
