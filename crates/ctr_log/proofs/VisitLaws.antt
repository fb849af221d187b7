-- What a visitor is given of an image are the records of its log, each at its place, in order.
use Rattle.std.proofs.Common.{◌≡◌, ℕ, zero, suc, ◌+◌, ◌-◌, ◌==◌, Bool, true, false, if◌then◌else◌, List, [], ◌∷◌, ◌++◌, length, take, drop, get_or, refl, sym, ◌∙◌, ap, subst, arith}
use Rattle.std.proofs.lemmas.List.{drop-drop}
use Rattle.std.proofs.Math.Seq.{take-nil}
use Rattle.ctr_types.specs.declared.file.File.{File}
use Rattle.ctr_home.specs.disk_Image.{Image, content}
use Rattle.ctr_home.specs.bytes_Fields.{field}
use Rattle.ctr_log.specs.Logs.{unframed}
use Rattle.ctr_log.specs.Reading.{log_file}
use Rattle.ctr_log.specs.Kept.{logged, log_in, kept_log, other_file, has_newer}
use Rattle.ctr_log.specs.Visits.{frame_visits, batch_visits, file_visits, kept_visits, visit_bytes, AreInPlace, AreNumbered}
use Rattle.ctr_log.specs.declared.visitor.Visit.{Visit}

-- ---- their bytes are the records

pub bytes-append : (xs ys : List Visit) → visit_bytes (xs ++ ys) ≡ visit_bytes xs ++ visit_bytes ys
bytes-append [] ys = refl
bytes-append (x ∷ xs) ys = ap (λ (l : List (List ℕ)). x.bytes ∷ l) (bytes-append xs ys)

frame_bytes : (file : File) (lsn at n : ℕ) (bytes : List ℕ) → visit_bytes (frame_visits file lsn at n bytes) ≡ unframed n bytes
frame_bytes file lsn at zero bytes = refl
frame_bytes file lsn at (suc n) bytes =
    ap (λ (l : List (List ℕ)). take (field 8 0 bytes) (drop 8 bytes) ∷ l) (frame_bytes file (lsn + 1) (at + (8 + field 8 0 bytes)) n (drop (8 + field 8 0 bytes) bytes))

bytes_if : (t : Bool) (xs : List Visit) (rs : List (List ℕ)) → visit_bytes xs ≡ rs → visit_bytes (if t then xs else []) ≡ (if t then rs else [])
bytes_if true xs rs is = is
bytes_if false xs rs is = refl

batch_bytes : (file : File) (lsn gate n : ℕ) (bytes : List ℕ) → visit_bytes (batch_visits file lsn gate n bytes) ≡ logged n bytes
batch_bytes file lsn gate zero bytes = refl
batch_bytes file lsn gate (suc n) bytes =
    let len = field 8 1 bytes in
    let count = field 4 17 bytes in
    let here = frame_visits file lsn (gate + 21) count (take len (drop 21 bytes)) in
    let behind = batch_visits file (lsn + count) (gate + (21 + len)) n (drop (21 + len) bytes) in
    bytes_if (get_or bytes 0 0 == 1) (here ++ behind) (unframed count (take len (drop 21 bytes)) ++ logged n (drop (21 + len) bytes)) (
    bytes-append here behind ∙ ap (λ (l : List (List ℕ)). l ++ visit_bytes behind) (frame_bytes file lsn (gate + 21) count (take len (drop 21 bytes)))
    ∙ ap (λ (l : List (List ℕ)). unframed count (take len (drop 21 bytes)) ++ l) (batch_bytes file (lsn + count) (gate + (21 + len)) n (drop (21 + len) bytes)))

pub file_bytes : (file : File) (first : ℕ) (bytes : List ℕ) → visit_bytes (file_visits file first bytes) ≡ log_in bytes
file_bytes file first bytes = batch_bytes file first 0 (length bytes) bytes

module _ (file first : ℕ) (image : Image) where
  abbrev named : List ℕ
  named = content (log_file file) image

  abbrev newer : List ℕ
  newer = content (other_file file) image

  abbrev named_visits : List Visit
  named_visits = file_visits (log_file file) first named

  abbrev newer_visits : List Visit
  newer_visits = file_visits (other_file file) (first + length (log_in named)) newer

  both_bytes : (t : Bool) → visit_bytes (if t then named_visits ++ newer_visits else named_visits) ≡ (if t then log_in named ++ log_in newer else log_in named)
  both_bytes true =
      bytes-append named_visits newer_visits ∙ ap (λ (l : List (List ℕ)). l ++ visit_bytes newer_visits) (file_bytes (log_file file) first named)
      ∙ ap (λ (l : List (List ℕ)). log_in named ++ l) (file_bytes (other_file file) (first + length (log_in named)) newer)
  both_bytes false = file_bytes (log_file file) first named

  pub kept_bytes : visit_bytes (kept_visits file first image) ≡ kept_log file first image
  kept_bytes = both_bytes (has_newer first named newer)

-- ---- they stand at their places

drop_of_take : (n e : ℕ) (l : List ℕ) → drop n (take e l) ≡ take (e - n) (drop n l)
drop_of_take zero e l = let same : e - 0 ≡ e = omega arith in ap (λ (k : ℕ). take k l) (sym same)
drop_of_take (suc n) zero l = let none : 0 - suc n ≡ 0 = omega arith in ap (λ (k : ℕ). take k (drop (suc n) l)) (sym none)
drop_of_take (suc n) (suc e) [] = sym (take-nil {A = ℕ} (suc e - suc n))
drop_of_take (suc n) (suc e) (x ∷ l) =
    let less : suc e - suc n ≡ e - n = omega arith in drop_of_take n e l ∙ ap (λ (k : ℕ). take k (drop n l)) (sym less)

-- a front of a front is a front
front_of_front : (a b : ℕ) (l : List ℕ) → take (length (take a (take b l))) l ≡ take a (take b l)
front_of_front zero b l = refl
front_of_front (suc a) zero l = refl
front_of_front (suc a) (suc b) [] = refl
front_of_front (suc a) (suc b) (x ∷ l) = ap (λ (r : List ℕ). x ∷ r) (front_of_front a b l)

module _ (image : Image) where
  places-append : (xs ys : List Visit) → AreInPlace image xs → AreInPlace image ys → AreInPlace image (xs ++ ys)
  places-append [] ys here behind = behind
  places-append (x ∷ xs) ys here behind = (here.0, places-append xs ys here.1 behind)

  places_if : (t : Bool) (xs : List Visit) → AreInPlace image xs → AreInPlace image (if t then xs else [])
  places_if true xs here = here
  places_if false xs here = tt

  module _ (file : File) where
    abbrev whole : List ℕ
    whole = content file image

    -- a part of a part
    part_behind : (k at m : ℕ) (part : List ℕ) → part ≡ take m (drop at whole) → drop k part ≡ take (m - k) (drop (at + k) whole)
    part_behind k at m part is = ap (drop k) is ∙ drop_of_take k m (drop at whole) ∙ ap (λ (l : List ℕ). take (m - k) l) (drop-drop k at whole)

    frame_places : (lsn at n m : ℕ) (part : List ℕ) → part ≡ take m (drop at whole) → AreInPlace image (frame_visits file lsn at n part)
    frame_places lsn at zero m part is = tt
    frame_places lsn at (suc n) m part is =
        let k = field 8 0 part in
        let record_is : take k (drop 8 part) ≡ take k (take (m - 8) (drop (at + 8) whole)) = ap (λ (l : List ℕ). take k l) (part_behind 8 at m part is) in (
          ap (λ (l : List ℕ). take (length l) (drop (at + 8) whole)) record_is ∙ front_of_front k (m - 8) (drop (at + 8) whole) ∙ sym record_is,
          frame_places (lsn + 1) (at + (8 + k)) n (m - (8 + k)) (drop (8 + k) part) (part_behind (8 + k) at m part is),
        )

    batch_places : (lsn gate n : ℕ) (rest : List ℕ) → rest ≡ drop gate whole → AreInPlace image (batch_visits file lsn gate n rest)
    batch_places lsn gate zero rest is = tt
    batch_places lsn gate (suc n) rest is =
        let len = field 8 1 rest in
        let count = field 4 17 rest in
        let part = take len (drop 21 rest) in
        let behind : (k : ℕ) → drop k rest ≡ drop (gate + k) whole = λ k. ap (drop k) is ∙ drop-drop k gate whole in
        places_if (get_or rest 0 0 == 1) (frame_visits file lsn (gate + 21) count part ++ batch_visits file (lsn + count) (gate + (21 + len)) n (drop (21 + len) rest)) (
        places-append (frame_visits file lsn (gate + 21) count part) (batch_visits file (lsn + count) (gate + (21 + len)) n (drop (21 + len) rest))
        (frame_places lsn (gate + 21) count len part (ap (λ (l : List ℕ). take len l) (behind 21)))
        (batch_places (lsn + count) (gate + (21 + len)) n (drop (21 + len) rest) (behind (21 + len))))

    file_places : (first : ℕ) → AreInPlace image (file_visits file first whole)
    file_places first = batch_places first 0 (length whole) whole refl

  both_places : (file first : ℕ) (t : Bool) → AreInPlace image (if t then named_visits file first image ++ newer_visits file first image else named_visits file first image)
  both_places file first true =
      places-append (named_visits file first image) (newer_visits file first image) (file_places (log_file file) first) (file_places (other_file file) (first + length (log_in (named file first image))))
  both_places file first false = file_places (log_file file) first

pub kept_places : (file first : ℕ) (image : Image) → AreInPlace image (kept_visits file first image)
kept_places file first image = both_places image file first (has_newer first (named file first image) (newer file first image))

-- ---- they are numbered without gaps

numbers-append : (lsn : ℕ) (xs ys : List Visit) → AreNumbered lsn xs → AreNumbered (lsn + length xs) ys → AreNumbered lsn (xs ++ ys)
numbers-append lsn [] ys here behind = subst (λ (n : ℕ). AreNumbered n ys) (let e : lsn + length {A = Visit} [] ≡ lsn = omega arith in e) behind
numbers-append lsn (x ∷ xs) ys here behind = (here.0, numbers-append (lsn + 1) xs ys here.1 (subst (λ (n : ℕ). AreNumbered n ys) (let e : lsn + length (x ∷ xs) ≡ lsn + 1 + length xs = omega arith in e) behind))

numbers_if : (t : Bool) (lsn : ℕ) (xs : List Visit) → AreNumbered lsn xs → AreNumbered lsn (if t then xs else [])
numbers_if true lsn xs here = here
numbers_if false lsn xs here = tt

frame_numbers : (file : File) (lsn at n : ℕ) (bytes : List ℕ) → AreNumbered lsn (frame_visits file lsn at n bytes)
frame_numbers file lsn at zero bytes = tt
frame_numbers file lsn at (suc n) bytes = (refl, frame_numbers file (lsn + 1) (at + (8 + field 8 0 bytes)) n (drop (8 + field 8 0 bytes) bytes))

frame_count : (file : File) (lsn at n : ℕ) (bytes : List ℕ) → length (frame_visits file lsn at n bytes) ≡ n
frame_count file lsn at zero bytes = refl
frame_count file lsn at (suc n) bytes = let rest = frame_count file (lsn + 1) (at + (8 + field 8 0 bytes)) n (drop (8 + field 8 0 bytes) bytes) in omega arith

batch_numbers : (file : File) (lsn gate n : ℕ) (bytes : List ℕ) → AreNumbered lsn (batch_visits file lsn gate n bytes)
batch_numbers file lsn gate zero bytes = tt
batch_numbers file lsn gate (suc n) bytes =
    let len = field 8 1 bytes in
    let count = field 4 17 bytes in
    let here = frame_visits file lsn (gate + 21) count (take len (drop 21 bytes)) in
    let behind = batch_visits file (lsn + count) (gate + (21 + len)) n (drop (21 + len) bytes) in
    numbers_if (get_or bytes 0 0 == 1) lsn (here ++ behind) (
    numbers-append lsn here behind (frame_numbers file lsn (gate + 21) count (take len (drop 21 bytes))) (
    subst (λ (k : ℕ). AreNumbered (lsn + k) behind) (sym (frame_count file lsn (gate + 21) count (take len (drop 21 bytes)))) (
    batch_numbers file (lsn + count) (gate + (21 + len)) n (drop (21 + len) bytes))))

bytes_count : (xs : List Visit) → length (visit_bytes xs) ≡ length xs
bytes_count [] = refl
bytes_count (x ∷ xs) = let rest = bytes_count xs in omega arith

both_numbers : (file first : ℕ) (image : Image) (t : Bool) → AreNumbered first (if t then named_visits file first image ++ newer_visits file first image else named_visits file first image)
both_numbers file first image true =
    let xs = named_visits file first image in
    let ys = newer_visits file first image in
    let count : length (log_in (named file first image)) ≡ length xs = sym (ap length (file_bytes (log_file file) first (named file first image))) ∙ bytes_count xs in
    numbers-append first xs ys (batch_numbers (log_file file) first 0 (length (named file first image)) (named file first image)) (
    subst (λ (k : ℕ). AreNumbered (first + k) ys) count (batch_numbers (other_file file) (first + length (log_in (named file first image))) 0 (length (newer file first image)) (newer file first image)))
both_numbers file first image false = batch_numbers (log_file file) first 0 (length (named file first image)) (named file first image)

pub kept_numbers : (file first : ℕ) (image : Image) → AreNumbered first (kept_visits file first image)
kept_numbers file first image = both_numbers file first image (has_newer first (named file first image) (newer file first image))
