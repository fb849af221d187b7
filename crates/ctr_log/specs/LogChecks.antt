-- The checks of a file of the log, in their order. The first that fails is the damage that is
-- told; the records of the batches before it are what is read.
use Rattle.std.specs.Prelude.{◌≡◌, ◌==◌, ◌+◌, ◌-◌, if◌then◌else◌, ℕ, zero, suc, min, max, List, [], ◌∷◌, ◌++◌, length, take, drop, slice_index, Result, Ok, Err, IfErr, MatchResult, ⊤}
use Rattle.ctr_types.specs.declared.file.File.{File}
use Rattle.ctr_home.specs.disk_Image.{Image, content}
use Rattle.ctr_home.specs.disk_StoreFault.{StoreFault}
use Rattle.ctr_home.specs.disk_StoreFault.TheVariants.{Fault, Damaged}
use Rattle.ctr_home.specs.bytes_Fields.{field}
use Rattle.ctr_home.specs.declared.checks.Check.{Check}
use Rattle.ctr_home.specs.Checks.{check_of, judged}
use Rattle.ctr_log.specs.Reading.{log_file, RefusesOrFails, HasSome}
use Rattle.ctr_log.specs.Kept.{log_in, other_file, has_newer}
use Rattle.ctr_log.specs.Visits.{frame_visits, OnRead}
use Rattle.ctr_log.specs.declared.visitor.Visit.{Visit}
use Rattle.ctr_log.specs.declared.reading.ReadError.{ReadError}
use Rattle.ctr_log.specs.declared.reading.ReadError.TheVariants.{Store, OutOfMemory}
use Rattle.ctr_log.specs.declared.visitor.VisitError.{VisitError}

-- A frame at a place, with what stands behind it in its batch: the 8 bytes of its length are there,
-- and then as many bytes as that says.
abbrev pub frame_check : ℕ → List ℕ → List Check
frame_check at bytes = check_of at (max 8 (length bytes)) (length bytes)
    ∷ check_of at (min (length bytes - 8) (field 8 0 bytes)) (field 8 0 bytes) ∷ []

-- the bytes behind the first frame
abbrev pub behind_frame : List ℕ → List ℕ
behind_frame bytes = drop (8 + field 8 0 bytes) bytes

-- n frames at most, one behind another from a place on
abbrev pub frame_checks : ℕ → ℕ → List ℕ → List Check
frame_checks zero at bytes = []
frame_checks (suc n) at [] = []
frame_checks (suc n) at (b ∷ bs) =
    frame_check at (b ∷ bs)
    ++ frame_checks n (at + (8 + field 8 0 (b ∷ bs))) (behind_frame (b ∷ bs))

-- how many frames, n at most, the bytes are
abbrev pub frames_in : ℕ → List ℕ → ℕ
frames_in zero bytes = 0
frames_in (suc n) [] = 0
frames_in (suc n) (b ∷ bs) = 1 + frames_in n (behind_frame (b ∷ bs))

-- The first fields of a batch at a gate, from which so many bytes are left to the file's end: the
-- frames' length leaves room for the next gate, and the first number is the next one.
abbrev pub head_checks : ℕ → ℕ → ℕ → List ℕ → List Check
head_checks next gate left head =
    check_of (gate + 1) (min (left - 22) (field 8 1 head)) (field 8 1 head)
    ∷ check_of (gate + 9) next (field 8 9 head) ∷ []

-- the count in a batch's head is that of the frames, and there is one
abbrev pub count_checks : ℕ → ℕ → List ℕ → List Check
count_checks found gate head = check_of (gate + 17) found (field 4 17 head)
    ∷ check_of (gate + 17) (max 1 found) found ∷ []

-- the frames of the batch at the front of bytes
abbrev pub frame_bytes : List ℕ → List ℕ
frame_bytes bytes = take (field 8 1 bytes) (drop 21 bytes)

-- a batch at a gate, by the bytes from there to the file's end
abbrev pub batch_checks : ℕ → ℕ → List ℕ → List Check
batch_checks next gate bytes = head_checks next gate (length bytes) bytes
    ++ (frame_checks (length (frame_bytes bytes)) (gate + 21) (frame_bytes bytes)
    ++ count_checks (frames_in (length (frame_bytes bytes)) (frame_bytes bytes)) gate bytes)

-- The checks of a batch whose gate is open.
abbrev pub gate_checks : ℕ → ℕ → List ℕ → List Check
gate_checks next gate bytes =
    if slice_index bytes 0 == 1 then batch_checks next gate bytes else []

-- n batches at most from a gate on, up to the first closed gate
abbrev pub log_checks : ℕ → ℕ → ℕ → List ℕ → List Check
log_checks next gate zero bytes = []
log_checks next gate (suc n) bytes =
    if slice_index bytes 0 == 1 then batch_checks next gate bytes
    ++ log_checks (next + field 4 17 bytes) (gate + (21 + field 8 1 bytes)) n
    (drop (21 + field 8 1 bytes) bytes) else []

-- a file whose records are numbered from this LSN on: its first gate is open, then batch by batch
abbrev pub file_checks : ℕ → List ℕ → List Check
file_checks first bytes =
    check_of 0 1 (slice_index bytes 0) ∷ log_checks first 0 (length bytes) bytes

-- damage of a file by the first check that fails
abbrev pub file_damage : File → ℕ → List ℕ → Result ⊤ StoreFault
file_damage file first bytes = judged file (file_checks first bytes)

-- The visits given, where no check failed; none where one did.
abbrev pub if_passed : Result ⊤ StoreFault → List Visit → List Visit
if_passed (Ok _) visits = visits
if_passed (Err e) visits = []

-- The records of the batches before the first that is damaged, from a gate of a file on, numbered
-- from this LSN on: of n open batches at most, and up to the first closed gate.
abbrev pub sound_batch_visits : File → ℕ → ℕ → ℕ → List ℕ → List Visit
sound_batch_visits file lsn gate zero bytes = []
sound_batch_visits file lsn gate (suc n) bytes =
    if slice_index bytes 0 == 1 then if_passed (judged file (batch_checks lsn gate bytes))
    (frame_visits file lsn (gate + 21) (field 4 17 bytes) (frame_bytes bytes)
    ++ sound_batch_visits file (lsn + field 4 17 bytes) (gate + (21 + field 8 1 bytes)) n
    (drop (21 + field 8 1 bytes) bytes)) else []

-- The records of a whole file that come before the damage that is told of it.
abbrev pub sound_visits : File → ℕ → List ℕ → List Visit
sound_visits file first bytes = sound_batch_visits file first 0 (length bytes) bytes

-- damage of the one, or else of the other
abbrev pub damage_or : Result ⊤ StoreFault → Result ⊤ StoreFault → Result ⊤ StoreFault
damage_or (Err e) damage = Err e
damage_or (Ok _) damage = damage

-- Damage of the log of an image, whose root names this file and this first number: of the named
-- file, and then of the other one where it goes on from that.
abbrev pub kept_damage : ℕ → ℕ → Image → Result ⊤ StoreFault
kept_damage file first image =
    let named = content (log_file file) image in
    let other = content (other_file file) image in
    damage_or (file_damage (log_file file) first named)
    (if has_newer first named other then file_damage (other_file file)
    (first + length (log_in named)) other else Ok tt)

-- The records of the log of an image that come before its damage: those of the named file, and
-- where it has no damage, those of the other one where it goes on from that.
abbrev pub sound_kept_visits : ℕ → ℕ → Image → List Visit
sound_kept_visits file first image =
    let named = content (log_file file) image in
    let other = content (other_file file) image in
    sound_visits (log_file file) first named
    ++ if_passed (file_damage (log_file file) first named)
    (if has_newer first named other then sound_visits (other_file file)
    (first + length (log_in named)) other else [])

-- damage that was told is this; or the disk failed, or memory was refused
abbrev pub IsThisDamage : Result ⊤ StoreFault → ReadError → Type 0
IsThisDamage damage OutOfMemory = Unit {0}
IsThisDamage damage (Store Fault) = Unit {0}
IsThisDamage damage (Store (Damaged d)) = damage ≡ Err (Damaged d)

-- what was read to its end has no damage, and damage that was told is this
abbrev pub TellsDamage : {T : Type 0} → Result ⊤ StoreFault → Result T ReadError → Type 0
TellsDamage damage result = MatchResult result (λ _. damage ≡ Ok tt) (IsThisDamage damage)

-- How reading ends by the damage of a log, where a visitor may refuse a record before that.
abbrev pub VisitsDamage : {T E : Type 0} → Result ⊤ StoreFault → Result T (VisitError E) → Type 0
VisitsDamage damage result = MatchResult result (λ _. damage ≡ Ok tt) (OnRead (IsThisDamage damage))

-- What is said of a file whose bytes are told: where a check failed, no log stands there, and the
-- first that fails is told; what was read to its end has no damage.
pub record TellsFile {T E : Type 0} (file : File) (first : ℕ) (bytes : List ℕ)
    (result : Result T (VisitError E))
    : Type 0 where
  pub refused : IfErr result (OnRead (RefusesOrFails file (HasSome first bytes)))
  pub damage : VisitsDamage (file_damage file first bytes) result
