-- The records of a log where they stand, and what a visitor is given of them.
use Rattle.std.specs.Prelude.{◌≡◌, ◌==◌, ◌+◌, if◌then◌else◌, ℕ, zero, suc, List, [], ◌∷◌, ◌++◌, length, take, drop, slice_index, Result, Ok, Err, MatchResult}
use Rattle.ctr_types.specs.declared.file.File.{File}
use Rattle.ctr_types.specs.declared.memory.OutOfMemory.{OutOfMemory as WantOfMemory}
use Rattle.ctr_home.specs.disk_Image.{Image, content}
use Rattle.ctr_home.specs.disk_StoreFault.{StoreFault}
use Rattle.ctr_home.specs.disk_StoreFault.TheVariants.{Fault, Damaged}
use Rattle.ctr_home.specs.bytes_Fields.{field}
use Rattle.ctr_log.specs.Reading.{log_file, ReadDiffers}
use Rattle.ctr_log.specs.Kept.{log_in, other_file, has_newer}
use Rattle.ctr_log.specs.declared.visitor.Visit.{Visit}
use Rattle.ctr_log.specs.declared.reading.ReadError.{ReadError}
use Rattle.ctr_log.specs.declared.reading.ReadError.TheVariants.{Store, OutOfMemory}
use Rattle.ctr_log.specs.declared.visitor.VisitError.{VisitError}
use Rattle.ctr_log.specs.declared.visitor.VisitError.TheVariants.{Read, Refused}

-- a record by its number, its file, the place of its first byte, and its bytes
abbrev pub visit_of : ℕ → File → ℕ → List ℕ → Visit
visit_of lsn file at bytes = record { lsn = lsn; file = file; at = at; bytes = bytes }

-- The records of n frames that begin at a place of a file, numbered from this LSN on. Each stands
-- behind the 8 bytes of its length.
abbrev pub frame_visits : File → ℕ → ℕ → ℕ → List ℕ → List Visit
frame_visits file lsn at zero bytes = []
frame_visits file lsn at (suc n) bytes =
    visit_of lsn file (at + 8) (take (field 8 0 bytes) (drop 8 bytes)) ∷ frame_visits file
    (lsn + 1) (at + (8 + field 8 0 bytes)) n (drop (8 + field 8 0 bytes) bytes)

-- The records in the bytes from a gate of a file on, numbered from this LSN on: of n open batches
-- at most, and up to the first closed gate.
abbrev pub batch_visits : File → ℕ → ℕ → ℕ → List ℕ → List Visit
batch_visits file lsn gate zero bytes = []
batch_visits file lsn gate (suc n) bytes =
    if slice_index bytes 0 == 1 then frame_visits file lsn (gate + 21) (field 4 17 bytes)
    (take (field 8 1 bytes) (drop 21 bytes))
    ++ batch_visits file (lsn + field 4 17 bytes) (gate + (21 + field 8 1 bytes)) n
    (drop (21 + field 8 1 bytes) bytes) else []

-- the records of a file, numbered from this LSN on: there are no more batches than bytes
abbrev pub file_visits : File → ℕ → List ℕ → List Visit
file_visits file first bytes = batch_visits file first 0 (length bytes) bytes

-- The records of the log of an image, whose root names this file and this first number: those of
-- the named file, and those of the other file where they go on from them.
abbrev pub kept_visits : ℕ → ℕ → Image → List Visit
kept_visits file first image =
    let named = content (log_file file) image in
    let other = content (other_file file) image in
    if has_newer first named other then file_visits (log_file file) first named
    ++ file_visits (other_file file) (first + length (log_in named)) other else file_visits
    (log_file file) first named

-- The bytes of the records that are visited, each by itself.
abbrev pub visit_bytes : List Visit → List (List ℕ)
visit_bytes [] = []
visit_bytes (v ∷ vs) = v.bytes ∷ visit_bytes vs

-- each of them stands at its place of its file
abbrev pub AreInPlace : Image → List Visit → Type 0
AreInPlace image [] = Unit {0}
AreInPlace image (v ∷ vs) =
    (take (length v.bytes) (drop v.at (content v.file image)) ≡ v.bytes) × AreInPlace image vs

-- The records visited are numbered from an LSN on, without gaps.
abbrev pub AreNumbered : ℕ → List Visit → Type 0
AreNumbered lsn [] = Unit {0}
AreNumbered lsn (v ∷ vs) = (v.lsn ≡ lsn) × AreNumbered (lsn + 1) vs

-- the first of all these
abbrev pub IsFront : List Visit → List Visit → Type 0
IsFront front all = (rest : List Visit) × (all ≡ front ++ rest)

-- a visitor was given these: whatever it had seen before, it has seen them behind that
abbrev pub IsGiven : {V : Type 0} → (V → List Visit → Type 0) → V → V → List Visit → Type 0
IsGiven has_seen old new given =
    (before : List Visit) → has_seen old before → has_seen new (before ++ given)

-- A visitor was given some records between two states of it.
abbrev pub GivesSome : {V : Type 0} → (V → List Visit → Type 0) → V → V → Type 0
GivesSome has_seen old new = (given : List Visit) × IsGiven has_seen old new given

-- A visitor was given the first ones of these records, in order.
pub record GivesPart {V : Type 0} (has_seen : V → List Visit → Type 0) (old new : V)
    (all : List Visit)
    : Type 0 where
  pub given : List Visit
  pub rest : List Visit
  pub all_are : all ≡ given ++ rest
  pub gives : IsGiven has_seen old new given

-- A visitor refused one of the records with an error, when it had been given those before it.
pub record RefusesOne {V E : Type 0} (has_seen : V → List Visit → Type 0)
    (refuses : List Visit → Visit → E → Type 0) (old : V) (all : List Visit) (e : E) : Type 0 where
  pub given : List Visit
  pub refused : Visit
  pub rest : List Visit
  pub all_are : all ≡ given ++ refused ∷ rest
  pub because : (before : List Visit) → has_seen old before → refuses (before ++ given) refused e

-- What it has been given where reading ended early: at damage all of these, which are the records
-- of the batches before that; where it refused one, those before that; else a front of them.
abbrev pub StopsAt : {V E : Type 0} → (V → List Visit → Type 0)
    → (List Visit → Visit → E → Type 0) → V → V → List Visit → VisitError E → Type 0
StopsAt has_seen refuses old new sound (Read OutOfMemory) = GivesPart has_seen old new sound
StopsAt has_seen refuses old new sound (Read (Store Fault)) = GivesPart has_seen old new sound
StopsAt has_seen refuses old new sound (Read (Store (Damaged d))) = IsGiven has_seen old new sound
StopsAt has_seen refuses old new sound (Refused e) = RefusesOne has_seen refuses old sound e

-- A visitor is given all records; or reading ends early, by damage, a fault or a refusal.
abbrev pub Visits : {V T E : Type 0} → (V → List Visit → Type 0)
    → (List Visit → Visit → E → Type 0) → V → V → List Visit → Result T (VisitError E) → Type 0
Visits has_seen refuses old new sound result =
    MatchResult result (λ _. IsGiven has_seen old new sound)
    (StopsAt has_seen refuses old new sound)

-- where reading ended without a refusal, it ended so
abbrev pub OnRead : {E : Type 0} → (ReadError → Type 0) → VisitError E → Type 0
OnRead P (Read e) = P e
OnRead P (Refused e) = Unit {0}

-- A statement holds, unless reading itself ended early.
abbrev pub UnlessRead : {T E : Type 0} → Type 0 → Result T (VisitError E) → Type 0
UnlessRead P (Ok x) = P
UnlessRead P (Err (Read e)) = Unit {0}
UnlessRead P (Err (Refused e)) = P

-- Whatever the disk tells: damage says what differs, and a refusal is one that the visitor may
-- answer.
abbrev pub EndsEarly : {V E : Type 0} → (V → List Visit → Type 0)
    → (List Visit → Visit → E → Type 0) → V → VisitError E → Type 0
EndsEarly has_seen refuses old (Read e) = ReadDiffers e
EndsEarly has_seen refuses old (Refused e) =
    (all : List Visit) × RefusesOne has_seen refuses old all e

-- the error by which a visitor tells how reading ended: its own refusal is handed on
abbrev pub IsToldBy : {E : Type 0} → (StoreFault → E → Type 0) → (WantOfMemory → E → Type 0)
    → VisitError E → E → Type 0
IsToldBy of_store of_memory (Read (Store fault)) e = of_store fault e
IsToldBy of_store of_memory (Read OutOfMemory) e = (want : WantOfMemory) × of_memory want e
IsToldBy of_store of_memory (Refused r) e = e ≡ r
