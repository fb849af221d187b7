-- Which records there are, and which bytes are none.
use Rattle.std.specs.Prelude.{◌≡◌, ◌≢◌, ℕ, ◌^◌, ◌<◌, List, Ok}
use Rattle.ctr_rec.specs.declared.decoding.BadRecord.{BadRecord}
use Rattle.ctr_rec.specs.declared.record.Record.{Record}
use Rattle.ctr_rec.specs.declared.record.Form.{Form}
use Rattle.ctr_rec.specs.declared.record.Form.TheVariants.{Lists, Fields}
use Rattle.ctr_rec.specs.Parts.{form_of, PartsFit}
use Rattle.ctr_rec.specs.Spelling.{checkpoint_bytes, record_bytes}
use Rattle.ctr_rec.specs.Checkpoint.{checkpoint_checks}
use Rattle.ctr_rec.specs.Members.{HasMembers}

-- a Checkpoint passes its checks; the parts of others are in their bounds
abbrev pub FormFits : Form → Type 0
FormFits (Lists next lists) =
    (next < 2 ^ 64) × (checkpoint_checks (checkpoint_bytes next lists) ≡ Ok tt)
FormFits (Fields p) = PartsFit p

-- A record is one of the log: its fields fit their bytes.
abbrev pub IsRecord : Record → Type 0
IsRecord r = FormFits (form_of r)

-- where it is a Checkpoint, its lists are those of members
abbrev pub ListsAreMembers : Form → Type 0
ListsAreMembers (Lists next lists) = HasMembers next lists
ListsAreMembers (Fields p) = Unit {0}

-- the bytes are no record, and what is wanted isn't what is there
abbrev pub AreNoRecord : List ℕ → BadRecord → Type 0
AreNoRecord bytes e =
    (e.want ≢ e.got) × ((r : Record) → IsRecord r → record_bytes r ≢ bytes)
