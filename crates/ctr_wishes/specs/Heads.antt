-- The head that a Write lays, by the columns of its table and the row of its key.
use Rattle.std.specs.Prelude.{◌≡◌, ℕ, List, drop, replicate, Option, None, Some}
use Rattle.std.specs.Option.{option_map}
use Rattle.ctr_types.specs.declared.value.Column.{Column}
use Rattle.ctr_types.specs.declared.value.Row.{Row}
use Rattle.ctr_types.specs.declared.statement.Statement.{Statement}
use Rattle.ctr_types.specs.declared.tape.Refusal.{Refusal}
use Rattle.ctr_types.specs.declared.tape.Refusal.TheVariants as refusal
use Rattle.ctr_model.specs.Refusals.{bad_from}
use Rattle.ctr_sessions.specs.Answers.{write_refused, row_left}
use Rattle.ctr_value.specs.Payload.{IsRow, payload_of}
use Rattle.ctr_page.specs.declared.rows.Version.{Version}
use Rattle.ctr_page.specs.Columns.{kinds_of, kinds_width}
use Rattle.ctr_wishes.specs.HeadMade.{HeadMade}
use Rattle.ctr_wishes.specs.declared.making.Prepared.{Prepared}
use Rattle.ctr_wishes.specs.declared.making.Prepared.TheVariants.{Refused, Lays}

-- ---- heads

-- the version that a head is by a transaction
abbrev pub version_by : ℕ → HeadMade → Version
version_by x h = record { xid = x; tombstone = h.tombstone; payload = h.payload }

-- The head of the row that a Write leaves: its values behind the key. Where it leaves none, that of
-- a tombstone, with zeros.
abbrev pub head_of : List Column → Option Row → HeadMade
head_of cs None = record { tombstone = 1; payload = replicate (kinds_width (kinds_of cs)) 0 }
head_of cs (Some row) =
    record { tombstone = 0; payload = payload_of (drop 1 cs) (drop 1 row.values) }

-- ---- what a statement comes to

-- the first value of such a row that doesn't suit its column, as a refusal
abbrev pub unsuited : List Column → Option Row → Option Refusal
unsuited cs None = None
unsuited cs (Some row) = option_map refusal.BadValue (bad_from 1 cs row.values)

-- such a row has a payload: its values are those of the columns
abbrev pub HasPayload : List Column → Option Row → Type 0
HasPayload cs None = Unit {0}
HasPayload cs (Some row) = IsRow cs row.values

-- Its head is laid; or it is refused for a value that doesn't suit its column.
abbrev pub IsLaid : List Column → Option Row → Prepared → Type 0
IsLaid cs left (Refused why) = unsuited cs left ≡ Some why
IsLaid cs left (Lays h) = (unsuited cs left ≡ None) × HasPayload cs left × (h ≡ head_of cs left)

-- a refusal, or else that
abbrev pub IsRefusedOr : Option Refusal → List Column → Option Row → Prepared → Type 0
IsRefusedOr None cs left p = IsLaid cs left p
IsRefusedOr (Some why) cs left p = p ≡ Refused why

-- What the Write of a statement comes to, by the columns of its table and the row of its key, which
-- may be none: it is refused as the sessions' definitions have it, or else lays the head of the row
-- that it leaves.
abbrev pub IsWished : List Column → Statement → Option Row → Prepared → Type 0
IsWished cs statement row p =
    IsRefusedOr (write_refused cs statement row) cs (row_left cs statement row) p
