-- The head of a row gives way to the next version of its chain.
use Rattle.std.specs.Prelude.{◌≡◌, ◌⊎◌, ◌≤◌, ◌+◌, ℕ, ◌==◌, IsTrue, ℤ, pos, List, take, replicate, ⊤, Option, None, Some, Result, Ok, Err, true, if◌then◌else◌}
use Rattle.ctr_bytes.specs.Following.{◌>>=◌}
use Rattle.ctr_disk.specs.declared.disk.Disk.{Ghosts}
use Rattle.ctr_disk.specs.Image.{Image}
use Rattle.ctr_disk.specs.declared.fault.StoreFault.{StoreFault}
use Rattle.ctr_rec.specs.declared.record.Record.{Record}
use Rattle.ctr_rec.specs.declared.record.Record.TheVariants.{Revert}
use Rattle.ctr_rec.specs.declared.decoding.BadRecord.{BadRecord}
use Rattle.ctr_page.specs.declared.walk.BadChain.{BadChain}
use Rattle.ctr_page.specs.declared.rows.Place.{Place}
use Rattle.ctr_page.specs.declared.rows.Version.{Version}
use Rattle.ctr_page.specs.declared.rows.RowSlot.{RowSlot}
use Rattle.ctr_page.specs.declared.rows.VersionEntry.{VersionEntry}
use Rattle.ctr_page.specs.declared.table.TheConstants.{PAGE_SIZE}
use Rattle.ctr_page.specs.Places.{slot_size, start_of}
use Rattle.ctr_page.specs.Reading.{slot_at, older_at}
use Rattle.ctr_page.specs.Columns.{kinds_width}
use Rattle.ctr_page.specs.Making.{slot_bytes, IsSlot, IsEntry}
use Rattle.ctr_pvs.specs.area_Areas.{nowhere, RowVersion, Slot, Older, free_slot, Area}
use Rattle.ctr_pvs.specs.area_Reading.{header_on, width_on, area_of}
use Rattle.ctr_pvs.specs.area_Checked.{kinds_at}
use Rattle.ctr_pvs.specs.base_Base.{IsSoundImage}
use Rattle.ctr_pvs.specs.store_Store.{View}
use Rattle.ctr_pvs.specs.walk_OneRecord.{WhyNotLogged, LogsOne}
use Rattle.ctr_pvs.specs.walk_Damage.{EndsTold, ReadsPages}
use Rattle.ctr_pvs.specs.record_effects_States.{pages_in}
use Rattle.ctr_pvs.specs.record_effects_Changing.{laid_on_place}
use Rattle.ctr_revert.specs.declared.slots.FromSlot.{FromSlot}
use Rattle.ctr_revert.specs.declared.slots.SlotLaid.{SlotLaid}
use Rattle.ctr_pvs.specs.walk_TableOf.{TableOf}
use Rattle.ctr_pvs.specs.Table.{told_of, owner_of}
use Rattle.ctr_pvs.specs.walk_Tables.{kinds_said}
use Rattle.ctr_pvs.specs.Reading.{versions_there, kept_on_check, kept_at_check, row_on_check, row_check_at}

-- ---- in the area

-- a slot whose head gives way to this version, in the slot or off it
abbrev pub behind_head : Older → Slot → Option RowVersion → Slot
behind_head next slot (Some v) = record slot { head = v; previous = None }
behind_head next slot None =
    if next.used then record slot { head = next.version; pointer = next.pointer } else free_slot

-- The slot whose head gives way to the next version of its chain: the previous one; or that of the
-- version entry at its pointer, which isn't in the chain any more; where there is neither, it is
-- free.
abbrev pub without_head : (Place → Older) → Slot → Slot
without_head older slot = behind_head (older slot.pointer) slot slot.previous

-- the version entry at the pointer of a used slot is of the slot's key, as it is in a sound area
abbrev pub KeepsKey : Area → Place → Type 0
KeepsKey area at = (area.slot at).used ≡ true → (area.older (area.slot at).pointer).used ≡ true
    → (area.older (area.slot at).pointer).key ≡ (area.slot at).key

-- ---- in the bytes

-- a version entry, where it is used
abbrev pub if_used : VersionEntry → Option VersionEntry
if_used entry = if entry.used == 1 then Some entry else None

-- the version entry at a place, where the place is one and the entry is used, in rows so wide
abbrev pub entry_at_place : ℕ → (ℕ → List ℕ) → Place → Option VersionEntry
entry_at_place w pages at =
    if at.page == 0 then None else if_used (older_at w at.slot (pages at.page))

-- a free slot of rows so wide
abbrev pub blank_slot : ℕ → RowSlot
blank_slot w = record {
  used = 0;
  key = pos 0;
  head = record { xid = 0; tombstone = 0; payload = replicate w 0 };
  previous = None;
  older = nowhere;
}

-- a slot without its head and without a previous version: the version entry behind it, or none
abbrev pub slot_by_entry : ℕ → RowSlot → Option VersionEntry → RowSlot
slot_by_entry w s None = blank_slot w
slot_by_entry w s (Some e) = record s { head = e.version; previous = None; older = e.older }

-- a slot without its head: the previous version, or else by the version entry behind it
abbrev pub slot_without_head : ℕ → RowSlot → Option VersionEntry → Option Version → RowSlot
slot_without_head w s next (Some v) = record s { head = v; previous = None }
slot_without_head w s next None = slot_by_entry w s next

-- the slot at a place, in rows so wide, without its head
abbrev pub slot_reverted : ℕ → (ℕ → List ℕ) → RowSlot → RowSlot
slot_reverted w pages s = slot_without_head w s (entry_at_place w pages s.older) s.previous

-- the bytes of a slot whose head is its previous version, where it has one
abbrev pub MadePrevious : ℕ → RowSlot → Option Version → Option (List ℕ) → Type 0
MadePrevious w s None None = Unit {0}
MadePrevious w s None (Some bytes) = ⊥
MadePrevious w s (Some v) None = ⊥
MadePrevious w s (Some v) (Some bytes) =
    take (slot_size w) bytes ≡ slot_bytes w (record s { head = v; previous = None })

-- what a slot says that is to lose its head
pub record MadeFrom (w : ℕ) (s : RowSlot) (f : FromSlot) : Type 0 where
  pub x : f.x ≡ s.head.xid
  pub used : f.used ≡ s.used
  pub key : f.key ≡ s.key
  pub older : f.older ≡ s.older
  pub made : MadePrevious w s s.previous f.made

-- ---- the record

-- a transaction loses the head of a row: these bytes are laid over its place
abbrev pub lost_record : ℕ → Place → ℕ → List ℕ → Record
lost_record x at w bytes = Revert x (laid_on_place at (slot_size w) bytes)

-- what is wrong with the version entry behind a slot, which is read where the slot has no previous
-- version and has a pointer
abbrev pub behind_check : ℕ → (ℕ → List ℕ) → ℕ → Option Version → Place → Result ⊤ BadChain
behind_check counted pages e (Some v) older = Ok tt
behind_check counted pages e None older =
    if older.page == 0 then Ok tt else told_of older.page (kept_at_check counted pages e older)

-- the slot at a place, by the width of its page's rows
abbrev pub row_slot_at : (ℕ → List ℕ) → Place → RowSlot
row_slot_at pages at = slot_at (width_on pages at.page) at.slot (pages at.page)

-- what is wrong on the way: with the slot and its table; with the version entry behind it
abbrev pub revert_check : ℕ → (ℕ → List ℕ) → Place → Result ⊤ BadChain
revert_check counted pages at =
    row_check_at counted pages at
    >>= λ _. behind_check counted pages (owner_of (pages at.page)) (row_slot_at pages at).previous
    (row_slot_at pages at).older

-- ---- on the way

-- the page of rows at a place was read, by its table: what the slot says, or its damage
abbrev pub SlotSaidFrom : ℕ → TableOf → Place → List ℕ → Result FromSlot BadRecord → Type 0
SlotSaidFrom counted t at page (Ok f) =
    (row_on_check counted t.entry (kinds_said t) at.slot page ≡ Ok tt)
    × IsSlot (kinds_width (kinds_said t)) (slot_at (kinds_width (kinds_said t)) at.slot page)
    × MadeFrom (kinds_width (kinds_said t)) (slot_at (kinds_width (kinds_said t)) at.slot page) f
SlotSaidFrom counted t at page (Err bad) =
    row_on_check counted t.entry (kinds_said t) at.slot page ≡ Err bad

-- bytes of a slot of rows so wide, whose own used byte and key are these, without its head: by the
-- version entry behind it
abbrev pub ByEntry : ℕ → ℕ → ℤ → Option VersionEntry → List ℕ → Type 0
ByEntry w used key next bytes = (s : RowSlot) → s.used ≡ used → s.key ≡ key
    → take (slot_size w) bytes ≡ slot_bytes w (slot_by_entry w s next)

-- where the version entry isn't used there are no bytes by it
abbrev pub MadeByEntry : ℕ → ℕ → ℤ → Option VersionEntry → Option (List ℕ) → Type 0
MadeByEntry w used key next None = next ≡ None
MadeByEntry w used key next (Some bytes) = ByEntry w used key next bytes

-- the page of the version entry behind a slot was read, by the table: bytes by it, or its damage
abbrev pub EntrySaidFrom : ℕ → TableOf → FromSlot → List ℕ → Result (Option (List ℕ)) BadRecord
    → Type 0
EntrySaidFrom counted t f page (Ok made) =
    (versions_there counted t.entry f.older.page page ≡ Ok tt)
    × (kept_on_check counted t.entry (kinds_said t) f.older.slot page ≡ Ok tt)
    × IsEntry (kinds_width (kinds_said t)) (older_at (kinds_width (kinds_said t)) f.older.slot page)
    × MadeByEntry (kinds_width (kinds_said t)) f.used f.key
    (if_used (older_at (kinds_width (kinds_said t)) f.older.slot page)) made
EntrySaidFrom counted t f page (Err bad) =
    (versions_there counted t.entry f.older.page page
    >>= λ _. kept_on_check counted t.entry (kinds_said t) f.older.slot page) ≡ Err bad

-- The bytes are those that were made, or those of a free slot where none were made.
abbrev pub IsMadeOr : ℕ → Option (List ℕ) → List ℕ → Type 0
IsMadeOr w (Some made) bytes = bytes ≡ made
IsMadeOr w None bytes = take (slot_size w) bytes ≡ slot_bytes w (blank_slot w)

-- The bytes are those of the slot without its head, of which this is said.
pub record LosesHead (w : ℕ) (pages : ℕ → List ℕ) (f : FromSlot) (bytes : List ℕ) : Type 0 where
  pub bytes_are : (s : RowSlot) → MadeFrom w s f → bytes ≡ slot_bytes w (slot_reverted w pages s)
  pub fits : (s : RowSlot) → MadeFrom w s f → IsSlot w s → IsSlot w (slot_reverted w pages s)

-- the end of it, by what the slot says
abbrev pub EndsBehind : ℕ → (ℕ → List ℕ) → TableOf → FromSlot → Result ⊤ BadChain → Type 0
EndsBehind counted pages t f r =
    kinds_said t ≡ kinds_at (area_of pages) t.entry → (s : RowSlot)
    → MadeFrom (kinds_width (kinds_said t)) s f
    → r ≡ behind_check counted pages t.entry s.previous s.older

-- the bytes are found; or the version entry is damaged
abbrev pub BytesSaid : ℕ → (ℕ → List ℕ) → TableOf → FromSlot → Result (List ℕ) BadChain → Type 0
BytesSaid counted pages t f (Ok bytes) = EndsBehind counted pages t f (Ok tt)
    × LosesHead (kinds_width (kinds_said t)) pages f
    (take (slot_size (kinds_width (kinds_said t))) bytes)
BytesSaid counted pages t f (Err bad) = EndsBehind counted pages t f (Err bad)

-- ---- what is left

-- The transaction is that of the head of the slot at a place, and the bytes are those of the slot
-- without it, in rows so wide.
pub record RevertsHead (pages : ℕ → List ℕ) (at : Place) (x w : ℕ) (bytes : List ℕ) : Type 0 where
  pub wide : w ≡ width_on pages at.page
  pub head : x ≡ (row_slot_at pages at).head.xid
  pub bytes_are : bytes ≡ slot_bytes w (slot_reverted w pages (row_slot_at pages at))
  pub fits : IsSlot w (slot_reverted w pages (row_slot_at pages at))

-- the bytes that are laid over a slot
abbrev pub bytes_laid : SlotLaid → List ℕ
bytes_laid l = take (slot_size l.w) l.bytes

-- All passes, on a page of rows, and this is laid over the slot.
pub record PassesRow (counted : ℕ) (pages : ℕ → List ℕ) (at : Place) (l : SlotLaid) : Type 0 where
  pub passes : revert_check counted pages at ≡ Ok tt
  pub behind_catalog : 3 ≤ at.page
  pub of_kind : (header_on pages at.page).kind ≡ 1
  pub head : RevertsHead pages at l.x l.w (bytes_laid l)

-- so it is found; or what is wrong is
abbrev pub EndsRow : ℕ → (ℕ → List ℕ) → Place → Result SlotLaid BadChain → Type 0
EndsRow counted pages at (Ok l) = PassesRow counted pages at l
EndsRow counted pages at (Err bad) = revert_check counted pages at ≡ Err bad

-- A slot that is laid has a place of this number on a page.
pub record LiesThere (number : ℕ) (l : SlotLaid) : Type 0 where
  pub narrow : l.w ≤ 2048
  pub small : slot_size l.w ≤ 2072
  pub inside : start_of (slot_size l.w) number + slot_size l.w ≤ PAGE_SIZE

-- Where the call ends: all passes; or what is wrong is told; or all passes, and the record that
-- takes the head was refused.
abbrev pub EndsReverting : {D : Type 0} → (BadChain → StoreFault) → Place → View D → View D
    → Result ⊤ StoreFault → Type 0
EndsReverting told at a b (Ok x) = revert_check a.now.counted (pages_in a.now) at ≡ Ok tt
EndsReverting told at a b (Err cause) =
    EndsTold {T = ⊤} told (λ r. r ≡ revert_check a.now.counted (pages_in a.now) at) (Err cause)
    ⊎ ((revert_check a.now.counted (pages_in a.now) at ≡ Ok tt)
    × (x : ℕ) × (w : ℕ) × (bytes : List ℕ) × RevertsHead (pages_in a.now) at x w bytes
    × WhyNotLogged (lost_record x at w bytes) a b cause)

-- Its record is logged, by what the pages say; where something is wrong pages were read; where the
-- store refused nothing is logged.
abbrev pub RevertsRow : {D : Type 0} → Image → Ghosts D → Place → View D → View D
    → Result ⊤ StoreFault → Type 0
RevertsRow first g at a b (Ok t) =
    (x : ℕ) × (w : ℕ) × (bytes : List ℕ)
    × LogsOne {T = ⊤} first g (lost_record x at w bytes) a b (Ok tt)
    × (IsTrue g.tells → IsSoundImage first → RevertsHead (pages_in a.now) at x w bytes)
RevertsRow first g at a b (Err e) = ReadsPages {T = ⊤} first g a b (Err e)
    ⊎ ((x : ℕ) × (w : ℕ) × (bytes : List ℕ)
    × LogsOne {T = ⊤} first g (lost_record x at w bytes) a b (Err e))
