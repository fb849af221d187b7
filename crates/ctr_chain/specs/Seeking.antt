-- The search through the versions of a row, as they are read: the head and the previous version in
-- the slot, and the others along the pointers. Each is checked where it is read.
use Rattle.std.specs.Prelude.{◌≡◌, ◌≢◌, ◌⊎◌, true, false, ℕ, zero, suc, ◌*◌, ◌==◌, Bool, List, Option, None, Some, Result, Ok, Err, if◌then◌else◌}
use Rattle.std.specs.Option.{option_map}
use Rattle.ctr_bytes.specs.Following.{◌>>=◌}
use Rattle.ctr_page.specs.declared.walk.BadChain.{BadChain}
use Rattle.ctr_page.specs.declared.walk.BadChain.TheVariants.{TooLong}
use Rattle.ctr_page.specs.declared.rows.Place.{Place}
use Rattle.ctr_page.specs.Places.{kept_size, room_for}
use Rattle.ctr_page.specs.Columns.{kinds_width}
use Rattle.ctr_page.specs.Walking.{most_in_chain}
use Rattle.ctr_names.specs.area_Areas.{RowVersion, Slot, Area}
use Rattle.ctr_pvs.specs.area_Reading.{area_of}
use Rattle.ctr_names.specs.area_Chains.{chain_of}
use Rattle.ctr_pvs.specs.area_Checked.{kinds_at}
use Rattle.ctr_pvs.specs.Table.{told_of, owner_of}
use Rattle.ctr_pvs.specs.Reading.{kept_at_check, row_check_at}
use Rattle.ctr_chain.specs.Seeing.{first_version, first_xid}
use Rattle.ctr_chain.specs.declared.looking.SlotLook.{SlotLook}
use Rattle.ctr_chain.specs.declared.seeking.Found.{Found}
use Rattle.ctr_chain.specs.declared.seeking.VersionAt.{VersionAt}
use Rattle.ctr_chain.specs.declared.seeking.VersionAt.TheVariants.{Head, Previous, Kept}

-- The version entries of a table: where so many pages are counted, by its entry of the catalog.
pub record EntriesOf : Type 0 where
  pub counted : ℕ
  pub pages : ℕ → List ℕ
  pub entry : ℕ

-- the most version entries that a chain can have: as many as fit on the counted pages
abbrev pub most_entries : EntriesOf → ℕ
most_entries r =
    most_in_chain r.counted * room_for
    (kept_size (kinds_width (kinds_at (area_of r.pages) r.entry)))

-- Where the search along the pointers ends, from a place on behind a page, of which so many may be
-- left: at the first version that is sought; at the damage of one; or where there is no more. One
-- too many is damage of the last page that was read.
abbrev pub sought_along : (ℕ → Bool) → EntriesOf → ℕ → ℕ → Place → Result (Option Found) BadChain
sought_along sought r zero last at =
    if at.page == 0 then Ok None else Err (TooLong last (most_entries r))
sought_along sought r (suc n) last at =
    if at.page == 0 then Ok None else
    (told_of at.page (kept_at_check r.counted r.pages r.entry at) >>= λ _.
    if sought ((area_of r.pages).older at).version.0
    then Ok (Some (record { xid = ((area_of r.pages).older at).version.0; at = Kept at }))
    else sought_along sought r n at.page ((area_of r.pages).older at).pointer)

-- the transaction of a version that may be there, 0 for none
abbrev pub xid_if_any : Option RowVersion → ℕ
xid_if_any None = 0
xid_if_any (Some v) = v.0

-- The search through the versions of a slot on a page, of which the first two are in it.
abbrev pub sought_in : (ℕ → Bool) → EntriesOf → ℕ → Slot → Result (Option Found) BadChain
sought_in sought r p slot =
    if sought slot.head.0 then Ok (Some (record { xid = slot.head.0; at = Head })) else
    if sought (xid_if_any slot.previous)
    then Ok (Some (record { xid = xid_if_any slot.previous; at = Previous })) else
    sought_along sought r (most_entries r) p slot.pointer

-- What a slot alone says of the search: it is found there; it isn't, and nothing is kept behind the
-- slot; or the search goes on there.
abbrev pub FoundIn : (ℕ → Bool) → SlotLook → Option (Option Found) → Type 0
FoundIn sought l (Some (Some f)) =
    ((f ≡ record { xid = l.head; at = Head }) × (sought l.head ≡ true))
    ⊎ ((f ≡ record { xid = l.previous; at = Previous }) × (sought l.head ≡ false)
    × (sought l.previous ≡ true))
FoundIn sought l (Some None) =
    (sought l.head ≡ false) × (sought l.previous ≡ false) × (l.older.page ≡ 0)
FoundIn sought l None = (sought l.head ≡ false) × (sought l.previous ≡ false) × (l.older.page ≢ 0)

-- the table's version entries, by the entry of the catalog that a page names
abbrev pub entries_on : ℕ → (ℕ → List ℕ) → ℕ → EntriesOf
entries_on counted pages p =
    record { counted = counted; pages = pages; entry = owner_of (pages p) }

-- The search through the versions of the row at a place: its page and its table's entry of the
-- catalog are read first.
abbrev pub sought_at : (ℕ → Bool) → ℕ → (ℕ → List ℕ) → Place → Result (Option Found) BadChain
sought_at sought counted pages at =
    row_check_at counted pages at
    >>= λ _. sought_in sought (entries_on counted pages at.page) at.page ((area_of pages).slot at)

-- ---- what is found

-- the version that is found of the row at a place
abbrev pub version_found : Area → Place → VersionAt → Option RowVersion
version_found area at Head = Some (area.slot at).head
version_found area at Previous = (area.slot at).previous
version_found area at (Kept p) = Some (area.older p).version

-- The search tells the first version of the row's chain that is sought, by its transaction and its
-- place; or there is none.
abbrev pub FindsFirst : (ℕ → Bool) → Area → Place → Option Found → Type 0
FindsFirst sought area at None = first_version sought (chain_of area.older (area.slot at)) ≡ None
FindsFirst sought area at (Some f) =
    (first_version sought (chain_of area.older (area.slot at)) ≡ version_found area at f.at)
    × (first_xid sought (chain_of area.older (area.slot at)) ≡ Some f.xid)

-- the transaction of what is found
abbrev pub xid_found : Option Found → Option ℕ
xid_found found = option_map (λ (f : Found). f.xid) found

-- How a search ends, with the transaction of what it found in place of the version.
abbrev pub xids_found : Result (Option Found) BadChain → Result (Option ℕ) BadChain
xids_found (Ok found) = Ok (xid_found found)
xids_found (Err bad) = Err bad
