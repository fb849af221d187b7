-- A row without its head, by what was read of it.
use Rattle.std.proofs.Common.{◌≡◌, ℕ, ◌+◌, ◌≤◌, cond, Bool, true, false, List, length, take, drop, Option, None, Some, Result, Ok, refl, sym, ◌∙◌, ap, subst}
use Rattle.std.specs.Prelude.{◌==◌, ⊤}
use Rattle.std.specs.Option.{option_map}
use Rattle.std.proofs.lemmas.Bool.{eq-eqb, eqb-true}
use Rattle.ctr_versions.proofs.Keys.{known}
use Rattle.ctr_types.specs.declared.value.Column.{Column}
use Rattle.ctr_value.specs.Payload.{width}
use Rattle.ctr_bytes.specs.Following.{◌>>=◌}
use Rattle.ctr_page.specs.declared.walk.BadChain.{BadChain}
use Rattle.ctr_page.specs.declared.rows.Place.{Place}
use Rattle.ctr_page.specs.declared.rows.Version.{Version}
use Rattle.ctr_page.specs.declared.rows.RowSlot.{RowSlot}
use Rattle.ctr_page.specs.declared.rows.VersionEntry.{VersionEntry}
use Rattle.ctr_page.specs.Places.{slot_size, kept_size, start_of}
use Rattle.ctr_page.specs.Reading.{slot_at, older_at}
use Rattle.ctr_page.specs.Columns.{kinds_width, columns_in}
use Rattle.ctr_page.specs.Making.{slot_bytes, IsSlot}
use Rattle.ctr_pvs.specs.area_Areas.{Slot, Older, Area, free_slot, free_older}
use Rattle.ctr_pvs.specs.area_Reading.{version_said, slot_said, older_said, entry_bytes, header_on, columns_on, width_on, size_on, area_of}
use Rattle.ctr_pvs.specs.area_Changes.{IsPlaceOf}
use Rattle.ctr_pvs.specs.walk_TableOf.{TableOf}
use Rattle.ctr_pvs.specs.Table.{told_of, owner_of, TableSaid}
use Rattle.ctr_pvs.specs.walk_Tables.{kinds_said}
use Rattle.ctr_pvs.specs.Reading.{kept_at_check}
use Rattle.ctr_pvs.proofs.Told.{IsPageOf, page_of_table, row_passes, older_read, told_ok}
use Rattle.ctr_revert.specs.declared.slots.FromSlot.{FromSlot}
use Rattle.ctr_revert.specs.Reverting.{behind_head, without_head, KeepsKey, if_used, entry_at_place, slot_by_entry, slot_without_head, slot_reverted, SlotSaidFrom, LosesHead, behind_check, row_slot_at, revert_check, EndsBehind, BytesSaid, RevertsHead, PassesRow}

module _ (counted : ℕ) (pages : ℕ → List ℕ) (at : Place) (t : TableOf) (f : FromSlot) (said : TableSaid 1 counted pages at.page (Ok t)) (from : SlotSaidFrom counted t at (pages at.page) (Ok f)) where
  abbrev w : ℕ
  w = kinds_width (kinds_said t)

  abbrev s : RowSlot
  s = slot_at w at.slot (pages at.page)

  page : IsPageOf 1 pages at.page t
  page = page_of_table 1 counted pages at.page t said

  pub ends_row : (r : Result ⊤ BadChain) → EndsBehind counted pages t f r → r ≡ revert_check counted pages at
  ends_row r ends =
      let behind : ℕ → RowSlot → Result ⊤ BadChain = λ e x. behind_check counted pages e x.previous x.older in
      let rest : ⊤ → Result ⊤ BadChain = λ _. behind (owner_of (pages at.page)) (row_slot_at pages at) in
      ends said.2 s from.2
      ∙ ap (λ e. behind e s) said.1
      ∙ ap (λ v. behind (owner_of (pages at.page)) (slot_at v at.slot (pages at.page))) page.wide
      ∙ sym (ap (λ (x : Result ⊤ BadChain). x >>= rest) (row_passes counted pages at t said from.0))

  pub head_lost : (bytes : List ℕ) → LosesHead w pages f bytes → RevertsHead pages at f.x w bytes
  head_lost bytes loses = record {
    wide = page.wide;
    head = from.2.x ∙ ap (λ v. (slot_at v at.slot (pages at.page)).head.xid) page.wide;
    bytes_are = loses.bytes_are s from.2 ∙ ap (λ v. slot_bytes w (slot_reverted w pages (slot_at v at.slot (pages at.page)))) page.wide;
    fits = subst (λ v. IsSlot w (slot_reverted w pages (slot_at v at.slot (pages at.page)))) page.wide (loses.fits s from.2 from.1);
  }

  -- what is laid over it
  pub row_passed : (bytes : List ℕ) (v : ℕ) → v ≡ w → BytesSaid counted pages t f (Ok bytes) → PassesRow counted pages at (record { x = f.x; w = v; bytes = bytes })
  row_passed bytes v is found =
      subst (λ u. PassesRow counted pages at (record { x = f.x; w = u; bytes = bytes })) (sym is)
      (record { passes = sym (ends_row (Ok tt) found.0); behind_catalog = page.behind; of_kind = page.of_kind; head = head_lost (take (slot_size w) bytes) found.1 })

-- ---- in the area

-- a pointer to no page leads to nothing
pub nothing_at : (pages : ℕ → List ℕ) (q : Place) → q.page ≡ 0 → (area_of pages).older q ≡ free_older
nothing_at pages q none = ap (λ p. cond ((header_on pages p).kind == 2) (older_said (columns_on pages p) (older_at (width_on pages p) q.slot (pages p))) free_older) none

module _ (counted : ℕ) (pages : ℕ → List ℕ) (at : Place) (rows : (header_on pages at.page).kind ≡ 1) where
  abbrev cs : List Column
  cs = columns_on pages at.page

  abbrev wide : ℕ
  wide = width_on pages at.page

  abbrev row : RowSlot
  row = row_slot_at pages at

  abbrev area : Area
  area = area_of pages

  -- what a used slot says, where this is its previous version
  abbrev there : Option Version → Slot
  there v = record { used = true; key = row.key; head = version_said cs row.key row.head; previous = option_map (version_said cs row.key) v; pointer = row.older }

  said_here : area.slot at ≡ slot_said cs row
  said_here = ap (λ b. cond b (slot_said cs row) free_slot) (eq-eqb (header_on pages at.page).kind 1 rows)

  is_used : (area.slot at).used ≡ true → row.used ≡ 1
  is_used used = known (row.used == 1)
      (λ is. eqb-true row.used 1 is)
      (λ isnt. absurd (let e : false ≡ true = sym (ap (λ b. (cond b (there row.previous) free_slot).used) isnt) ∙ sym (ap (λ (x : Slot). x.used) said_here) ∙ used in cc))

  module _ (used : row.used ≡ 1) where
    slot_is : area.slot at ≡ there row.previous
    slot_is = said_here ∙ ap (λ b. cond b (there row.previous) free_slot) (eq-eqb row.used 1 used)

    -- the slot by another head
    by_head : (v : Version) (q : Place) → slot_said cs (record row { head = v; previous = None; older = q }) ≡ record { used = true; key = row.key; head = version_said cs row.key v; previous = None; pointer = q }
    by_head v q = ap (λ b. cond b (record { used = true; key = row.key; head = version_said cs row.key v; previous = None; pointer = q }) free_slot) (eq-eqb row.used 1 used)

    module _ (keyed : (area.older row.older).used ≡ true → (area.older row.older).key ≡ row.key) where
      abbrev entry : VersionEntry
      entry = older_at wide row.older.slot (pages row.older.page)

      abbrev old : Older
      old = record { used = true; key = entry.key; version = version_said cs entry.key entry.version; pointer = entry.older }

      read : kept_at_check counted pages (header_on pages at.page).entry row.older ≡ Ok tt → area.older row.older ≡ older_said cs entry
      read kept =
          let is = older_read counted pages (header_on pages at.page).entry row.older kept in
          let same : columns_on pages row.older.page ≡ cs = ap (λ e. columns_in (entry_bytes pages e)) is.1 in
          ap (λ b. cond b (older_said (columns_on pages row.older.page) (older_at (width_on pages row.older.page) row.older.slot (pages row.older.page))) free_older) (eq-eqb (header_on pages row.older.page).kind 2 is.0)
          ∙ ap (λ (ks : List Column). older_said ks (older_at (width (drop 1 ks)) row.older.slot (pages row.older.page))) same

      by_entry : (b : Bool) → (entry.used == 1) ≡ b → area.older row.older ≡ older_said cs entry → slot_said cs (slot_by_entry wide row (cond b (Some entry) None)) ≡ behind_head (area.older row.older) (there None) None
      by_entry true is reads =
          let said : area.older row.older ≡ old = reads ∙ ap (λ b. cond b old free_older) is in
          let same : entry.key ≡ row.key = sym (ap (λ (o : Older). o.key) said) ∙ keyed (ap (λ (o : Older). o.used) said) in
          by_head entry.version entry.older
          ∙ ap (λ k. record { used = true; key = row.key; head = version_said cs k entry.version; previous = None; pointer = entry.older }) (sym same)
          ∙ ap (λ (o : Older). behind_head o (there None) None) (sym said)
      by_entry false is reads = ap (λ (o : Older). behind_head o (there None) None) (sym (reads ∙ ap (λ b. cond b old free_older) is))

      lost : (v : Option Version) → behind_check counted pages (header_on pages at.page).entry v row.older ≡ Ok tt
          → slot_said cs (slot_without_head wide row (entry_at_place wide pages row.older) v) ≡ behind_head (area.older row.older) (there v) (option_map (version_said cs row.key) v)
      lost (Some v) passes = by_head v row.older
      lost None passes = known (row.older.page == 0)
          (λ none.
          ap (λ b. slot_said cs (slot_by_entry wide row (cond b None (if_used entry)))) none
          ∙ ap (λ (o : Older). behind_head o (there None) None) (sym (nothing_at pages row.older (eqb-true row.older.page 0 none))))
          (λ some.
          let kept = told_ok row.older.page (kept_at_check counted pages (header_on pages at.page).entry row.older)
          (sym (ap (λ b. cond b (Ok tt) (told_of row.older.page (kept_at_check counted pages (header_on pages at.page).entry row.older))) some) ∙ passes) in
          ap (λ b. slot_said cs (slot_by_entry wide row (cond b None (if_used entry)))) some ∙ by_entry (entry.used == 1) refl (read kept))

  -- whose its head is
  pub head_said : (area.slot at).used ≡ true → row.head.xid ≡ (area.slot at).head.0
  head_said is = sym (ap (λ (x : Slot). x.head.0) (slot_is (is_used is)))

  pub row_reverted : behind_check counted pages (header_on pages at.page).entry row.previous row.older ≡ Ok tt → KeepsKey area at → (area.slot at).used ≡ true
      → slot_said cs (slot_reverted wide pages row) ≡ without_head area.older (area.slot at)
  row_reverted passes keeps is =
      let used = is_used is in
      let keyed = subst (λ (x : Slot). x.used ≡ true → (area.older x.pointer).used ≡ true → (area.older x.pointer).key ≡ x.key) (slot_is used) keeps refl in
      lost used keyed row.previous passes ∙ ap (without_head area.older) (sym (slot_is used))

  pub row_place : start_of (slot_size wide) at.slot + slot_size wide ≤ 4096 → 3 ≤ at.page → length (pages at.page) ≡ 4096 → IsPlaceOf 1 pages at
  row_place inside behind whole =
      let size : slot_size wide ≡ size_on pages at.page = sym (ap (λ b. cond b (slot_size wide) (kept_size wide)) (eq-eqb (header_on pages at.page).kind 1 rows)) in
      record {
        behind_catalog = behind;
        of_kind = rows;
        inside = subst (λ n. start_of n at.slot + n ≤ length (pages at.page)) size (subst (λ l. start_of (slot_size wide) at.slot + slot_size wide ≤ l) (sym whole) inside);
      }
