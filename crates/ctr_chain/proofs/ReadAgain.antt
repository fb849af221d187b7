-- The version that a search found passes its checks where it stands, and its row is the one that is seen.
use Rattle.std.proofs.Common.{◌≡◌, ℕ, zero, suc, ◌<◌, ◌≤◌, cond, Bool, true, false, List, Option, None, Some, Result, Ok, Err, refl, sym, ◌∙◌, ap, subst, arith}
use Rattle.std.specs.Prelude.{◌==◌, ⊤}
use Rattle.ctr_versions.proofs.Keys.{known}
use Rattle.ctr_types.specs.declared.memory.OutOfMemory.{OutOfMemory}
use Rattle.ctr_types.specs.declared.value.Row.{Row}
use Rattle.ctr_bytes.specs.Following.{◌>>=◌}
use Rattle.ctr_rec.specs.declared.decoding.BadRecord.{BadRecord}
use Rattle.ctr_rec.proofs.Reading.{bind_ok}
use Rattle.ctr_page.specs.declared.checks.Chain.TheVariants.{Versions}
use Rattle.ctr_page.specs.declared.walk.BadChain.{BadChain}
use Rattle.ctr_page.specs.declared.walk.BadChain.TheVariants.{TooLong}
use Rattle.ctr_page.specs.declared.rows.Place.{Place}
use Rattle.ctr_page.specs.Reading.{slot_at, older_at}
use Rattle.ctr_page.specs.Columns.{kinds_width}
use Rattle.ctr_page.specs.Damage.{header_check}
use Rattle.ctr_names.specs.area_Areas.{Slot, Older, Area}
use Rattle.ctr_pvs.specs.area_Reading.{area_of, columns_on}
use Rattle.ctr_pvs.specs.area_Checked.{kinds_at}
use Rattle.ctr_pvs.specs.walk_TableOf.{TableOf}
use Rattle.ctr_pvs.specs.Table.{there_check, told_of, TableSaid}
use Rattle.ctr_pvs.specs.walk_Tables.{kinds_said}
use Rattle.ctr_pvs.specs.Reading.{kept_on_check, row_on_check, kept_at_check, row_check_at}
use Rattle.ctr_pvs.proofs.Told.{IsPageOf, page_of_table, told_ok, chain_ok, within}
use Rattle.ctr_chain.specs.declared.seeking.Found.{Found}
use Rattle.ctr_chain.specs.declared.seeking.VersionAt.{VersionAt}
use Rattle.ctr_chain.specs.declared.seeking.VersionAt.TheVariants.{Head, Previous, Kept}
use Rattle.ctr_chain.specs.Rows.{head_row, previous_row, kept_row, GivesRow}
use Rattle.ctr_chain.specs.Reading.{place_of_version, found_check, row_there, RowSaidAt}
use Rattle.ctr_chain.specs.Seeking.{EntriesOf, most_entries, sought_along, xid_if_any, sought_in, entries_on, sought_at, version_found}
use Rattle.ctr_chain.specs.Visible.{visible_row}
use Rattle.ctr_chain.proofs.Chain.{row_found}
use Rattle.ctr_chain.proofs.RowsSaid.{row_if, version_seen, head_same, previous_same, kept_same}
use Rattle.ctr_chain.proofs.Slots.{row_told, slot_reads}
use Rattle.ctr_chain.proofs.Steps.{kinds_read, reads}

-- a version off its row passes its checks
abbrev PassesAt : EntriesOf → VersionAt → Type 0
PassesAt r Head = Unit {0}
PassesAt r Previous = Unit {0}
PassesAt r (Kept p) = kept_at_check r.counted r.pages r.entry p ≡ Ok tt

-- where the search ends with a version
abbrev ended : Found → Result (Option Found) BadChain
ended f = Ok (Some f)

same_end : (a b : Found) → ended a ≡ ended b → a ≡ b
same_end a b is = cc is

module _ (sought : ℕ → Bool) (r : EntriesOf) where
  passes_as : (a b : Found) → ended a ≡ ended b → PassesAt r a.at → PassesAt r b.at
  passes_as a b is passes = subst (λ (f : Found). PassesAt r f.at) (same_end a b is) passes

  abbrev older : Place → Older
  older = (area_of r.pages).older

  along_passes : (n last : ℕ) (at : Place) (f : Found) → sought_along sought r n last at ≡ Ok (Some f) → PassesAt r f.at
  along_passes zero last at f is = known (at.page == 0)
      (λ none. absurd (let e = sym (ap (λ b. cond b (Ok None) (Err (TooLong last (most_entries r)))) none) ∙ is in cc))
      (λ some. absurd (let e = sym (ap (λ b. cond b (Ok None) (Err (TooLong last (most_entries r)))) some) ∙ is in cc))
  along_passes (suc n) last at f is = known (at.page == 0)
      (λ none. absurd (let e = sym (ap (λ b. cond b (Ok None) goes) none) ∙ is in cc))
      (λ some.
      let on = chain_ok (told_of at.page (kept_at_check r.counted r.pages r.entry at)) (λ _. here) (Some f) (sym (ap (λ b. cond b (Ok None) goes) some) ∙ is) in
      by (along_passes n at.page (older at).pointer f) (sought (older at).version.0) refl (told_ok at.page (kept_at_check r.counted r.pages r.entry at) on.1) on.2)
    where
      this : Found
      this = record { xid = (older at).version.0; at = Kept at }

      here : Result (Option Found) BadChain
      here = cond (sought (older at).version.0) (Ok (Some this)) (sought_along sought r n at.page (older at).pointer)

      goes : Result (Option Found) BadChain
      goes = told_of at.page (kept_at_check r.counted r.pages r.entry at) >>= λ _. here

      by : (sought_along sought r n at.page (older at).pointer ≡ Ok (Some f) → PassesAt r f.at) → (b : Bool) → sought (older at).version.0 ≡ b → kept_at_check r.counted r.pages r.entry at ≡ Ok tt → here ≡ Ok (Some f) → PassesAt r f.at
      by more true t passes e = passes_as this f (sym (ap (λ b. cond b (Ok (Some this)) (sought_along sought r n at.page (older at).pointer)) t) ∙ e) passes
      by more false t passes e = more (sym (ap (λ b. cond b (Ok (Some this)) (sought_along sought r n at.page (older at).pointer)) t) ∙ e)

  in_passes : (p : ℕ) (slot : Slot) (f : Found) → sought_in sought r p slot ≡ Ok (Some f) → PassesAt r f.at
  in_passes p slot f is = by (sought slot.head.0) (sought (xid_if_any slot.previous)) refl refl
    where
      head : Found
      head = record { xid = slot.head.0; at = Head }

      previous : Found
      previous = record { xid = xid_if_any slot.previous; at = Previous }

      behind : Result (Option Found) BadChain
      behind = sought_along sought r (most_entries r) p slot.pointer

      by : (b c : Bool) → sought slot.head.0 ≡ b → sought (xid_if_any slot.previous) ≡ c → PassesAt r f.at
      by true c t u = passes_as head f (sym (ap (λ x. cond x (Ok (Some head)) (cond (sought (xid_if_any slot.previous)) (Ok (Some previous)) behind)) t) ∙ is) tt
      by false true t u = passes_as previous f (sym (ap (λ x. cond x (Ok (Some head)) (cond (sought (xid_if_any slot.previous)) (Ok (Some previous)) behind)) t ∙ ap (λ x. cond x (Ok (Some previous)) behind) u) ∙ is) tt
      by false false t u = along_passes (most_entries r) p slot.pointer f (sym (ap (λ x. cond x (Ok (Some head)) (cond (sought (xid_if_any slot.previous)) (Ok (Some previous)) behind)) t ∙ ap (λ x. cond x (Ok (Some previous)) behind) u) ∙ is)

module _ (sought : ℕ → Bool) (counted : ℕ) (pages : ℕ → List ℕ) (at : Place) (t : TableOf) (said : TableSaid 1 counted pages at.page (Ok t)) (nobody : sought 0 ≡ false) (some : 0 < counted) (few : counted ≤ 30000) (below : at.page < counted) where
  abbrev area : Area
  area = area_of pages

  -- the slot passes, and a version entry does
  slot_passes : (found : Option Found) → sought_at sought counted pages at ≡ Ok found → row_on_check counted t.entry (kinds_said t) at.slot (pages at.page) ≡ Ok tt
  slot_passes found is =
      let row = (chain_ok (row_check_at counted pages at) (λ _. sought_in sought (entries_on counted pages at.page) at.page (area.slot at)) found is).1 in
      told_ok at.page (row_on_check counted t.entry (kinds_said t) at.slot (pages at.page)) (sym (row_told counted pages at t said (row_on_check counted t.entry (kinds_said t) at.slot (pages at.page)) refl) ∙ row)

  module _ (x : ℕ) where
    abbrev Is : VersionAt → Type 0
    Is v = sought_at sought counted pages at ≡ Ok (Some (record { xid = x; at = v }))

    entry_passes : (p : Place) → Is (Kept p) → kept_at_check counted pages t.entry p ≡ Ok tt
    entry_passes p is =
        let behind = (chain_ok (row_check_at counted pages at) (λ _. sought_in sought (entries_on counted pages at.page) at.page (area.slot at)) (Some (record { xid = x; at = Kept p })) is).2 in
        ap (λ e. kept_at_check counted pages e p) said.1 ∙ in_passes sought (entries_on counted pages at.page) at.page (area.slot at) (record { xid = x; at = Kept p }) behind

    abbrev header : Place → Result ⊤ BadRecord
    header p = header_check (Versions t.entry) counted (pages p.page)

    -- so what was found is on a page that is there
    there : (v : VersionAt) → Is v → (place_of_version at v).page < 30000
    there Head is = omega (arith, below, few)
    there Previous is = omega (arith, below, few)
    there (Kept p) is = within (header p) counted p.page some few (bind_ok (there_check (header p) counted p.page) (λ _. kept_on_check counted t.entry (kinds_at (area_of pages) t.entry) p.slot (pages p.page)) tt (entry_passes p is)).1

    passes : (v : VersionAt) → Is v → found_check counted t v (place_of_version at v).slot (pages (place_of_version at v).page) ≡ Ok tt
    passes Head is = slot_passes (Some (record { xid = x; at = Head })) is
    passes Previous is = slot_passes (Some (record { xid = x; at = Previous })) is
    passes (Kept p) is =
        ap (λ ks. kept_on_check counted t.entry ks p.slot (pages p.page)) said.2
        ∙ (bind_ok (there_check (header p) counted p.page) (λ _. kept_on_check counted t.entry (kinds_at (area_of pages) t.entry) p.slot (pages p.page)) tt (entry_passes p is)).2

    -- and its row is the one that the area has there
    row_is : (v : VersionAt) → Is v → row_if (version_found area at v) ≡ row_there v (kinds_said t) (place_of_version at v).slot (pages (place_of_version at v).page)
    row_is Head is =
        let page : IsPageOf 1 pages at.page t = page_of_table 1 counted pages at.page t said in
        let s = slot_at (kinds_width (kinds_said t)) at.slot (pages at.page) in
        ap (λ (l : Slot). row_if (Some l.head)) (slot_reads counted pages at t said) ∙ head_same (columns_on pages at.page) s ∙ ap (λ ks. head_row ks s) (sym page.kinds)
    row_is Previous is =
        let page : IsPageOf 1 pages at.page t = page_of_table 1 counted pages at.page t said in
        let s = slot_at (kinds_width (kinds_said t)) at.slot (pages at.page) in
        ap (λ (l : Slot). row_if l.previous) (slot_reads counted pages at t said) ∙ previous_same (columns_on pages at.page) s ∙ ap (λ ks. previous_row ks s) (sym page.kinds)
    row_is (Kept p) is =
        let kept = entry_passes p is in
        let e = older_at (kinds_width (kinds_said t)) p.slot (pages p.page) in
        ap (λ (o : Older). row_if (Some o.version)) (reads sought counted pages t said.2 p kept) ∙ kept_same (columns_on pages p.page) e
        ∙ ap (λ ks. kept_row ks e) (sym (kinds_read sought counted pages t said.2 p kept))

  -- What is read where the search ended with a version.
  module _ (f : Found) (is : sought_at sought counted pages at ≡ Ok (Some f)) where
    abbrev from : Place
    from = place_of_version at f.at

    pub found_there : from.page < 30000
    found_there = there f.xid f.at is

    pub passes_there : found_check counted t f.at from.slot (pages from.page) ≡ Ok tt
    passes_there = passes f.xid f.at is

    pub never_bad : (bad : BadRecord) → found_check counted t f.at from.slot (pages from.page) ≡ Err bad → ⊥
    never_bad bad err = let e = sym (passes f.xid f.at is) ∙ err in cc

    pub gives_seen : (given : Result (Option Row) OutOfMemory) → RowSaidAt counted t f.at from.slot (pages from.page) (Ok given) → GivesRow (visible_row sought area at) given
    gives_seen given told =
        subst (λ wanted. GivesRow wanted given)
        (sym (version_seen sought area at f (row_found sought counted pages at (Some f) nobody few is) ∙ row_is f.xid f.at is)) told.1
