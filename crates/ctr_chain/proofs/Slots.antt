-- What a slot that is looked at says, and the search by it.
use Rattle.std.proofs.Common.{◌≡◌, ℕ, cond, Bool, true, false, List, Option, None, Some, Result, Ok, Err, inl, inr, refl, sym, ◌∙◌, ap}
use Rattle.std.specs.Prelude.{◌==◌, ⊤}
use Rattle.std.specs.Option.{option_map}
use Rattle.std.proofs.lemmas.Bool.{eq-eqb}
use Rattle.ctr_types.specs.declared.value.Column.{Column}
use Rattle.ctr_types.specs.declared.value.Kind.{Kind}
use Rattle.ctr_bytes.specs.Following.{◌>>=◌}
use Rattle.ctr_rec.specs.declared.decoding.BadRecord.{BadRecord}
use Rattle.ctr_page.specs.declared.walk.BadChain.{BadChain}
use Rattle.ctr_page.specs.declared.walk.BadChain.TheVariants.{OnPage}
use Rattle.ctr_page.specs.declared.rows.Place.{Place}
use Rattle.ctr_page.specs.declared.rows.Version.{Version}
use Rattle.ctr_page.specs.declared.rows.RowSlot.{RowSlot}
use Rattle.ctr_page.specs.Reading.{slot_at}
use Rattle.ctr_page.specs.Columns.{kinds_width}
use Rattle.ctr_names.specs.area_Areas.{Slot, free_slot}
use Rattle.ctr_pvs.specs.area_Reading.{version_said, slot_said, header_on, columns_on, width_on, area_of}
use Rattle.ctr_pvs.specs.walk_TableOf.{TableOf}
use Rattle.ctr_pvs.specs.Table.{told_of, TableSaid}
use Rattle.ctr_pvs.specs.walk_Tables.{kinds_said}
use Rattle.ctr_pvs.specs.Reading.{row_on_check, row_check_at}
use Rattle.ctr_pvs.proofs.Told.{IsPageOf, page_of_table, no_table_first, by_table}
use Rattle.ctr_chain.specs.declared.looking.SlotLook.{SlotLook}
use Rattle.ctr_chain.specs.declared.seeking.Found.{Found}
use Rattle.ctr_chain.specs.declared.seeking.VersionAt.TheVariants.{Head, Previous}
use Rattle.ctr_chain.specs.Looking.{xid_there, look_of_slot, LooksAtRow}
use Rattle.ctr_chain.specs.Seeking.{EntriesOf, most_entries, sought_along, xid_if_any, FoundIn, sought_in, entries_on, sought_at}
use Rattle.ctr_chain.proofs.Steps.{at_end}

-- what a look at a slot of an area gives
abbrev looked : Slot → SlotLook
looked s = record { head = s.head.0; previous = xid_if_any s.previous; older = s.pointer }

previous_same : (cs : List Column) (s : RowSlot) (v : Option Version) → xid_there v ≡ xid_if_any (option_map (version_said cs s.key) v)
previous_same cs s None = refl
previous_same cs s (Some v) = refl

look_same : (cs : List Column) (s : RowSlot) → look_of_slot s ≡ looked (slot_said cs s)
look_same cs s = by (s.used == 1) refl
  where
    there : Slot
    there = record { used = true; key = s.key; head = version_said cs s.key s.head; previous = option_map (version_said cs s.key) s.previous; pointer = s.older }

    read : SlotLook
    read = record { head = s.head.xid; previous = xid_there s.previous; older = s.older }

    one : (c : Bool) → cond c read (looked free_slot) ≡ looked (cond c there free_slot)
    one true = ap (λ x. record { head = s.head.xid; previous = x; older = s.older }) (previous_same cs s s.previous)
    one false = refl

    by : (b : Bool) → (s.used == 1) ≡ b → look_of_slot s ≡ looked (slot_said cs s)
    by b is = ap (λ c. cond c read (looked free_slot)) is ∙ one b ∙ sym (ap (λ c. looked (cond c there free_slot)) is)

module _ (counted : ℕ) (pages : ℕ → List ℕ) (at : Place) (t : TableOf) (said : TableSaid 1 counted pages at.page (Ok t)) where
  abbrev check : ℕ → List Kind → Result ⊤ BadRecord
  check e ks = row_on_check counted e ks at.slot (pages at.page)

  -- the slot at a place is checked by its table
  pub row_told : (r : Result ⊤ BadRecord) → check t.entry (kinds_said t) ≡ r → row_check_at counted pages at ≡ told_of at.page r
  row_told r is = by_table 1 counted pages at.page t (λ e ks. row_on_check counted e ks at.slot (pages at.page)) r said is

  -- the slot of the area is the one that stands there, by its table's columns
  pub slot_reads : (area_of pages).slot at ≡ slot_said (columns_on pages at.page) (slot_at (kinds_width (kinds_said t)) at.slot (pages at.page))
  slot_reads =
      let page : IsPageOf 1 pages at.page t = page_of_table 1 counted pages at.page t said in
      let cs = columns_on pages at.page in
      ap (λ b. cond b (slot_said cs (slot_at (width_on pages at.page) at.slot (pages at.page))) free_slot) (eq-eqb (header_on pages at.page).kind 1 page.of_kind)
      ∙ ap (λ v. slot_said cs (slot_at v at.slot (pages at.page))) (sym page.wide)

  slot_says : (l : SlotLook) → LooksAtRow counted t at.slot (pages at.page) (Ok l) → l ≡ looked ((area_of pages).slot at)
  slot_says l looks = looks.1 ∙ look_same (columns_on pages at.page) (slot_at (kinds_width (kinds_said t)) at.slot (pages at.page)) ∙ ap looked (sym slot_reads)

  module _ (sought : ℕ → Bool) where
    abbrev r : EntriesOf
    r = record { counted = counted; pages = pages; entry = t.entry }

    -- the search by what a slot says
    abbrev by_look : EntriesOf → SlotLook → Result (Option Found) BadChain
    by_look e l =
        cond (sought l.head) (Ok (Some (record { xid = l.head; at = Head })))
        (cond (sought l.previous) (Ok (Some (record { xid = l.previous; at = Previous }))) (sought_along sought e (most_entries e) at.page l.older))

    searched : (l : SlotLook) → LooksAtRow counted t at.slot (pages at.page) (Ok l) → sought_at sought counted pages at ≡ by_look r l
    searched l looks =
        ap (λ (c : Result ⊤ BadChain). c >>= λ _. by_look (entries_on counted pages at.page) (looked ((area_of pages).slot at))) (row_told (Ok tt) looks.0)
        ∙ ap (λ e. by_look (record { counted = counted; pages = pages; entry = e }) (looked ((area_of pages).slot at))) (sym said.1)
        ∙ ap (by_look r) (sym (slot_says l looks))

    pub in_slot : (l : SlotLook) (found : Option Found) → LooksAtRow counted t at.slot (pages at.page) (Ok l) → FoundIn sought l (Some found) → sought_at sought counted pages at ≡ Ok found
    in_slot l found looks is = searched l looks ∙ by found is
      where
        behind : Result (Option Found) BadChain
        behind = sought_along sought r (most_entries r) at.page l.older

        previous : Result (Option Found) BadChain
        previous = cond (sought l.previous) (Ok (Some (record { xid = l.previous; at = Previous }))) behind

        by : (o : Option Found) → FoundIn sought l (Some o) → by_look r l ≡ Ok o
        by (Some f) (inl here) =
            ap (λ b. cond b (Ok (Some (record { xid = l.head; at = Head }))) previous) here.1
            ∙ ap (λ (x : Found). Ok (Some x)) (sym here.0)
        by (Some f) (inr there) =
            ap (λ b. cond b (Ok (Some (record { xid = l.head; at = Head }))) previous) there.1
            ∙ ap (λ b. cond b (Ok (Some (record { xid = l.previous; at = Previous }))) behind) there.2
            ∙ ap (λ (x : Found). Ok (Some x)) (sym there.0)
        by None none =
            ap (λ b. cond b (Ok (Some (record { xid = l.head; at = Head }))) previous) none.0
            ∙ ap (λ b. cond b (Ok (Some (record { xid = l.previous; at = Previous }))) behind) none.1
            ∙ at_end sought r (most_entries r) at.page l.older none.2

    pub behind_slot : (l : SlotLook) → LooksAtRow counted t at.slot (pages at.page) (Ok l) → FoundIn sought l None
        → sought_at sought counted pages at ≡ sought_along sought r (most_entries r) at.page l.older
    behind_slot l looks none =
        searched l looks
        ∙ ap (λ b. cond b (Ok (Some (record { xid = l.head; at = Head }))) (cond (sought l.previous) (Ok (Some (record { xid = l.previous; at = Previous }))) (sought_along sought r (most_entries r) at.page l.older))) none.0
        ∙ ap (λ b. cond b (Ok (Some (record { xid = l.previous; at = Previous }))) (sought_along sought r (most_entries r) at.page l.older)) none.1

-- where the table of the page isn't told, the search ends there
pub no_table : (counted : ℕ) (pages : ℕ → List ℕ) (at : Place) (sought : ℕ → Bool) (bad : BadChain) → TableSaid 1 counted pages at.page (Err bad) → sought_at sought counted pages at ≡ Err bad
no_table counted pages at sought bad said =
    ap (λ (c : Result ⊤ BadChain). c >>= λ _. sought_in sought (entries_on counted pages at.page) at.page ((area_of pages).slot at))
    (no_table_first 1 counted pages at.page (λ e ks. row_on_check counted e ks at.slot (pages at.page)) bad said)

-- and where the slot of the table fails its check
pub no_slot : (counted : ℕ) (pages : ℕ → List ℕ) (at : Place) (t : TableOf) (sought : ℕ → Bool) (bad : BadRecord) → TableSaid 1 counted pages at.page (Ok t) → LooksAtRow counted t at.slot (pages at.page) (Err bad)
    → sought_at sought counted pages at ≡ Err (OnPage at.page bad)
no_slot counted pages at t sought bad said wrong =
    ap (λ (c : Result ⊤ BadChain). c >>= λ _. sought_in sought (entries_on counted pages at.page) at.page ((area_of pages).slot at))
    (by_table 1 counted pages at.page t (λ e ks. row_on_check counted e ks at.slot (pages at.page)) (Err bad) said wrong)
