-- The search through the versions of a row comes to its end.
use Rattle.std.proofs.Common.{◌≡◌, ⊎_elim, inl, ℕ, zero, suc, ◌+◌, ◌-◌, ◌*◌, ◌<◌, ◌≤◌, Bool, true, false, cond, List, [], ◌∷◌, length, Result, Ok, Err, refl, sym, ◌∙◌, ap, subst, arith}
use Rattle.std.proofs.lemmas.Bool.{false≢true, eq-eqb}
use Rattle.std.proofs.lemmas.List.{length-append}
use Rattle.std.proofs.Math.Nat.{mul-le-mul_right}
use Rattle.std.specs.Prelude.{◌==◌, ⊤}
use Rattle.std.specs.List.{flat_map, AllByRecursion}
use Rattle.std.specs.Option.{option_map}
use Rattle.ctr_types.specs.declared.value.Column.{Column}
use Rattle.ctr_revert.proofs.versions_Keys.{known}
use Rattle.ctr_bytes.specs.Following.{◌>>=◌}
use Rattle.ctr_page.specs.declared.rows.Place.{Place}
use Rattle.ctr_page.specs.declared.rows.RowSlot.{RowSlot}
use Rattle.ctr_page.specs.declared.walk.BadChain.{BadChain}
use Rattle.ctr_page.specs.Places.{kept_size, room_for}
use Rattle.ctr_page.specs.Reading.{slot_at}
use Rattle.ctr_page.specs.Columns.{kinds_width}
use Rattle.ctr_meta.specs.Tables.{Tables}
use Rattle.ctr_heap.specs.area_Areas.{Slot, Older, free_slot, Area}
use Rattle.ctr_heap.specs.area_Chains.{pages_bound, older_bound, pages_from, places_on, slot_places, older_places, places_along, Leads}
use Rattle.ctr_heap.specs.area_Checked.{kinds_at, ArePassed}
use Rattle.ctr_heap.specs.area_Reading.{version_said, header_on, columns_on, width_on, area_of}
use Rattle.ctr_heap.specs.area_Sound.{IsAmong, IsOfVersions, IsKeptFor, IsSoundArea}
use Rattle.ctr_heap.proofs.area_Buckets.{each_of}
use Rattle.ctr_heap.proofs.record_laws_Along.{goes_on, all_along}
use Rattle.ctr_heap.proofs.record_laws_Bounds.{pages_bounded}
use Rattle.ctr_heap.proofs.record_laws_Owning.{all_of}
use Rattle.ctr_heap.proofs.record_laws_Room.{apart_fit, along_apart, bound_suc}
use Rattle.ctr_chain.specs.ctr_pvs.Table.{told_of}
use Rattle.ctr_chain.specs.ctr_pvs.Reading.{kept_at_check}
use Rattle.ctr_chain.specs.Seeking.{EntriesOf, most_entries, sought_along, xid_if_any, sought_in, entries_on, sought_at, xids_found}
use Rattle.ctr_undamaged.specs.Undamaged.{EndsWell}
use Rattle.ctr_undamaged.proofs.Inside.{few_on_versions}
use Rattle.ctr_undamaged.proofs.There.{names_entry, slot_page, kept_passes, row_passes}
use Rattle.ctr_undamaged.proofs.Walks.{versions_room}

-- it isn't damage
abbrev pub IsWell : {A B : Type 0} → Result A B → Type 0
IsWell {A} {B} r = (bad : B) → r ≡ Err bad → ⊥

well_or : {A B : Type 0} (b : Bool) (x : A) (rest : Result A B) → (b ≡ false → IsWell rest) → IsWell (cond b (Ok x) rest)
well_or true x rest well bad is = absurd cc
well_or false x rest well bad is = well refl bad is

well_then : {A B C : Type 0} (r : Result A B) (f : A → Result C B) (x : A) → r ≡ Ok x → IsWell (f x) → IsWell (r >>= f)
well_then {A} {B} r f x is well = subst (λ (y : Result A B). IsWell (y >>= f)) (sym is) well

by_result : {A B : Type 0} (r : Result A B) (P : Result A B → Type 0) → ((x : A) → P (Ok x)) → ((bad : B) → P (Err bad)) → P r
by_result (Ok x) P good fails = good x
by_result (Err bad) P good fails = fails bad

-- ---- along the pointers

module _ (sought : ℕ → Bool) (r : EntriesOf) (Is : Place → Older → Type 0) where
  abbrev older : Place → Older
  older = (area_of r.pages).older

  pub pointers_well : (passes : (q : Place) → Is q (older q) → kept_at_check r.counted r.pages r.entry q ≡ Ok tt) (n m last : ℕ) (at : Place) → Leads m older Is at → length (places_along m older at) ≤ n → IsWell (sought_along sought r n last at)
  pointers_well passes zero zero last at leads short = well_or (at.page == 0) _ _ (λ isnt. absurd (false≢true (sym isnt ∙ eq-eqb at.page 0 leads)))
  pointers_well passes (suc n) zero last at leads short = well_or (at.page == 0) _ _ (λ isnt. absurd (false≢true (sym isnt ∙ eq-eqb at.page 0 leads)))
  pointers_well passes zero (suc m) last at leads short = well_or (at.page == 0) _ _
      (λ isnt. absurd (none (places_along m older (older at).pointer) (subst (λ ps. length ps ≤ 0) (goes_on m older at (λ is. false≢true (sym isnt ∙ eq-eqb at.page 0 is))) short)))
    where
      none : (ps : List Place) → length (at ∷ ps) ≤ 0 → ⊥
      none ps le = omega (arith, le)
  pointers_well passes (suc n) (suc m) last at leads short = well_or (at.page == 0) _ _
      (λ isnt. let some : at.page ≡ 0 → ⊥ = λ is. false≢true (sym isnt ∙ eq-eqb at.page 0 is) in
      let parts = ⊎_elim (λ z. absurd (some z)) (λ more. more) leads in
      well_then (told_of at.page (kept_at_check r.counted r.pages r.entry at)) _ tt (ap (told_of at.page) (passes at parts.0))
      (well_or (sought (older at).version.0) _ (sought_along sought r n at.page (older at).pointer) (λ not_here. pointers_well passes n m at.page (older at).pointer parts.1
      (less (places_along m older (older at).pointer) (subst (λ ps. length ps ≤ suc n) (goes_on m older at some) short)))))
    where
      less : (ps : List Place) → length (at ∷ ps) ≤ suc n → length ps ≤ n
      less ps le = omega (arith, le)

  pub versions_well : (p : ℕ) (slot : Slot) → IsWell (sought_along sought r (most_entries r) p slot.pointer) → IsWell (sought_in sought r p slot)
  versions_well p slot behind = well_or (sought slot.head.0) _ _ (λ no_head. well_or (sought (xid_if_any slot.previous)) _ _ (λ no_previous. behind))

-- ---- how many version entries a table has

length-places : (p k n : ℕ) → length (places_on p k n) ≡ n
length-places p k zero = refl
length-places p k (suc n) = ap (λ m. suc m) (length-places p (k + 1) n)

length-on : (room : ℕ → ℕ) (most : ℕ) (ps : List ℕ) → AllByRecursion (λ q. room q ≡ most) ps → length (flat_map (λ q. places_on q 0 (room q)) ps) ≡ length ps * most
length-on room most [] all = omega arith
length-on room most (p ∷ ps) all =
    length-append (places_on p 0 (room p)) (flat_map (λ q. places_on q 0 (room q)) ps)
    ∙ ap (λ l. l + length (flat_map (λ q. places_on q 0 (room q)) ps)) (length-places p 0 (room p) ∙ all.0)
    ∙ ap (λ l. most + l) (length-on room most ps all.1) ∙ one_more (length ps) most
  where
    one_more : (a b : ℕ) → b + a * b ≡ suc a * b
    one_more a b = omega arith

-- a slot that isn't used has no pointer
unused_ends : (c d : Bool) (there : Slot) → there.used ≡ true → (cond c (cond d there free_slot) free_slot).used ≡ false → (cond c (cond d there free_slot) free_slot).pointer.page ≡ 0
unused_ends true true there used isnt = absurd (false≢true (sym isnt ∙ used))
unused_ends true false there used isnt = refl
unused_ends false d there used isnt = refl

-- ---- from a slot of a table on

module _ (counted : ℕ) (tables : Tables) (pages : ℕ → List ℕ) (passed : ArePassed counted pages) (sound : IsSoundArea counted tables (area_of pages)) (e : ℕ) where
  abbrev area : Area
  area = area_of pages

  abbrev entries : EntriesOf
  entries = record { counted = counted; pages = pages; entry = e }

  abbrev chain : List ℕ
  chain = pages_from pages_bound area.header (area.firsts e).versions

  abbrev on_one : ℕ
  on_one = room_for (kept_size (kinds_width (kinds_at area e)))

  few_entries : e < 32 → length (older_places area e) ≤ most_entries entries
  few_entries lt =
      subst (λ l. l ≤ (counted - 3) * on_one) (sym (length-on area.room on_one chain (all_of (λ q. area.room q ≡ on_one) chain
      (λ q in_. let h = each_of (λ x. IsOfVersions e (area.header x)) q chain (sound.readable.versions e).0 in_ in sym (versions_room pages q e h.1 h.0)))))
      (mul-le-mul_right on_one (few_on_versions counted tables area (pages_bounded pages) sound e lt))

  module _ (sought : ℕ → Bool) (at : Place) (in_ : IsAmong at (slot_places area e)) where
    abbrev slot : Slot
    slot = area.slot at

    abbrev IsIt : Place → Older → Type 0
    IsIt = IsKeptFor area e slot.key

    led : Leads older_bound area.older IsIt slot.pointer
    led = known slot.used
        (λ is. sound.pointers.lead e at (in_, is))
        (λ isnt. subst (λ m. Leads m area.older IsIt slot.pointer) (sym bound_suc.1) (inl (no_pointer isnt)))
      where
        no_pointer : slot.used ≡ false → slot.pointer.page ≡ 0
        no_pointer isnt = unused_ends ((header_on pages at.page).kind == 1) ((slot_at (width_on pages at.page) at.slot (pages at.page)).used == 1) (there (columns_on pages at.page) (slot_at (width_on pages at.page) at.slot (pages at.page))) refl isnt
          where
            there : List Column → RowSlot → Slot
            there cs s = record { used = true; key = s.key; head = version_said cs s.key s.head; previous = option_map (version_said cs s.key) s.previous; pointer = s.older }

    short : length (places_along older_bound area.older slot.pointer) ≤ most_entries entries
    short = upto (length (places_along older_bound area.older slot.pointer)) (length (older_places area e)) (most_entries entries)
        (apart_fit (places_along older_bound area.older slot.pointer) (older_places area e) (along_apart area.older IsIt older_bound slot.pointer led)
        (λ q among. (each_of (λ x. IsIt x (area.older x)) q (places_along older_bound area.older slot.pointer) (all_along area.older IsIt older_bound slot.pointer led) among).0))
        (few_entries (slot_page counted tables pages passed sound e at in_).few)
      where
        upto : (a b c : ℕ) → a ≤ b → b ≤ c → a ≤ c
        upto a b c one two = omega (arith, one, two)

    pub row_well : IsWell (sought_at sought counted pages at)
    row_well = subst IsWell (sym (
        ap (λ (x : Result ⊤ BadChain). x >>= λ _. sought_in sought (entries_on counted pages at.page) at.page slot) (row_passes counted tables pages passed sound e at in_)
        ∙ ap (λ f. sought_in sought (record { counted = counted; pages = pages; entry = f }) at.page slot) (names_entry counted tables pages passed sound 1 e at.page (slot_page counted tables pages passed sound e at in_))
        ))
        (versions_well sought entries IsIt at.page slot
        (pointers_well sought entries IsIt (λ q is. kept_passes counted tables pages passed sound e q is.0) (most_entries entries) older_bound at.page slot.pointer led short))

-- nor is it for whose the version is
pub xids_well : (sought : ℕ → Bool) (counted : ℕ) (pages : ℕ → List ℕ) (at : Place) → IsWell (sought_at sought counted pages at) → EndsWell (λ x. x ≡ xids_found (sought_at sought counted pages at))
xids_well sought counted pages at = by_result (sought_at sought counted pages at) (λ r. IsWell r → EndsWell (λ x. x ≡ xids_found r))
    (λ found well bad is. absurd cc) (λ b well bad is. well b refl)
