-- A pass goes from position to position, each of which is a place of its table.
use Rattle.std.proofs.Common.{◌≡◌, ◌≢◌, ◌⊎◌, ⊎_elim, inl, inr, ℕ, suc, ◌+◌, ◌-◌, ◌*◌, ◌/◌, ◌%◌, ◌<◌, ◌≤◌, cond, List, [], ◌∷◌, drop, length, slice_index, Option, None, Some, refl, sym, ◌∙◌, ap, subst, arith}
use Rattle.std.specs.Prelude.{◌==◌, nat_lt}
use Rattle.std.proofs.lemmas.Bool.{false≢true, eq-eqb, eqb-true, lt-ltb}
use Rattle.std.proofs.lemmas.List.{get_or-drop, length-drop}
use Rattle.ctr_page.specs.declared.checks.Chain.{Chain}
use Rattle.ctr_page.specs.declared.checks.Chain.TheVariants.{Rows, Versions}
use Rattle.ctr_page.specs.declared.header.Header.{Header}
use Rattle.ctr_page.specs.declared.rows.Place.{Place}
use Rattle.ctr_page.specs.ctr_value.Payload.{width}
use Rattle.ctr_page.specs.Columns.{columns_in}
use Rattle.ctr_page.specs.Damage.{chain_entry}
use Rattle.ctr_page.specs.Reading.{piece}
use Rattle.ctr_rec.specs.bytes_Fields.{field}
use Rattle.ctr_walk.specs.redo_States.{State}
use Rattle.ctr_area.specs.Areas.{Area}
use Rattle.ctr_area.specs.Chains.{pages_bound, pages_from, slot_places, older_places}
use Rattle.ctr_area.specs.Reading.{entry_bytes, header_on, width_on}
use Rattle.ctr_area.specs.Sound.{IsAmong, EndsIn, IsOfRows, IsOfVersions}
use Rattle.ctr_area.proofs.Buckets.{in_chain, of_bucket, nothing_from_0}
use Rattle.ctr_area.proofs.Places.{below}
use Rattle.ctr_area.proofs.ctr_versions.Keys.{known}
use Rattle.ctr_record_laws.specs.Bounds.{IsInBounds}
use Rattle.ctr_record_laws.proofs.Bounds.{pages_bounded}
use Rattle.ctr_record_laws.proofs.Ends.{steps, page_goes_on, page_ends, behind_chain, bucket_chain}
use Rattle.ctr_actions.specs.Sites.{site_of}
use Rattle.ctr_walk.specs.record_effects_States.{pages_in, area_in}
use Rattle.ctr_walk.specs.record_effects_Standing.{IsDatabaseState}
use Rattle.ctr_walk.specs.Tables.{first_of_chain}
use Rattle.ctr_reading.proofs.undamaged_Inside.{table_inside, on_bucket, on_versions}
use Rattle.ctr_reading.proofs.Gathers.{eight_buckets}
use Rattle.ctr_cursor.specs.declared.position.Position.{Position}
use Rattle.ctr_cursor.specs.declared.position.Position.TheVariants.{Entry, Slot, Kept, Aborted}
use Rattle.ctr_cursor.specs.Pass.{first_on, place_behind, at_or, aborted_from, behind_pages_of, kept_of, slots_from, buckets_from, next_position}
use Rattle.ctr_cursor.specs.Standing.{IsInChain, IsPlaceIn, IsPosition, IsCountedPosition}
use Rattle.ctr_cursor.proofs.Passing.{tail_of, drop_more}
use Rattle.ctr_cursor.proofs.Rooms.{entry_few, room_some}
use Rattle.ctr_cursor.proofs.Stays.{of_table, is_there, of_entry, no_chain, free_none}

-- ---- which position it is

at_one : (make : Place → Position) (other : Option Position) (o : Option Place) (y : Position) → at_or make other o ≡ Some y → ((q : Place) × (o ≡ Some q) × (make q ≡ y)) ⊎ ((o ≡ None) × (other ≡ Some y))
at_one make other None y is = inr (refl, is)
at_one make other (Some q) y is = inl (q, refl, cc)

on_one : (p : ℕ) (q : Place) → first_on p ≡ Some q → (p ≢ 0) × (record { page = p; slot = 0 } ≡ q)
on_one p q is = known (p == 0)
    (λ none. let e = sym (ap (λ b. cond b None (Some (record { page = p; slot = 0 }))) none) ∙ is in absurd cc)
    (λ isnt. let e = sym (ap (λ b. cond b None (Some (record { page = p; slot = 0 }))) isnt) ∙ is in ((λ z. false≢true (sym isnt ∙ eq-eqb p 0 z)), cc))

behind_one : (area : Area) (at q : Place) → place_behind area at ≡ Some q → ((at.slot + 1 < area.room at.page) × (record { page = at.page; slot = at.slot + 1 } ≡ q))
    ⊎ (((area.header at.page).next ≢ 0) × (record { page = (area.header at.page).next; slot = 0 } ≡ q))
behind_one area at q is = known (nat_lt (at.slot + 1) (area.room at.page))
    (λ more. let e = sym (ap (λ b. cond b (Some (record { page = at.page; slot = at.slot + 1 })) (first_on (area.header at.page).next)) more) ∙ is in inl (below (at.slot + 1) (area.room at.page) more, cc))
    (λ none. inr (on_one (area.header at.page).next q (sym (ap (λ b. cond b (Some (record { page = at.page; slot = at.slot + 1 })) (first_on (area.header at.page).next)) none) ∙ is)))

-- ---- along a chain

next_among : (header : ℕ → Header) (Is : Header → Type 0) (p : ℕ) (ps : List ℕ) (q : ℕ) → EndsIn pages_bound header Is q → pages_from pages_bound header q ≡ ps → IsAmong p ps → (header p).next ≢ 0 → IsAmong (header p).next ps
next_among header Is p [] q ends is in_ some = absurd in_
next_among header Is p (r ∷ rs) q ends is in_ some = known (q == 0)
    (λ none. let e = sym is ∙ page_ends header pages_bound q (eqb-true q 0 none) in absurd cc)
    (λ isnt.
    let front = behind_chain header q (header q).next (λ z. false≢true (sym isnt ∙ eq-eqb q 0 z)) refl Is ends in
    let both = sym is ∙ front.0 in
    let same : r ≡ q = cc in
    let others : pages_from pages_bound header (header q).next ≡ rs = cc in
    ⊎_elim
    (λ here. inr (subst (IsAmong (header p).next) others (subst (λ (h : Header). IsAmong (header p).next (pages_from pages_bound header h.next)) (ap header (here ∙ same)) (starts (header p).next some))))
    (λ there. inr (next_among header Is p rs (header q).next front.1 others there some))
    in_)
  where
    starts : (n : ℕ) → n ≢ 0 → IsAmong n (pages_from pages_bound header n)
    starts n isnt = subst (IsAmong n) (sym (ap (λ m. pages_from m header n) steps.1 ∙ page_goes_on header steps.0 n isnt)) (inl refl)

-- ---- places of a table

pub slot_place : (area : Area) (e b : ℕ) (at : Place) → IsPlaceIn (Rows e b) at area → IsAmong at (slot_places area e)
slot_place area e b at place = of_bucket area at b (area.firsts e).buckets (in_chain area (slice_index (area.firsts e).buckets b) at.page at.slot place.0 place.1) (nothing_from_0 area at)

pub older_place : (area : Area) (e : ℕ) (at : Place) → IsPlaceIn (Versions e) at area → IsAmong at (older_places area e)
older_place area e at place = in_chain area (area.firsts e).versions at.page at.slot place.0 place.1

module _ (s : State) (sound : IsDatabaseState s) where
  abbrev pages : ℕ → List ℕ
  pages = pages_in s

  abbrev area : Area
  area = area_in s

  abbrev bounds : IsInBounds area
  bounds = pages_bounded pages

  -- ---- a page of a chain

  page_room : (chain : Chain) (p : ℕ) → IsInChain chain p area → 0 < area.room p
  page_room chain p on =
      let e = chain_entry chain in
      let lt : e < 32 = table_inside s.counted s.tables area bounds sound.sound e p (of_table chain p area on) in
      let bytes : entry_bytes pages e ≡ piece (256 * (e % 16)) 256 (pages (1 + e / 16)) = ap (λ b. cond b (piece (256 * (e % 16)) 256 (pages (1 + e / 16))) []) (lt-ltb e 32 lt) in
      let used : field 1 0 (piece (256 * (e % 16)) 256 (pages (1 + e / 16))) ≢ 0 = λ none.
      let free = free_none area e bounds (ap (field 1 0) bytes ∙ none) in no_chain chain p area free.0 free.1 on in
      let few = entry_few (256 * (e % 16)) (pages (1 + e / 16)) s.counted (sound.passed.entries e lt) used in
      room_some ((header_on pages p).kind == 1) (width_on pages p)
      (subst (λ f. width (drop 1 (columns_in (entry_bytes pages f))) ≤ 455) (sym (of_entry chain p area sound.sound.readable on)) (subst (λ bs. width (drop 1 (columns_in bs)) ≤ 455) (sym bytes) few))

  first_place : (chain : Chain) (p : ℕ) → first_of_chain area chain ≡ p → p ≢ 0 → IsPlaceIn chain (record { page = p; slot = 0 }) area
  first_place chain p is some =
      let on : IsInChain chain p area = subst (λ q. IsAmong p (pages_from pages_bound area.header q)) (sym is) (subst (IsAmong p) (sym (ap (λ m. pages_from m area.header p) steps.1 ∙ page_goes_on area.header steps.0 p some)) (inl refl)) in
      (on, page_room chain p on)

  next_page : (chain : Chain) (p : ℕ) → IsInChain chain p area → (area.header p).next ≢ 0 → IsInChain chain (area.header p).next area
  next_page (Rows e b) p on some =
      let first = slice_index (area.firsts e).buckets b in
      next_among area.header (IsOfRows e (0 + b)) p (pages_from pages_bound area.header first) first
      (bucket_chain area e 0 b (area.firsts e).buckets (is_there area.header pages_bound p b (area.firsts e).buckets on) (sound.sound.readable.rows e)) refl on some
  next_page (Versions e) p on some =
      next_among area.header (IsOfVersions e) p (pages_from pages_bound area.header (area.firsts e).versions) (area.firsts e).versions (sound.sound.readable.versions e) refl on some

  next_place : (chain : Chain) (at q : Place) → IsPlaceIn chain at area → place_behind area at ≡ Some q → IsPlaceIn chain q area
  next_place chain at q place is = ⊎_elim
      (λ (here : (at.slot + 1 < area.room at.page) × (record { page = at.page; slot = at.slot + 1 } ≡ q)). subst (λ (r : Place). IsPlaceIn chain r area) here.1 (place.0, here.0))
      (λ (there : ((area.header at.page).next ≢ 0) × (record { page = (area.header at.page).next; slot = 0 } ≡ q)).
      let on = next_page chain at.page place.0 there.0 in
      subst (λ (r : Place). IsPlaceIn chain r area) there.1 (on, page_room chain (area.header at.page).next on))
      (behind_one area at q is)

  -- ---- positions

  aborted_is : (n : ℕ) (y : Position) → aborted_from n s.tables ≡ Some y → IsPosition y (site_of s)
  aborted_is n y is = known (nat_lt n (length s.tables.aborted))
      (λ some. let e = sym (ap (λ b. cond b (Some (Aborted n)) None) some) ∙ is in let same : Aborted n ≡ y = cc in subst (λ z. IsPosition z (site_of s)) same tt)
      (λ none. let e = sym (ap (λ b. cond b (Some (Aborted n)) None) none) ∙ is in absurd cc)

  entry_leads : (e : ℕ) (y : Position) → behind_pages_of e s.tables ≡ Some y → IsPosition y (site_of s)
  entry_leads e y is = known (nat_lt (e + 1) 32)
      (λ more. let f = sym (ap (λ b. cond b (Some (Entry (e + 1))) (aborted_from 0 s.tables)) more) ∙ is in let same : Entry (e + 1) ≡ y = cc in subst (λ z. IsPosition z (site_of s)) same (below (e + 1) 32 more))
      (λ last. aborted_is 0 y (sym (ap (λ b. cond b (Some (Entry (e + 1))) (aborted_from 0 s.tables)) last) ∙ is))

  kept_leads : (e : ℕ) (y : Position) → e < 32 → kept_of e (site_of s) ≡ Some y → IsPosition y (site_of s)
  kept_leads e y lt is = ⊎_elim
      (λ (here : (q : Place) × (first_on (area.firsts e).versions ≡ Some q) × (Kept e q ≡ y)).
      let its = on_one (area.firsts e).versions here.0 here.1 in
      subst (λ z. IsPosition z (site_of s)) here.2 (lt, subst (λ (r : Place). IsPlaceIn (Versions e) r area) its.1 (first_place (Versions e) (area.firsts e).versions refl its.0)))
      (λ there. entry_leads e y there.1)
      (at_one (λ at. Kept e at) (behind_pages_of e s.tables) (first_on (area.firsts e).versions) y is)

  slots_lead : (e b : ℕ) (ps : List ℕ) (y : Position) → e < 32 → ps ≡ drop b (area.firsts e).buckets → slots_from e b ps (site_of s) ≡ Some y → IsPosition y (site_of s)
  slots_lead e b [] y lt are is = kept_leads e y lt is
  slots_lead e b (p ∷ ps) y lt are is = ⊎_elim
      (λ (here : (q : Place) × (first_on p ≡ Some q) × (Slot e b q ≡ y)).
      let its = on_one p here.0 here.1 in
      subst (λ z. IsPosition z (site_of s)) here.2 (
        (lt, inside (length (area.firsts e).buckets) (length ps) (ap length are ∙ length-drop b (area.firsts e).buckets) (eight_buckets pages e)),
        subst (λ (r : Place). IsPlaceIn (Rows e b) r area) its.1 (first_place (Rows e b) p first its.0),
      ))
      (λ there. slots_lead e (b + 1) ps y lt (sym (drop_more b (area.firsts e).buckets ∙ ap tail_of (sym are))) there.1)
      (at_one (λ at. Slot e b at) (slots_from e (b + 1) ps (site_of s)) (first_on p) y is)
    where
      inside : (n m : ℕ) → suc m ≡ n - b → n ≤ 8 → b < 8
      inside n m is few = omega (arith, is, few)

      first : slice_index (area.firsts e).buckets b ≡ p
      first = ap (slice_index (area.firsts e).buckets) (let z : b ≡ b + 0 = omega arith in z) ∙ sym (get_or-drop b (area.firsts e).buckets 0 0) ∙ ap (λ qs. slice_index qs 0) (sym are)

  pub leads : (x y : Position) → IsPosition x (site_of s) → next_position (site_of s) x ≡ Some y → IsPosition y (site_of s)
  leads (Entry e) y its is = slots_lead e 0 (area.firsts e).buckets y its refl is
  leads (Slot e b at) y its is = ⊎_elim
      (λ (here : (q : Place) × (place_behind area at ≡ Some q) × (Slot e b q ≡ y)). subst (λ z. IsPosition z (site_of s)) here.2 (its.0, next_place (Rows e b) at here.0 its.1 here.1))
      (λ there. slots_lead e (b + 1) (drop (b + 1) (area.firsts e).buckets) y its.0.0 refl there.1)
      (at_one (λ q. Slot e b q) (buckets_from e (b + 1) (site_of s)) (place_behind area at) y is)
  leads (Kept e at) y its is = ⊎_elim
      (λ (here : (q : Place) × (place_behind area at ≡ Some q) × (Kept e q ≡ y)). subst (λ z. IsPosition z (site_of s)) here.2 (its.0, next_place (Versions e) at here.0 its.1 here.1))
      (λ there. entry_leads e y there.1)
      (at_one (λ q. Kept e q) (behind_pages_of e s.tables) (place_behind area at) y is)
  leads (Aborted n) y its is = aborted_is (n + 1) y is

  pub within : (x : Position) → IsPosition x (site_of s) → IsCountedPosition s.counted x
  within (Entry e) its = its
  within (Slot e b at) its = (its.0, (on_bucket s.counted s.tables area bounds sound.sound e b at.page (is_there area.header pages_bound at.page b (area.firsts e).buckets its.1.0) its.1.0).1)
  within (Kept e at) its = (its.0, (on_versions s.counted s.tables area bounds sound.sound e at.page its.1.0).1)
  within (Aborted n) its = tt
