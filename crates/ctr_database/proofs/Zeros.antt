-- The pages of a new database are zeros: no entry of the catalog is used, and no chain has a page.
use Rattle.std.proofs.Common.{◌≡◌, ⊎_elim, ℕ, zero, suc, ◌+◌, ◌*◌, ◌/◌, ◌%◌, ◌<◌, ◌≤◌, Bool, false, cond, List, [], ◌∷◌, map, take, drop, replicate, slice_index, refl, sym, ◌∙◌, ap, subst, arith}
use Rattle.std.specs.Prelude.{◌==◌, nat_lt, Ok}
use Rattle.std.specs.List.{flat_map, AllByRecursion}
use Rattle.std.proofs.lemmas.Bool.{cases_lt}
use Rattle.std.proofs.lemmas.List.{get_or-drop}
use Rattle.ctr_home.specs.Blocks.{zero_bytes}
use Rattle.ctr_area.specs.ctr_bytes.Fields.{field}
use Rattle.ctr_area.specs.ctr_value.Payload.{width}
use Rattle.ctr_area.specs.ctr_page.declared.header.Header.{Header}
use Rattle.ctr_area.specs.ctr_page.declared.rows.Place.{Place}
use Rattle.ctr_area.specs.ctr_page.declared.checks.Chain.TheVariants.{Versions}
use Rattle.ctr_area.specs.ctr_page.Columns.{entry_in, columns_in, first_in, versions_first_in}
use Rattle.ctr_area.specs.ctr_page.Damage.{header_check, entry_check, used_entry_check}
use Rattle.ctr_area.specs.ctr_page.Places.{room_for}
use Rattle.ctr_area.specs.ctr_page.Reading.{piece, header_in, slot_at, older_at}
use Rattle.ctr_area.specs.Areas.{Area, Firsts, no_pages, free_slot, free_older}
use Rattle.ctr_area.specs.Chains.{pages_bound, pages_from, places_on, places_from, slot_places, older_places}
use Rattle.ctr_area.specs.Checked.{ArePassed, BucketsPass, ChainPasses, OlderPasses, SlotPasses}
use Rattle.ctr_area.specs.Images.{new_pages, image_rows}
use Rattle.ctr_area.specs.Reading.{is_taken, bucket_numbers, entry_bytes, title_of, firsts_of, slot_said, older_said, no_header, header_on, columns_on, width_on, size_of_kind, size_on, slot_on, older_on, area_of}
use Rattle.ctr_area.specs.Sound.{IsSoundArea}
use Rattle.ctr_area.proofs.Bytes.{zero_at}
use Rattle.ctr_area.proofs.Places.{below}
use Rattle.ctr_area.proofs.Written.{catalog_page}
use Rattle.ctr_area.proofs.ctr_versions.Keys.{known}
use Rattle.ctr_redo.specs.ctr_meta.Tables.{no_tables}
use Rattle.ctr_redo.specs.Images.{new_state}
use Rattle.ctr_redo.specs.States.{page_limit, page_at}
use Rattle.ctr_record_effects.specs.States.{pages_in, area_in}
use Rattle.ctr_record_effects.specs.Standing.{IsDatabaseState}

-- ---- pages of a list of pages that are alike

page_alike : (b : List ℕ) (n p : ℕ) → p < n → page_at p (replicate n b) ≡ b
page_alike b zero p less = absurd (omega (arith, less))
page_alike b (suc n) zero less = refl
page_alike b (suc n) (suc p) less = page_alike b n p (omega (arith, less))

page_beyond : (b : List ℕ) (n p : ℕ) → n ≤ p → page_at p (replicate n b) ≡ []
page_beyond b zero p beyond = refl
page_beyond b (suc n) zero beyond = absurd (omega (arith, beyond))
page_beyond b (suc n) (suc p) beyond = page_beyond b n p (omega (arith, beyond))

zeros_are : (n : ℕ) → zero_bytes n ≡ replicate n 0
unfolding zero_bytes
zeros_are n = refl

abbrev pages : ℕ → List ℕ
pages = pages_in new_state

page_zero : (p : ℕ) → p < page_limit → pages p ≡ new_pages p
page_zero p less = page_alike (zero_bytes 4096) page_limit p less ∙ zeros_are 4096

some_pages : 3 ≤ page_limit
unfolding page_limit
some_pages = omega arith

-- each byte is 0
abbrev IsZeros : List ℕ → Type 0
IsZeros bytes = (k : ℕ) → slice_index bytes k ≡ 0

pages_zeros : (p : ℕ) → IsZeros (pages p)
pages_zeros p k = ⊎_elim
    (λ less. ap (λ (l : List ℕ). slice_index l k) (page_zero p less) ∙ zero_at 4096 k)
    (λ beyond. ap (λ (l : List ℕ). slice_index l k) (page_beyond (zero_bytes 4096) page_limit p beyond))
    (cases_lt p page_limit)

-- ---- fields of zeros

zeros_front : (n : ℕ) (bytes : List ℕ) → IsZeros bytes → IsZeros (take n bytes)
zeros_front zero bytes zeros k = refl
zeros_front (suc n) [] zeros k = refl
zeros_front (suc n) (x ∷ bytes) zeros zero = zeros zero
zeros_front (suc n) (x ∷ bytes) zeros (suc k) = zeros_front n bytes (λ j. zeros (suc j)) k

zeros_behind : (at : ℕ) (bytes : List ℕ) → IsZeros bytes → IsZeros (drop at bytes)
zeros_behind at bytes zeros k = get_or-drop at bytes k 0 ∙ zeros (at + k)

byte_zero : (at : ℕ) (bytes : List ℕ) → IsZeros bytes → field 1 at bytes ≡ 0
unfolding field
byte_zero at bytes zeros = omega (arith, zeros_behind at bytes zeros 0)

word_zero : (at : ℕ) (bytes : List ℕ) → IsZeros bytes → field 4 at bytes ≡ 0
unfolding field
word_zero at bytes zeros = let each = zeros_behind at bytes zeros in omega (arith, each 0, each 1, each 2, each 3)

-- ---- the area of pages of zeros, by the bytes of its catalog and those of page 0

abbrev blank_area : (ℕ → List ℕ) → List ℕ → Area
blank_area entries first = record {
  title = λ e. title_of (entry_in (entries e));
  firsts = λ e. firsts_of (entry_in (entries e));
  taken = λ p. is_taken p first;
  header = λ p. no_header;
  room = λ p. room_for (size_of_kind false (width (drop 1 (columns_in (entries 0)))));
  slot = λ at. free_slot;
  older = λ at. free_older;
}

module _ (ps : ℕ → List ℕ) (zeros : (p : ℕ) → IsZeros (ps p)) where
  header_none : (p : ℕ) → header_on ps p ≡ no_header
  header_none p = known (nat_lt p 3)
      (λ lt. ap (λ b. cond b no_header (header_in (ps p))) lt)
      (λ ge. ap (λ b. cond b no_header (header_in (ps p))) ge ∙ said)
    where
      said : header_in (ps p) ≡ no_header
      said = λ i. record {
        kind = byte_zero 0 (ps p) (zeros p) i;
        entry = byte_zero 1 (ps p) (zeros p) i;
        bucket = byte_zero 2 (ps p) (zeros p) i;
        next = word_zero 4 (ps p) (zeros p) i;
      }

  room_none : (p : ℕ) → room_for (size_on ps p) ≡ room_for (size_of_kind false (width (drop 1 (columns_in (entry_bytes ps 0)))))
  room_none p = ap (λ (h : Header). room_for (size_of_kind (h.kind == 1) (width (drop 1 (columns_in (entry_bytes ps h.entry)))))) (header_none p)

  slot_none : (at : Place) → slot_on ps at ≡ free_slot
  slot_none at =
      let said = slot_said (columns_on ps at.page) (slot_at (width_on ps at.page) at.slot (ps at.page)) in
      ap (λ (h : Header). cond (h.kind == 1) said free_slot) (header_none at.page)

  older_none : (at : Place) → older_on ps at ≡ free_older
  older_none at =
      let said = older_said (columns_on ps at.page) (older_at (width_on ps at.page) at.slot (ps at.page)) in
      ap (λ (h : Header). cond (h.kind == 2) said free_older) (header_none at.page)

  area_blank : area_of ps ≡ blank_area (entry_bytes ps) (ps 0)
  area_blank = λ i. record {
    title = λ e. title_of (entry_in (entry_bytes ps e));
    firsts = λ e. firsts_of (entry_in (entry_bytes ps e));
    taken = λ p. is_taken p (ps 0);
    header = λ p. header_none p i;
    room = λ p. room_none p i;
    slot = λ at. slot_none at i;
    older = λ at. older_none at i;
  }

  -- no entry has a page
  entry_zero : (e : ℕ) → field 1 0 (entry_bytes ps e) ≡ 0
  entry_zero e =
      let at = 256 * (e % 16) in
      let page = ps (1 + e / 16) in
      known (nat_lt e 32)
      (λ lt. ap (λ b. field 1 0 (cond b (piece at 256 page) [])) lt ∙ byte_zero 0 (piece at 256 page) (zeros_front 256 (drop at page) (zeros_behind at page (zeros (1 + e / 16)))))
      (λ ge. ap (λ b. field 1 0 (cond b (piece at 256 page) [])) ge ∙ byte_zero 0 [] (λ k. refl))

  firsts_none : (e : ℕ) → (area_of ps).firsts e ≡ no_pages
  firsts_none e = let bytes = entry_bytes ps e in ap (λ (n : ℕ). cond (n == 0) no_pages (firsts_said bytes)) (entry_zero e)
    where
      firsts_said : List ℕ → Firsts
      firsts_said bytes = record { buckets = map (λ b. first_in b bytes) bucket_numbers; versions = versions_first_in bytes }

  no_chain : (n : ℕ) (header : ℕ → Header) → pages_from n header 0 ≡ []
  no_chain zero header = refl
  no_chain (suc n) header = refl

  -- so that no check fails
  zeros_pass : (counted : ℕ) → ArePassed counted ps
  unfolding entry_check
  zeros_pass counted = record {
    entries = λ e lt. let at = 256 * (e % 16) in let page = ps (1 + e / 16) in
        ap (λ (n : ℕ). cond (n == 0) (Ok tt) (used_entry_check counted at page)) (byte_zero at page (zeros (1 + e / 16)));
    rows = λ e. subst (λ (f : Firsts). BucketsPass counted ps e 0 f.buckets) (sym (firsts_none e)) tt;
    versions = λ e. subst (λ (f : Firsts). ChainPasses counted ps (Versions e) f.versions) (sym (firsts_none e))
        (subst (AllByRecursion (λ q. header_check (Versions e) counted (ps q) ≡ Ok tt)) (sym (no_chain pages_bound (header_on ps))) tt);
    slots = λ e. subst (λ (f : Firsts). AllByRecursion (SlotPasses counted ps e) (flat_map (places_from (area_of ps)) f.buckets)) (sym (firsts_none e)) tt;
    older = λ e. subst (λ (f : Firsts). AllByRecursion (OlderPasses counted ps e) (places_from (area_of ps) f.versions)) (sym (firsts_none e))
        (subst (λ (l : List ℕ). AllByRecursion (OlderPasses counted ps e) (flat_map (λ q. places_on q 0 ((area_of ps).room q)) l)) (sym (no_chain pages_bound (header_on ps))) tt);
  }

-- ---- a new database

same_entry : (e : ℕ) → entry_bytes pages e ≡ entry_bytes new_pages e
same_entry e =
    let at = 256 * (e % 16) in
    known (nat_lt e 32)
    (λ lt. ap (λ (l : List ℕ). cond (nat_lt e 32) (piece at 256 l) []) (page_zero (1 + e / 16) (omega (arith, catalog_page e (below e 32 lt), some_pages))))
    (λ ge. ap (λ b. cond b (piece at 256 (pages (1 + e / 16))) []) ge ∙ sym (ap (λ b. cond b (piece at 256 (new_pages (1 + e / 16))) []) ge))

area_is : area_in new_state ≡ area_of new_pages
area_is =
    area_blank pages pages_zeros
    ∙ (λ i. blank_area (λ e. same_entry e i) (page_zero 0 (omega (arith, some_pages)) i))
    ∙ sym (area_blank new_pages (λ p. zero_at 4096))

pub new_is_state : IsSoundArea 64 no_tables (area_of new_pages) → IsDatabaseState new_state
unfolding pages_bound
new_is_state sound = record {
  passed = zeros_pass pages pages_zeros 64;
  sound = subst (IsSoundArea 64 no_tables) (sym area_is) sound;
  few = omega arith;
  some = omega arith;
}

pub new_has_no_rows : (committed : ℕ → Bool) → image_rows committed (area_of new_pages) ≡ [] → image_rows committed (area_in new_state) ≡ []
new_has_no_rows committed none = ap (image_rows committed) area_is ∙ none
