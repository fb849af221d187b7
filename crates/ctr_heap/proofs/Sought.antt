-- What is sought on a page by its bytes is what is sought in the area.
use Rattle.std.proofs.Common.{◌≡◌, ◌≢◌, ℕ, true, false, cond, List, drop, Ok, sym, ◌∙◌, ap, subst, arith}
use Rattle.std.specs.Prelude.{◌==◌, ◌&&◌, Option}
use Rattle.std.specs.Option.{option_map}
use Rattle.std.specs.Ordering.{int_eq}
use Rattle.std.proofs.lemmas.Bool.{eqb-true, eqb-false, eq-eqb, ne_eqb}
use Rattle.ctr_types.specs.declared.value.Column.{Column}
use Rattle.ctr_types.specs.declared.value.Kind.{Kind}
use Rattle.ctr_passed.proofs.versions_Keys.{known}
use Rattle.ctr_bytes.specs.Fields.{field}
use Rattle.ctr_bytes.proofs.FieldLaws.{got_byte}
use Rattle.ctr_rec.specs.Damage.{at_most}
use Rattle.ctr_page.specs.declared.rows.RowSlot.{RowSlot}
use Rattle.ctr_page.specs.Places.{slot_size, room_for, start_of}
use Rattle.ctr_page.specs.Reading.{piece, slot_at}
use Rattle.ctr_page.specs.Columns.{kinds_of, kinds_width, slot_start}
use Rattle.ctr_page.specs.Damage.{slot_check, used_slot_check}
use Rattle.ctr_page.specs.Searching.{IsFirst}
use Rattle.ctr_page.proofs.Holding.{kinds_wide, most_ok}
use Rattle.ctr_page.proofs.Searches.{ends_first}
use Rattle.ctr_passed.proofs.area_Bytes.{byte_in_piece}
use Rattle.ctr_passed.specs.area_Areas.{Slot, free_slot}
use Rattle.ctr_passed.specs.area_Reading.{version_said, slot_said, header_on, columns_on, width_on, size_of_kind, area_of}
use Rattle.ctr_heap.specs.declared.slots.SlotSought.{SlotSought}
use Rattle.ctr_heap.specs.declared.slots.SlotSought.TheVariants.{Key, Free}
use Rattle.ctr_heap.specs.Slots.{slot_is, checks_slot, seeks_slot, EndsSlots, is_sought, seeks_in}

-- a slot that passes its check is used or free
one_or_none : (kinds : List Kind) (counted start : ℕ) (page : List ℕ) → slot_check kinds counted start page ≡ Ok tt → field 1 start page ≢ 1 → field 1 start page ≡ 0
unfolding slot_check
one_or_none kinds counted start page e isnt =
    omega (
      arith,
      isnt,
      most_ok start 1 (field 1 start page) (sym (ap (λ b. cond b (used_slot_check kinds counted start page) (at_most start 1 (field 1 start page))) (ne_eqb (field 1 start page) 1 isnt)) ∙ e),
    )

-- by what it says of being used
said_same : (cs : List Column) (sought : SlotSought) (s : RowSlot) → (s.used ≢ 1 → s.used ≡ 0) → is_sought sought (slot_said cs s) ≡ slot_is sought s
said_same cs sought s fits = known (s.used == 1) (used sought) (unused sought)
  where
    there : Slot
    there = record { used = true; key = s.key; head = version_said cs s.key s.head; previous = option_map (version_said cs s.key) s.previous; pointer = s.older }

    used : (x : SlotSought) → (s.used == 1) ≡ true → is_sought x (cond (s.used == 1) there free_slot) ≡ slot_is x s
    used (Key key) is = ap (λ b. is_sought (Key key) (cond b there free_slot)) is ∙ sym (ap (λ b. b && int_eq s.key key) is)
    used Free is = ap (λ b. is_sought Free (cond b there free_slot)) is ∙ sym (ap (λ n. n == 0) (eqb-true s.used 1 is))

    unused : (x : SlotSought) → (s.used == 1) ≡ false → is_sought x (cond (s.used == 1) there free_slot) ≡ slot_is x s
    unused (Key key) isnt = ap (λ b. is_sought (Key key) (cond b there free_slot)) isnt ∙ sym (ap (λ b. b && int_eq s.key key) isnt)
    unused Free isnt = ap (λ b. is_sought Free (cond b there free_slot)) isnt ∙ sym (ap (λ n. n == 0) (fits (eqb-false s.used 1 isnt)))

-- the first byte of a slot says whether it is used
pub used_is : (w m : ℕ) (page : List ℕ) → (slot_at w m page).used ≡ field 1 (start_of (slot_size w) m) page
used_is w m page =
    let start = start_of (slot_size w) m in
    sym (got_byte 0 (piece start (slot_size w) page)) ∙ byte_in_piece start (slot_size w) page (omega arith) ∙ got_byte start page

module _ (pages : ℕ → List ℕ) (p counted : ℕ) (sought : SlotSought) (rows : (header_on pages p).kind ≡ 1) where
  abbrev kinds : List Kind
  kinds = kinds_of (columns_on pages p)

  abbrev w : ℕ
  w = kinds_width kinds

  wide : w ≡ width_on pages p
  wide = kinds_wide (drop 1 (columns_on pages p))

  same_sought : (m : ℕ) → checks_slot kinds counted (pages p) m ≡ Ok tt → seeks_in (area_of pages) p sought m ≡ seeks_slot w sought (pages p) m
  same_sought m passes =
      ap (λ b. is_sought sought (cond b (slot_said (columns_on pages p) (slot_at (width_on pages p) m (pages p))) free_slot)) (eq-eqb (header_on pages p).kind 1 rows)
      ∙ ap (λ v. is_sought sought (slot_said (columns_on pages p) (slot_at v m (pages p)))) (sym wide)
      ∙ said_same (columns_on pages p) sought (slot_at w m (pages p))
      (λ isnt. used_is w m (pages p) ∙ one_or_none kinds counted (slot_start kinds m) (pages p) passes (λ is. isnt (used_is w m (pages p) ∙ is)))

  rooms : room_for (slot_size w) ≡ (area_of pages).room p
  rooms = ap (λ v. room_for (slot_size v)) wide ∙ sym (ap (λ b. room_for (size_of_kind b (width_on pages p))) (eq-eqb (header_on pages p).kind 1 rows))

  pub first_in_area : (found : Option ℕ) → EndsSlots sought kinds counted (pages p) (Ok found) → IsFirst (seeks_in (area_of pages) p sought) 0 ((area_of pages).room p) found
  first_in_area found ends =
      subst (λ r. IsFirst (seeks_in (area_of pages) p sought) 0 r found) rooms
      (ends_first (checks_slot kinds counted (pages p)) (seeks_slot w sought (pages p)) (seeks_in (area_of pages) p sought) 0 (room_for (slot_size w)) found (λ m lt passes. same_sought m passes) ends)
