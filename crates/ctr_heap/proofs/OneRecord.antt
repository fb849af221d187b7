-- What may be logged where there is room for one record more, and which record it is.
use Rattle.std.proofs.Common.{◌≡◌, ℕ, ◌+◌, ◌-◌, ◌^◌, ◌<◌, ◌≤◌, List, ◌++◌, length, take, Option, None, Some, refl, sym, ◌∙◌, ap, subst, arith}
use Rattle.std.specs.Prelude.{IfSome}
use Rattle.std.proofs.lemmas.List.{take_at}
use Rattle.ctr_bytes.specs.Fields.{spelled}
use Rattle.ctr_bytes.proofs.FieldLaws.{length-spelled}
use Rattle.ctr_rec.specs.declared.record.Record.TheVariants.{Link}
use Rattle.ctr_page.specs.declared.header.Header.{Header}
use Rattle.ctr_page.specs.declared.rows.Place.{Place}
use Rattle.ctr_page.specs.declared.rows.RowSlot.{RowSlot}
use Rattle.ctr_page.specs.Places.{slot_size, start_of}
use Rattle.ctr_page.specs.Making.{header_bytes, slot_bytes, IsSlot}
use Rattle.ctr_page.proofs.Back.{length-more, length-slot}
use Rattle.ctr_walk.specs.record_effects_Changing.{format_record, laid_in_entry}
use Rattle.ctr_walk.specs.store_Store.{View, MayLog}
use Rattle.ctr_walk.specs.OneRecord.{HasRoomForOne}
use Rattle.ctr_walk.proofs.Records.{one_may}
use Rattle.ctr_heap.specs.Writing.{slot_width, LiesOnPage, row_record, front_place, front_record}

pub length-header : (h : Header) → length (header_bytes h) ≡ 16
length-header h =
    let k = spelled 1 h.kind in
    let e = spelled 1 h.entry in
    let b = spelled 1 h.bucket in
    let z = spelled 1 0 in
    let n = spelled 4 h.next in
    omega (arith, length-more 8 0 (k ++ e ++ b ++ z ++ n), length-more 4 h.next (k ++ e ++ b ++ z), length-more 1 0 (k ++ e ++ b), length-more 1 h.bucket (k ++ e), length-more 1 h.entry k, length-spelled 1 h.kind)

-- the record of a page at the front of a chain
pub front_is : (x p e : ℕ) (bucket : Option ℕ) → Link x p (laid_in_entry e (front_place bucket) (spelled 4 p)) ≡ front_record x p e bucket
front_is x p e None = refl
front_is x p e (Some b) = refl

-- the bytes of a slot, at the front of others
pub slot_laid : (slot : RowSlot) (payload : List ℕ) (n : ℕ) (into rest : List ℕ) → payload ≡ slot.head.payload → IsSlot (slot_width slot) slot → n ≡ slot_size (length payload)
    → into ≡ slot_bytes (length payload) slot ++ rest → take n into ≡ slot_bytes (slot_width slot) slot
slot_laid slot payload n into rest is fits number begins =
    let width : length payload ≡ slot_width slot = ap length is in
    ap (take n) begins ∙ take_at (slot_bytes (length payload) slot) rest n (length-slot (length payload) slot (subst (λ w. IsSlot w slot) (sym width) fits) ∙ sym number)
    ∙ ap (λ w. slot_bytes w slot) width

module _ {D : Type 0} (v : View D) (x : ℕ) (low : x < 2 ^ 64) where
  pub format_may : (p : ℕ) (h : Header) → v.now.counted ≤ 30000 → p < v.now.counted → HasRoomForOne 0 0 v → MayLog (format_record x p h) v
  format_may p h most counted room =
      let small : p < 30000 = omega (arith, most, counted) in
      one_may (format_record x p h) 0 0 v room
      (record {
        record_is = record { first = omega (arith, low); second = omega (arith, small); overlay = (refl, omega (arith, small), omega (arith, length-header h), omega (arith, length-header h)) };
        members = tt;
      })
      tt counted (omega arith) (omega arith)

  pub row_may : (over : ℕ) (at : Place) (slot : RowSlot) → over < 2 ^ 64 → LiesOnPage at slot → v.now.counted ≤ 30000 → at.page < v.now.counted
      → HasRoomForOne 0 0 v → MayLog (row_record x over at slot) v
  row_may over at slot other lies most counted room =
      let small : at.page < 30000 = omega (arith, most, counted) in
      one_may (row_record x over at slot) 0 0 v room
      (record {
        record_is = record { first = omega (arith, low); second = omega (arith, other); overlay = (refl, omega (arith, small), omega (arith, long), inside) };
        members = tt;
      })
      tt counted (omega arith) (omega arith)
    where
      long : length (slot_bytes (slot_width slot) slot) ≡ slot_size (slot_width slot)
      long = length-slot (slot_width slot) slot lies.is

      inside : start_of (slot_size (slot_width slot)) at.slot + length (slot_bytes (slot_width slot) slot) ≤ 4096
      inside = subst (λ n. start_of (slot_size (slot_width slot)) at.slot + n ≤ 4096) (sym long) lies.inside

  pub front_may : (p e : ℕ) (bucket : Option ℕ) → p < 30000 → e < 32 → 64 ≤ v.now.counted → IfSome bucket (λ b. b < 8) → HasRoomForOne 0 0 v → MayLog (front_record x p e bucket) v
  front_may p e None small few counted there room =
      one_may (front_record x p e None) 0 0 v room
      (record {
        record_is = record { first = omega (arith, low); second = omega (arith, small); overlay = (refl, omega (arith, few), omega (arith, length-spelled 4 p), omega (arith, length-spelled 4 p)) };
        members = tt;
      })
      tt (omega (arith, few, counted)) (omega arith) (omega arith)
  front_may p e (Some b) small few counted there room =
      one_may (front_record x p e (Some b)) 0 0 v room
      (record {
        record_is = record { first = omega (arith, low); second = omega (arith, small); overlay = (refl, omega (arith, few), omega (arith, length-spelled 4 p), omega (arith, there, length-spelled 4 p)) };
        members = tt;
      })
      tt (omega (arith, few, counted)) (omega arith) (omega arith)
