-- What may be logged of a version entry where there is room for one record more.
use Rattle.std.proofs.Common.{◌≡◌, ℕ, pos, ◌+◌, ◌^◌, ◌<◌, ◌≤◌, List, ◌++◌, length, take, refl, sym, ◌∙◌, ap, subst, arith}
use Rattle.std.proofs.lemmas.List.{take_at, length-replicate}
use Rattle.ctr_page.specs.declared.rows.Place.{Place}
use Rattle.ctr_page.specs.declared.rows.VersionEntry.{VersionEntry}
use Rattle.ctr_page.specs.Places.{kept_size, start_of}
use Rattle.ctr_page.specs.Making.{kept_bytes, IsEntry}
use Rattle.ctr_page.proofs.Back.{length-kept}
use Rattle.ctr_walk.specs.store_Store.{View, MayLog}
use Rattle.ctr_walk.specs.OneRecord.{HasRoomForOne}
use Rattle.ctr_walk.proofs.Records.{one_may}
use Rattle.ctr_pvs.specs.Writing.{entry_width, EntryLies, keep_record, blank_entry, blank_record}

-- the bytes of a version entry, at the front of others
pub entry_laid : (entry : VersionEntry) (payload : List ℕ) (n : ℕ) (into rest : List ℕ) → payload ≡ entry.version.payload → IsEntry (entry_width entry) entry → n ≡ kept_size (length payload)
    → into ≡ kept_bytes entry ++ rest → take n into ≡ kept_bytes entry
entry_laid entry payload n into rest is fits number begins =
    ap (take n) begins ∙ take_at (kept_bytes entry) rest n (length-kept (length payload) entry (subst (λ l. IsEntry (length l) entry) (sym is) fits) ∙ sym number)

-- one that isn't used, by its payload
abbrev pub blank_by : List ℕ → VersionEntry
blank_by payload = record { used = 0; key = pos 0; version = record { xid = 0; tombstone = 0; payload = payload }; older = record { page = 0; slot = 0 } }

-- a blank one can be made
pub blank_is : (w : ℕ) → IsEntry w (blank_entry w)
blank_is w = record { used = omega arith; key = omega arith; version = (omega arith, omega arith, length-replicate w 0); older = (omega arith, omega arith) }

module _ {D : Type 0} (v : View D) (x : ℕ) (low : x < 2 ^ 64) where
  pub keep_may : (at : Place) (entry : VersionEntry) → EntryLies at entry → v.now.counted ≤ 30000 → at.page < v.now.counted → HasRoomForOne 0 0 v → MayLog (keep_record x at entry) v
  keep_may at entry lies most counted room =
      let small : at.page < 30000 = omega (arith, most, counted) in
      one_may (keep_record x at entry) 0 0 v room
      (record {
        record_is = record { first = omega (arith, low); second = omega arith; overlay = (refl, omega (arith, small), omega (arith, long), inside) };
        members = tt;
      })
      tt counted (omega arith) (omega arith)
    where
      long : length (kept_bytes entry) ≡ kept_size (entry_width entry)
      long = length-kept (entry_width entry) entry lies.is

      inside : start_of (kept_size (entry_width entry)) at.slot + length (kept_bytes entry) ≤ 4096
      inside = subst (λ n. start_of (kept_size (entry_width entry)) at.slot + n ≤ 4096) (sym long) lies.inside

module _ {D : Type 0} (v : View D) where
  pub blank_may : (at : Place) (w : ℕ) → w ≤ 2048 → start_of (kept_size w) at.slot + kept_size w ≤ 4096 → v.now.counted ≤ 30000 → at.page < v.now.counted → HasRoomForOne 0 0 v → MayLog (blank_record at w) v
  blank_may at w narrow fits most counted room =
      let small : at.page < 30000 = omega (arith, most, counted) in
      one_may (blank_record at w) 0 0 v room
      (record {
        record_is = record { first = omega arith; second = omega arith; overlay = (refl, omega (arith, small), omega (arith, long), inside) };
        members = tt;
      })
      tt counted (omega arith) (omega arith)
    where
      long : length (kept_bytes (blank_entry w)) ≡ kept_size w
      long = length-kept w (blank_entry w) (blank_is w)

      inside : start_of (kept_size w) at.slot + length (kept_bytes (blank_entry w)) ≤ 4096
      inside = subst (λ n. start_of (kept_size w) at.slot + n ≤ 4096) (sym long) fits
