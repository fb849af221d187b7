-- What may be logged where there is room for one record more.
use Rattle.std.proofs.Common.{ℕ, ◌^◌, ◌<◌, ◌≤◌, List, length, refl, arith}
use Rattle.ctr_types.specs.declared.value.Column.{Column}
use Rattle.ctr_bytes.proofs.FieldLaws.{length-spelled}
use Rattle.ctr_names.specs.value_Columns.{ColumnsFit}
use Rattle.ctr_names.proofs.area_Made.{length-new}
use Rattle.ctr_alloc.specs.record_effects_Changing.{create_record, drop_record, uncreate_record, undrop_record}
use Rattle.ctr_alloc.specs.store_Store.{View, MayLog}
use Rattle.ctr_alloc.specs.walk_OneRecord.{HasRoomForOne}
use Rattle.ctr_alloc.proofs.walk_Records.{one_may}

module _ {D : Type 0} (v : View D) (e : ℕ) (few : e < 32) (counted : 64 ≤ v.now.counted) where
  module _ (x : ℕ) (low : x < 2 ^ 64) where
    pub create_may : (name : List ℕ) (cs : List Column) → length name ≤ 16 → ColumnsFit cs → HasRoomForOne 0 1 v → MayLog (create_record x e name cs) v
    create_may name cs short fits room =
        let long = length-new x name cs (omega (arith, low)) short fits in
        one_may (create_record x e name cs) 0 1 v room
        (record {
          record_is = record { first = omega (arith, low); second = omega (arith, few); overlay = (refl, omega (arith, few), omega (arith, long), omega (arith, long)) };
          members = tt;
        })
        tt (omega (arith, few, counted)) (omega arith) (omega arith)

    pub drop_may : HasRoomForOne 0 1 v → MayLog (drop_record x e) v
    drop_may room =
        one_may (drop_record x e) 0 1 v room
        (record {
          record_is = record { first = omega (arith, low); second = omega (arith, few); overlay = (refl, omega (arith, few), omega (arith, length-spelled 8 x), omega (arith, length-spelled 8 x)) };
          members = tt;
        })
        tt (omega (arith, few, counted)) (omega arith) (omega arith)

  pub uncreate_may : HasRoomForOne 0 0 v → MayLog (uncreate_record e) v
  uncreate_may room =
      one_may (uncreate_record e) 0 0 v room
      (record { record_is = record { first = omega (arith, few); second = omega arith; overlay = (refl, omega (arith, few), omega arith, omega arith) }; members = tt })
      tt (omega (arith, few, counted)) (omega arith) (omega arith)

  pub undrop_may : HasRoomForOne 0 0 v → MayLog (undrop_record e) v
  undrop_may room =
      one_may (undrop_record e) 0 0 v room
      (record { record_is = record { first = omega (arith, few); second = omega arith; overlay = (refl, omega (arith, few), omega (arith, length-spelled 8 0), omega (arith, length-spelled 8 0)) }; members = tt })
      tt (omega (arith, few, counted)) (omega arith) (omega arith)
