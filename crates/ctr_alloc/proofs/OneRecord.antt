-- What may be logged where there is room for one record more.
use Rattle.std.proofs.Common.{ℕ, ◌+◌, ◌/◌, ◌^◌, ◌<◌, ◌≤◌, refl, arith}
use Rattle.ctr_actions.specs.ctr_record_effects.Changing.{alloc_record, free_record}
use Rattle.ctr_walk.specs.store_Store.{View, MayLog}
use Rattle.ctr_walk.specs.OneRecord.{HasRoomForOne}

on_page : (p : ℕ) → p < 30000 → p / 8 + 1 ≤ 4096
on_page p small = omega (arith, small)

module _ {D : Type 0} (v : View D) (p byte : ℕ) (small : p < 30000) (counted : 64 ≤ v.now.counted) where
  pub alloc_may : (x : ℕ) → x < 2 ^ 64 → HasRoomForOne 0 1 v → MayLog (alloc_record x p byte) v
  alloc_may x low room = record {
    going = room.going;
    logged = record { record_is = record { first = omega (arith, low); second = omega (arith, small); overlay = (refl, omega arith, omega arith, on_page p small) }; members = tt };
    change = tt;
    counted = omega (arith, counted);
    opens = room.opens_fit;
    items = room.items_fit;
    room = room.room;
    number = room.number;
  }

  pub free_may : HasRoomForOne 0 0 v → MayLog (free_record p byte) v
  free_may room = record {
    going = room.going;
    logged = record { record_is = record { first = omega (arith, small); second = omega arith; overlay = (refl, omega arith, omega arith, on_page p small) }; members = tt };
    change = tt;
    counted = omega (arith, counted);
    opens = room.opens_fit;
    items = room.items_fit;
    room = room.room;
    number = room.number;
  }
