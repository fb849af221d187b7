-- The room that a turn has, and an item that goes.
use Rattle.std.proofs.Common.{◌≡◌, ℕ, suc, ◌+◌, ◌-◌, ◌^◌, ◌≤◌, ◌<◌, Bool, true, false, cond, List, [], ◌∷◌, length, Ok, sym, ◌∙◌, ap, subst, arith, refl}
use Rattle.std.specs.Prelude.{◌||◌}
use Rattle.std.specs.List.{list_any}
use Rattle.ctr_rec.specs.declared.record.SlogItem.{SlogItem}
use Rattle.ctr_meta.specs.declared.items.Wanted.{Wanted}
use Rattle.ctr_meta.specs.Items.{is_wanted, left_out}
use Rattle.ctr_meta.specs.Kept.{TablesKept}
use Rattle.ctr_meta.specs.Needs.{there}
use Rattle.ctr_walk.specs.store_Store.{View, KeepsRoom}
use Rattle.ctr_walk.specs.OneRecord.{HasRoomForOne}

pub room_still : {D : Type 0} (opens items : ℕ) (a b : View D) → KeepsRoom a b → b.stopped ≡ false → HasRoomForOne opens items a → HasRoomForOne opens items b
room_still opens items a b keeps going had =
    let room = had.room in
    let more = keeps.room in
    record {
      going = going;
      opens_fit = subst (λ (m : TablesKept). opens ≤ m.opens_room) (sym keeps.meta) had.opens_fit;
      items_fit = subst (λ (m : TablesKept). items ≤ m.items_room) (sym keeps.meta) had.items_fit;
      room = omega (arith, room, more);
      number = subst (λ (n : ℕ). n < 2 ^ 63 - 1) (sym keeps.next) had.number;
    }

pub less_room : {D : Type 0} (opens items : ℕ) (v : View D) → HasRoomForOne opens (items + 1) v → HasRoomForOne opens items v
less_room opens items v had =
    let fit = had.items_fit in
    record { going = had.going; opens_fit = had.opens_fit; items_fit = omega (arith, fit); room = had.room; number = had.number }

-- the earliest that is wanted goes
one_goes : (w : Wanted) (items : List SlogItem) → list_any (is_wanted w) items ≡ true → length (left_out w items) + 1 ≡ length items
one_goes w [] is = absurd cc
one_goes w (i ∷ items) is = by_case (one_goes w items) (is_wanted w i) refl
  where
    by_case : (list_any (is_wanted w) items ≡ true → length (left_out w items) + 1 ≡ length items) → (b : Bool) → is_wanted w i ≡ b
        → length (left_out w (i ∷ items)) + 1 ≡ length (i ∷ items)
    by_case behind true wanted = let n : length items + 1 ≡ suc (length items) = omega arith in ap (λ (b : Bool). length (cond b items (i ∷ left_out w items)) + 1) wanted ∙ n
    by_case behind false wanted =
        let here : (is_wanted w i || list_any (is_wanted w) items) ≡ true = is in
        let rest = behind (sym (ap (λ (b : Bool). b || list_any (is_wanted w) items) wanted) ∙ here) in
        let n : suc (length (left_out w items)) + 1 ≡ suc (length items) = omega (arith, rest) in
        ap (λ (b : Bool). length (cond b items (i ∷ left_out w items)) + 1) wanted ∙ n

is_there : (b : Bool) → there b ≡ Ok tt → b ≡ true
is_there true is = refl
is_there false is = absurd cc

pub item_goes : (w : Wanted) (items : List SlogItem) → there (list_any (is_wanted w) items) ≡ Ok tt → length (left_out w items) + 1 ≡ length items
item_goes w items is = one_goes w items (is_there (list_any (is_wanted w) items) is)
