-- What is left of a slot: it is said, fits and is well made as the slot is.
use Rattle.std.proofs.Common.{◌≡◌, ℕ, ◌+◌, ◌≤◌, cond, Bool, true, false, List, None, refl, sym, subst, arith}
use Rattle.std.specs.Prelude.{◌==◌, nat_le}
use Rattle.std.specs.Option.{option_map}
use Rattle.std.proofs.lemmas.Bool.{leb-true}
use Rattle.std.proofs.lemmas.List.{length-replicate}
use Rattle.ctr_versions.proofs.Keys.{known}
use Rattle.ctr_types.specs.declared.value.Column.{Column}
use Rattle.ctr_page.specs.declared.rows.RowSlot.{RowSlot}
use Rattle.ctr_page.specs.Places.{slot_size}
use Rattle.ctr_page.specs.Making.{IsSlot}
use Rattle.ctr_passed.specs.area_Areas.{Slot, nowhere, free_slot}
use Rattle.ctr_passed.specs.area_Reading.{version_said, slot_said}
use Rattle.ctr_passed.specs.record_laws_Owed.{trimmed_slot}
use Rattle.ctr_passed.specs.Logged.{IsSlotOf}
use Rattle.ctr_trim.specs.declared.slots.TrimWay.{TrimWay}
use Rattle.ctr_trim.specs.declared.slots.TrimWay.TheVariants.{BehindHead, BehindPrevious, WholeSlot}
use Rattle.ctr_trim.specs.Trimming.{trimming_by, blank_of, slot_left}

-- a used slot is said by its own bytes
abbrev said_so : List Column → RowSlot → Slot
said_so cs s = record { used = true; key = s.key; head = version_said cs s.key s.head; previous = option_map (version_said cs s.key) s.previous; pointer = s.older }

head_left : (b : Bool) (o : Slot) → cond b (record o { previous = None; pointer = nowhere }) free_slot ≡ record (cond b o free_slot) { previous = None; pointer = nowhere }
head_left true o = refl
head_left false o = refl

both_left : (b : Bool) (o : Slot) → cond b (record o { pointer = nowhere }) free_slot ≡ record (cond b o free_slot) { pointer = nowhere }
both_left true o = refl
both_left false o = refl

-- what is left is said as the trimmed slot
pub left_said : (cs : List Column) (way : TrimWay) (s : RowSlot) → slot_said cs (slot_left way s) ≡ trimmed_slot (trimming_by way) (slot_said cs s)
left_said cs BehindHead s = head_left (s.used == 1) (said_so cs s)
left_said cs BehindPrevious s = both_left (s.used == 1) (said_so cs s)
left_said cs WholeSlot s = refl

blank_fits : (w : ℕ) → IsSlot w (blank_of w)
blank_fits w = record { used = omega arith; key = omega arith; head = (omega arith, omega arith, length-replicate w 0); previous = tt; older = (omega arith, omega arith) }

-- it can be made
pub left_fits : (way : TrimWay) (s : RowSlot) (w : ℕ) → IsSlot w s → IsSlot w (slot_left way s)
left_fits BehindHead s w fits = record { used = fits.used; key = fits.key; head = fits.head; previous = tt; older = (omega arith, omega arith) }
left_fits BehindPrevious s w fits = record { used = fits.used; key = fits.key; head = fits.head; previous = fits.previous; older = (omega arith, omega arith) }
left_fits WholeSlot s w fits = subst (λ n. IsSlot w (blank_of n)) (sym fits.head.2) (blank_fits w)

-- it is one of the table's
pub left_made : (way : TrimWay) (counted : ℕ) (cs : List Column) (s : RowSlot) → IsSlotOf counted cs s → IsSlotOf counted cs (slot_left way s)
left_made BehindHead counted cs s made =
    record { is = left_fits BehindHead s _ made.is; state = made.state; rows = λ used. ((made.rows used).0, tt); leads = λ used some. absurd (some refl) }
left_made BehindPrevious counted cs s made =
    record { is = left_fits BehindPrevious s _ made.is; state = made.state; rows = made.rows; leads = λ used some. absurd (some refl) }
left_made WholeSlot counted cs s made =
    record { is = left_fits WholeSlot s _ made.is; state = omega arith; rows = λ used. absurd (cc used); leads = λ used some. absurd (some refl) }

-- a slot isn't larger
pub slot_small : (w : ℕ) → w ≤ 2048 → slot_size w ≤ 2072
slot_small w narrow = known (nat_le w 200)
    (λ is. let few = below_200 is in subst (λ b. cond b (18 + w + 9 + w) (18 + w) + 6 ≤ 2072) (sym is) (omega (arith, few)))
    (λ isnt. subst (λ b. cond b (18 + w + 9 + w) (18 + w) + 6 ≤ 2072) (sym isnt) (omega (arith, narrow)))
  where
    below_200 : nat_le w 200 ≡ true → w ≤ 200
    below_200 is = leb-true w 200 is
