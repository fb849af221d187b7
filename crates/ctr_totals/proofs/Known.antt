-- What is known of a slot and of a version entry that are lent.
use Rattle.std.proofs.Common.{◌≡◌, ◌≤◌, ℕ, ℤ, true, false, cond, Option, Some, None, refl, sym, subst, arith}
use Rattle.std.specs.Prelude.{◌==◌, length}
use Rattle.std.specs.Option.{option_map}
use Rattle.ctr_load.specs.Statements.{load_columns}
use Rattle.ctr_page.specs.Making.{IsPrevious}
use Rattle.ctr_area.specs.Areas.{free_slot, free_older}
use Rattle.ctr_area.specs.Reading.{version_said, slot_said, older_said}
use Rattle.ctr_pvs.specs.declared.slot.LentPart.{LentPart}
use Rattle.ctr_pvs.specs.declared.slot.LentSlot.{LentSlot}
use Rattle.ctr_pvs.specs.declared.lending.LentVersion.{LentVersion}
use Rattle.ctr_pvs.specs.Slots.{part_lent, slot_lent}
use Rattle.ctr_pvs.specs.Lending.{entry_lent}
use Rattle.ctr_passed.specs.Logged.{IsSlotOf, IsOlderOf}
use Rattle.ctr_totals.specs.declared.facts.VersionFacts.{VersionFacts}
use Rattle.ctr_totals.specs.Facts.{IsKnown, IsKnownIfAny, AreKnown, IsKnownSlot, IsKnownOlder}

-- rows with the generated columns are 21 bytes wide
long : (n : ℕ) → n ≡ 21 → 8 ≤ n
long n is = omega (arith, is)

previous_known : (key : ℤ) (part : Option LentPart) (f : Option VersionFacts) → IsPrevious 21 (option_map part_lent part) → IsKnownIfAny key part f → AreKnown (option_map (version_said load_columns key) (option_map part_lent part)) f
previous_known key None None fits known = tt
previous_known key (Some p) (Some f) fits known = known (long (length p.payload.now) fits.2.2)
previous_known key None (Some f) fits known = absurd known
previous_known key (Some p) None fits known = absurd known

pub slot_known : (counted : ℕ) (l : LentSlot) (head : VersionFacts) (previous : Option VersionFacts) → IsSlotOf counted load_columns (slot_lent l)
    → (8 ≤ length l.head.payload.now → IsKnown (version_said load_columns l.key (part_lent l.head)) head) → IsKnownIfAny l.key l.previous previous
    → IsKnownSlot (slot_said load_columns (slot_lent l)) (record { used = l.used == 1; head = head; previous = previous; next = l.older })
slot_known counted l head previous made known others = elim (l.used == 1) as (λ b. IsKnownSlot (cond b (record {
  used = true;
  key = l.key;
  head = version_said load_columns l.key (part_lent l.head);
  previous = option_map (version_said load_columns l.key) (option_map part_lent l.previous);
  pointer = l.older;
}) free_slot) (record { used = b; head = head; previous = previous; next = l.older })) [
  | true ↦ record {
    used = refl;
    head = λ u. known (long (length l.head.payload.now) made.is.head.2);
    previous = λ u. previous_known l.key l.previous previous made.is.previous others;
    next = λ u. refl;
  }
  | false ↦ record { used = refl; head = λ u. absurd cc; previous = λ u. absurd cc; next = λ u. absurd cc }
]

pub older_known : (counted : ℕ) (l : LentVersion) (f : VersionFacts) → l.used ≡ 1 → IsOlderOf counted load_columns (entry_lent l)
    → (8 ≤ length l.payload.now → IsKnown (version_said load_columns l.key (record { xid = l.xid; tombstone = l.tombstone; payload = l.payload.now })) f)
    → IsKnownOlder (older_said load_columns (entry_lent l)) (record { version = f; next = l.older })
older_known counted l f used made known = subst (λ (u : ℕ). IsKnownOlder (cond (u == 1) (record {
  used = true;
  key = l.key;
  version = version_said load_columns l.key (record { xid = l.xid; tombstone = l.tombstone; payload = l.payload.now });
  pointer = l.older;
}) free_older) (record { version = f; next = l.older })) (sym used) (record { version = known (long (length l.payload.now) made.is.version.2); next = refl })
