-- What readings of columns and of a row leave, one behind another, and why they are refused.
use Rattle.std.proofs.Common.{◌≡◌, ℕ, Option, Result, Ok, Err, refl}
use Rattle.std.specs.Prelude.{⊤}
use Rattle.ctr_types.specs.declared.memory.OutOfMemory.{OutOfMemory}
use Rattle.ctr_types.specs.declared.value.Schema.{Schema}
use Rattle.ctr_disk.specs.declared.disk.Disk.{Ghosts}
use Rattle.ctr_disk.specs.Image.{Image}
use Rattle.ctr_disk.specs.declared.fault.StoreFault.{StoreFault}
use Rattle.ctr_disk.specs.declared.fault.StoreFault.TheVariants.{Fault, Damaged}
use Rattle.ctr_rec.specs.declared.decoding.BadRecord.{BadRecord}
use Rattle.ctr_page.specs.declared.walk.BadChain.{BadChain}
use Rattle.ctr_page.specs.declared.walk.BadChain.TheVariants.{OnPage, TooLong}
use Rattle.ctr_store.specs.Store.{View}
use Rattle.ctr_reading.specs.walk_Damage.{EndsTold, ReadsPages}
use Rattle.ctr_reading.proofs.walk_Joins.{answers_ok}
use Rattle.ctr_reading.proofs.walk_Damages.{reads_err}
use Rattle.ctr_reading.specs.catalog_SchemaRefusal.{SchemaRefusal}
use Rattle.ctr_reading.specs.catalog_SchemaRefusal.TheVariants as without
use Rattle.ctr_reading.specs.catalog_Columns.{EndsChecked, as_given}
use Rattle.ctr_reading.specs.chain_ReadRefusal.{ReadRefusal}
use Rattle.ctr_reading.specs.chain_ReadRefusal.TheVariants as unread
use Rattle.ctr_reading.specs.Reading.{as_told, IsDiskOrMemory}
use Rattle.ctr_reading.proofs.Told.{reads_behind}
use Rattle.ctr_wishes.specs.Preparing.{schema_read}

-- an entry that passes its check is read without damage
pub disk_or_memory : (told : BadChain → StoreFault) (check : Result ⊤ BadRecord) (e : ℕ) (x : SchemaRefusal) → ((bad : BadRecord) → check ≡ Err bad → ⊥) → EndsTold told (EndsChecked check e) (as_given (Err x)) → IsDiskOrMemory (schema_read x)
disk_or_memory told check e (without.Store Fault) fine ends = refl
disk_or_memory told check e (without.Store (Damaged d)) fine (OnPage q bad, ends, is) = absurd (fine bad ends.0)
disk_or_memory told check e (without.Store (Damaged d)) fine (TooLong last most, ends, is) = absurd ends
disk_or_memory told check e without.OutOfMemory fine ends = tt

-- why columns aren't read is told as a reading's refusal
pub same_told : (x : SchemaRefusal) → as_given (Err x) ≡ as_told {T = Option Schema} (Err (schema_read x))
same_told (without.Store e) = refl
same_told without.OutOfMemory = refl

module _ {D : Type 0} (first : Image) (g : Ghosts D) where
  -- a refusal leaves what it leaves, whatever was asked for
  pub failed : (S T : Type 0) (e : ReadRefusal) (a b : View D) → ReadsPages first g a b (as_told {T = S} (Err e)) → ReadsPages first g a b (as_told {T = T} (Err e))
  failed S T (unread.Store e) a b one = reads_err first g _ _ e a b one
  failed S T unread.OutOfMemory a b one = answers_ok first g _ _ a b one

  -- what was read is read for another answer too, and where memory ran out behind it
  pub answered : (S T : Type 0) (x : S) (y : T) (a b : View D) → ReadsPages first g a b (as_told {T = S} (Ok x)) → ReadsPages first g a b (as_told {T = T} (Ok y))
  answered S T x y a b one = answers_ok first g _ _ a b one

  pub run_out : (S T : Type 0) (x : S) (a b : View D) → ReadsPages first g a b (as_told {T = S} (Ok x)) → ReadsPages first g a b (as_told {T = T} (Err unread.OutOfMemory))
  run_out S T x a b one = answers_ok first g _ _ a b one

  -- a reading behind one that was answered
  pub read_behind : (S T : Type 0) (x : S) (r : Result T ReadRefusal) (a b c : View D) → ReadsPages first g a b (as_told {T = S} (Ok x)) → ReadsPages first g b c (as_told {T = T} r) → ReadsPages first g a c (as_told {T = T} r)
  read_behind S T x r a b c one two =
      let y : Result S OutOfMemory = Ok x in
      reads_behind first g y (as_told r) a b c one two
