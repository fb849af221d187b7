-- What is read of an entry of the catalog is told.
use Rattle.std.proofs.Common.{◌≡◌, ℕ, ◌+◌, ◌/◌, ◌*◌, ◌%◌, ◌<◌, cond, List, [], Result, Ok, Err, refl, sym, ap}
use Rattle.std.specs.Prelude.{⊤, IfErr}
use Rattle.std.proofs.lemmas.Bool.{lt-ltb}
use Rattle.ctr_types.specs.declared.statement.Statement.{Statement}
use Rattle.ctr_disk.specs.declared.fault.StoreFault.{StoreFault}
use Rattle.ctr_disk.specs.declared.fault.StoreFault.TheVariants.{Fault, Damaged}
use Rattle.ctr_rec.specs.declared.decoding.BadRecord.{BadRecord}
use Rattle.ctr_page.specs.Columns.{entry_in, entry_at}
use Rattle.ctr_page.specs.Reading.{piece}
use Rattle.ctr_page.specs.declared.walk.BadChain.{BadChain}
use Rattle.ctr_page.specs.declared.walk.BadChain.TheVariants.{OnPage, TooLong}
use Rattle.ctr_area.specs.Reading.{area_of, title_of}
use Rattle.ctr_walk.specs.Damage.{EndsTold}
use Rattle.ctr_wishes.specs.ctr_reading.catalog_Columns.{EndsChecked}
use Rattle.ctr_asking.specs.Values.{bad_by, bad_in}

-- the title of an entry is read where it stands
pub title_here : (pages : ℕ → List ℕ) (statement : Statement) (e : ℕ) → e < 32 → bad_by statement (title_of (entry_at (e % 16) (pages (1 + e / 16)))) ≡ bad_in statement (area_of pages) e
title_here pages statement e few = sym (ap (λ b. bad_by statement (title_of (entry_in (cond b (piece (256 * (e % 16)) 256 (pages (1 + e / 16))) [])))) (lt-ltb e 32 few))

-- an entry that passes its check is read without damage
pub checked_undamaged : {T : Type 0} (told : BadChain → StoreFault) (check : Result ⊤ BadRecord) (e : ℕ) (result : Result T StoreFault) → ((bad : BadRecord) → check ≡ Err bad → ⊥) → EndsTold told (EndsChecked check e) result → IfErr result (λ e. e ≡ Fault)
checked_undamaged told check e (Ok x) fine ends = tt
checked_undamaged told check e (Err Fault) fine ends = refl
checked_undamaged told check e (Err (Damaged d)) fine (OnPage q bad, ends, is) = absurd (fine bad ends.0)
checked_undamaged told check e (Err (Damaged d)) fine (TooLong last most, ends, is) = absurd ends
