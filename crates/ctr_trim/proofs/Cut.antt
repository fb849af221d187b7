-- A version entry that leads nowhere: it is said, fits and is well made as the entry is.
use Rattle.std.proofs.Common.{◌≡◌, ℕ, cond, Bool, true, false, List, refl, arith}
use Rattle.std.specs.Prelude.{◌==◌}
use Rattle.ctr_types.specs.declared.value.Column.{Column}
use Rattle.ctr_page.specs.declared.rows.VersionEntry.{VersionEntry}
use Rattle.ctr_page.specs.Making.{IsEntry}
use Rattle.ctr_passed.specs.area_Areas.{Older, nowhere, free_older}
use Rattle.ctr_passed.specs.area_Reading.{version_said, older_said}
use Rattle.ctr_passed.specs.Logged.{IsOlderOf}
use Rattle.ctr_page.specs.declared.rows.Place.{Place}
use Rattle.ctr_passed.specs.redo_States.{State}
use Rattle.ctr_passed.specs.area_Chains.{older_bound, older_places}
use Rattle.ctr_passed.specs.area_Sound.{IsAmong, along}
use Rattle.ctr_record_effects.specs.States.{area_in}
use Rattle.ctr_record_effects.specs.Standing.{IsDatabaseState}
use Rattle.ctr_passed.specs.record_laws_Owed.{OwedByCut}
use Rattle.ctr_passed.proofs.Kept.{along_older, first_in}
use Rattle.ctr_trim.specs.Cutting.{entry_left}

-- a used version entry is said by its own bytes
abbrev said_so : List Column → VersionEntry → Older
said_so cs e = record { used = true; key = e.key; version = version_said cs e.key e.version; pointer = e.older }

cut_of : (b : Bool) (o : Older) → cond b (record o { pointer = nowhere }) free_older ≡ record (cond b o free_older) { pointer = nowhere }
cut_of true o = refl
cut_of false o = refl

pub cut_said : (cs : List Column) (e : VersionEntry) → older_said cs (entry_left e) ≡ record (older_said cs e) { pointer = nowhere }
cut_said cs e = cut_of (e.used == 1) (said_so cs e)

pub cut_fits : (e : VersionEntry) (w : ℕ) → IsEntry w e → IsEntry w (entry_left e)
cut_fits e w fits = record { used = fits.used; key = fits.key; version = fits.version; older = (omega arith, omega arith) }

pub cut_made : (counted : ℕ) (cs : List Column) (e : VersionEntry) → IsOlderOf counted cs e → IsOlderOf counted cs (entry_left e)
cut_made counted cs e made = record { is = cut_fits e _ made.is; state = made.state; row = made.row; leads = λ used some. absurd (some refl) }

-- the version entry behind which a chain is cut is one of the table's
pub cut_among : (passes : ℕ → Bool) (s : State) (e : ℕ) (at q : Place) → IsDatabaseState s → OwedByCut passes (area_in s) e at q → IsAmong q (older_places (area_in s) e)
cut_among passes s e at q database owed =
    let area = area_in s in
    along_older area e (area.slot at).key older_bound (area.slot at).pointer q (database.sound.pointers.lead e at owed.used) (first_in passes area.older q (along area at) owed.first)
