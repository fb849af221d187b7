-- What frees a version entry, by what was found on the way.
use Rattle.std.proofs.Common.{◌≡◌, ◌≤◌, ℕ, inr, List, length, Result, Ok, Err, sym, ◌∙◌, ap}
use Rattle.std.specs.Prelude.{⊤, IsTrue, OnOk}
use Rattle.ctr_disk.specs.declared.disk.Disk.{Ghosts}
use Rattle.ctr_disk.specs.Image.{Image}
use Rattle.ctr_disk.specs.declared.fault.StoreFault.{StoreFault}
use Rattle.ctr_disk.specs.declared.fault.StoreFault.TheVariants.{Fault, Damaged}
use Rattle.ctr_walk.specs.base_Base.{IsSoundImage}
use Rattle.ctr_walk.specs.store_Store.{View}
use Rattle.ctr_walk.specs.OneRecord.{LogsOne}
use Rattle.ctr_walk.specs.Damage.{EndsTold}
use Rattle.ctr_passed.specs.record_effects_States.{pages_in}
use Rattle.ctr_page.specs.declared.rows.Place.{Place}
use Rattle.ctr_page.specs.declared.walk.BadChain.{BadChain}
use Rattle.ctr_page.specs.Places.{kept_size}
use Rattle.ctr_page.specs.Columns.{kinds_width}
use Rattle.ctr_passed.specs.area_Reading.{width_on}
use Rattle.ctr_walk.specs.declared.table.TableOf.{TableOf}
use Rattle.ctr_pvs.specs.Table.{TableSaid}
use Rattle.ctr_walk.specs.Tables.{kinds_said}
use Rattle.ctr_pvs.specs.Reading.{lies_check, PassesAt}
use Rattle.ctr_pvs.specs.Writing.{blank_record, drop_check, DropsEntry}
use Rattle.ctr_passed.specs.area_Changes.{IsPlaceOf}
use Rattle.ctr_pvs.proofs.Told.{page_of_table, by_table, place_of_version}

-- damage that is told of one answer is told of another
pub told_as : {B S T : Type 0} (told : B → StoreFault) (Ends : Result S B → Type 0) (Other : Result T B → Type 0) (e : StoreFault) → ((bad : B) → Ends (Err bad) → Other (Err bad)) → EndsTold told Ends (Err e)
    → EndsTold told Other (Err e)
told_as told Ends Other Fault f ends = tt
told_as told Ends Other (Damaged d) f (bad, ends, is) = (bad, f bad ends, is)

-- the table of the page was found, and the place lies on it
pub freeing_passes : (counted : ℕ) (pages : ℕ → List ℕ) (at : Place) (t : TableOf) (w : ℕ) → TableSaid 2 counted pages at.page (Ok t) → w ≡ kinds_width (kinds_said t) → lies_check (kept_size w) at.slot ≡ Ok tt
    → PassesAt (drop_check counted pages at) pages at w
freeing_passes counted pages at t w said is lies =
    let page = page_of_table 2 counted pages at.page t said in
    record {
      passes = by_table 2 counted pages at.page t (λ _ ks. lies_check (kept_size (kinds_width ks)) at.slot) (Ok tt) said (ap (λ v. lies_check (kept_size v) at.slot) (sym is) ∙ lies);
      behind_catalog = page.behind;
      of_kind = page.of_kind;
      wide = is ∙ page.wide;
      lies = lies;
    }

-- its record was given to the log
pub drops : {D : Type 0} (first : Image) (g : Ghosts D) (at : Place) (w : ℕ) (a b : View D) (result : Result ⊤ StoreFault) → LogsOne {T = ⊤} first g (blank_record at w) a b result
    → (IsTrue g.tells → IsSoundImage first → w ≡ width_on (pages_in a.now) at.page) → DropsEntry first g at a b result
drops first g at w a b (Ok x) one wide = (w, one, wide)
drops first g at w a b (Err e) one wide = inr (w, one)

-- what holds where a page is whole, of a place on it that was found
pub on_place : (result : Result ⊤ StoreFault) (check : Result ⊤ BadChain) (pages : ℕ → List ℕ) (at : Place) (w : ℕ) (P : Type 0) → PassesAt check pages at w → w ≤ 2048 → (IsPlaceOf 2 pages at → width_on pages at.page ≡ w → OnOk result P)
    → OnOk result (length (pages at.page) ≡ 4096) → OnOk result P
on_place (Ok x) check pages at w P passed narrow there whole = there (place_of_version pages at w passed.behind_catalog passed.of_kind passed.wide narrow passed.lies whole) (sym passed.wide)
on_place (Err e) check pages at w P passed narrow there whole = tt
