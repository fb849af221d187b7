-- What is shown behind the record of a version entry.
use Rattle.std.proofs.Common.{◌≡◌, ℕ, Bool, sym, ◌∙◌, ap, subst}
use Rattle.ctr_passed.specs.meta_Tables.{Tables}
use Rattle.ctr_passed.specs.redo_States.{State}
use Rattle.ctr_passed.specs.area_Areas.{Area}
use Rattle.ctr_passed.specs.area_Images.{image_rows, versions_in}
use Rattle.ctr_passed.specs.area_Sound.{IsSoundArea}
use Rattle.ctr_passed.specs.record_effects_States.{area_in}
use Rattle.ctr_passed.specs.record_effects_Standing.{HasSoundArea, ShowsAlike}

-- a state whose pages are an area that is sound with as many pages and with these tables
pub sound_by : (t : State) (counted : ℕ) (tables : Tables) (area : Area) → area_in t ≡ area → t.counted ≡ counted → t.tables ≡ tables → IsSoundArea counted tables area → HasSoundArea t
sound_by t counted tables area is same_count same_tables sound =
    subst (λ n. IsSoundArea n t.tables (area_in t)) (sym same_count) (subst (λ ts. IsSoundArea counted ts (area_in t)) (sym same_tables) (subst (IsSoundArea counted tables) (sym is) sound))

pub shows_by : (s t : State) (area : Area) → area_in t ≡ area → t.counted ≡ s.counted → t.tables ≡ s.tables → ((committed : ℕ → Bool) → versions_in committed area ≡ versions_in committed (area_in s))
    → ((committed : ℕ → Bool) → image_rows committed area ≡ image_rows committed (area_in s)) → IsSoundArea s.counted s.tables area → ShowsAlike s t
shows_by s t area is same_count same_tables versions rows sound = record {
  versions = λ committed. ap (versions_in committed) is ∙ versions committed;
  rows = λ committed. ap (image_rows committed) is ∙ rows committed;
  tables = same_tables;
  sound = sound_by t s.counted s.tables area is same_count same_tables sound;
}
