use Rattle.std.proofs.Common.{◌≡◌, ℕ, Bool, inl, [], ◌∷◌, List, Some, refl, sym, ◌∙◌, ap, subst}
use Rattle.std.specs.Prelude.{IsTrue, OnOk, ⊤}
use Rattle.ctr_pvs.specs.base_Base.{IsSoundImage}
use Rattle.ctr_types.specs.declared.value.Column.{Column}
use Rattle.ctr_rec.specs.declared.record.Record.{Record}
use Rattle.ctr_passed.specs.redo_States.{State}
use Rattle.ctr_page.specs.declared.rows.Place.{Place}
use Rattle.ctr_page.specs.declared.rows.VersionEntry.{VersionEntry}
use Rattle.ctr_page.specs.Places.{kept_size}
use Rattle.ctr_page.specs.Making.{kept_bytes, IsEntry}
use Rattle.ctr_passed.specs.area_Areas.{Older, nowhere}
use Rattle.ctr_passed.specs.area_Reading.{older_said, columns_on, width_on}
use Rattle.ctr_passed.specs.area_Chains.{older_places}
use Rattle.ctr_passed.specs.area_Changes.{with_older}
use Rattle.ctr_passed.specs.area_Sound.{IsAmong}
use Rattle.ctr_pvs.specs.store_Store.{Logs}
use Rattle.ctr_pvs.specs.walk_OneRecord.{LogsOne}
use Rattle.ctr_pvs.specs.walk_Damage.{damage_told}
use Rattle.ctr_pvs.proofs.walk_Records.{both_ok, one_behind}
use Rattle.ctr_record_effects.specs.States.{pages_in, area_in, IsWholePage}
use Rattle.ctr_record_effects.specs.Changing.{laid_on_place}
use Rattle.ctr_record_effects.specs.Standing.{IsDatabaseState}
use Rattle.ctr_passed.specs.record_laws_Owed.{OwedByCut}
use Rattle.ctr_passed.specs.actions_Sites.{site_of}
use Rattle.ctr_passed.specs.actions_Actions.{Cuts, site_after}
use Rattle.ctr_passed.specs.Laid.{width_in}
use Rattle.ctr_passed.specs.Logged.{IsOlderOf}
use Rattle.ctr_pvs.specs.Reading.{version_check_at}
use Rattle.ctr_pvs.specs.Writing.{entry_width}
use Rattle.ctr_page_turns.specs.Acts.{ActsBy}
use Rattle.ctr_trim.specs.declared.entries.EntryLaid.{EntryLaid}
use Rattle.ctr_trim.specs.Trimming.{EndsCheck}
use Rattle.ctr_trim.specs.Cutting.{entry_left, cut_record, IsEntryThere}
use Rattle.ctr_trim.proofs.Cut.{cut_said, cut_fits, cut_made, cut_among}
use Rattle.ctr_trim.proofs.Reading.{reads_fault, by_disk, three_ok}
use Rattle.ctr_trim.proofs.Logged.{cut_is, cuts}
use Rattle.ctr_trim.proofs.cutting.cut_behind.Given.{Over}
use Rattle.ctr_trim.proofs.cutting.cut_behind.Goals.{After-lay_cut}
use Rattle.ctr_trim.proofs.cutting.cut_behind.Goals as goal

pub returns-in-Err-clause-one : goal.returns-in-Err-clause-one
returns-in-Err-clause-one g c = inl (reads_fault g.O.Origin.first g.D.Disk c.args.store.now c.read_cut.new.store EntryLaid ⊤ c.in-Err.fault c.read_cut.result c.in-Err.is c.read_cut.ensures.leaves)

pub returns-in-Err-clause-refused : goal.returns-in-Err-clause-refused
returns-in-Err-clause-refused g c = λ e passes at told sound database owed.
    let s = c.args.store.now.now in
    let q = c.args.place in
    let none = c.a_version_entry_is_read_without_damage.ensures.read s e q database (cut_among passes s e at q database owed) in
    by_disk {T = EntryLaid} (EndsCheck (version_check_at s.counted (pages_in s) q)) (damage_told g.D.Disk c.read_cut.new.store) c.in-Err.fault
    (λ bad fails. none.ends bad fails) (c.in-Err.ensures.ends told sound)

-- what is left of the version entry was laid
module _ (g : Over) (c : After-lay_cut g) where
  abbrev entry : VersionEntry
  entry = c.in-Ok.ensures.laid.entry

  abbrev r : Record
  r = cut_record c.args.place entry

  abbrev s : State
  s = c.args.store.now.now

  one : LogsOne {T = ⊤} g.O.Origin.first g.D.Disk r c.args.store.now c.lay_cut.new.store c.lay_cut.result
  one =
      one_behind g.O.Origin.first g.D.Disk r c.args.store.now c.read_cut.new.store c.lay_cut.new.store c.in-Ok.laid c.in-Ok.ensures.leaves c.lay_cut.result
      (subst (λ (q : Record). LogsOne {T = ⊤} g.O.Origin.first g.D.Disk q c.read_cut.new.store c.lay_cut.new.store c.lay_cut.result) (cut_is c.args.place entry c.in-Ok.laid c.in-Ok.ensures.laid.bytes_of) c.lay_cut.ensures.one)

  module _ (told : IsTrue g.D.Disk.tells) (sound : IsSoundImage g.O.Origin.first) where
    there : IsEntryThere s c.args.place entry
    there = c.in-Ok.ensures.laid.there (told, sound)

    whole : OnOk c.lay_cut.result (IsWholePage c.args.place.page s)
    whole = subst (λ (t : State). OnOk c.lay_cut.result (IsWholePage c.args.place.page t)) (c.in-Ok.ensures.leaves.logs told sound).now (c.lay_cut.ensures.whole told sound)

    module _ (database : IsDatabaseState s) (e : ℕ) (among : IsAmong c.args.place (older_places (area_in s) e)) where
      made : IsOlderOf s.counted ((area_in s).title e).columns entry
      made = subst (λ (cs : List Column). IsOlderOf s.counted cs entry) (c.a_place_of_a_table_fits.ensures.versions s e c.args.place database among).2 there.made

      width : entry_width entry ≡ width_in (area_in s) e
      width = c.a_version_is_put_at_its_place.ensures.width s e entry made

      site : (x : ℕ) (passes : ℕ → Bool) (at : Place) → OnOk c.lay_cut.result (site_of c.lay_cut.new.store.now ≡ site_after x (Cuts passes e at c.args.place) (site_of s))
      site x passes at =
          let q = c.args.place in
          let left = entry_left entry in
          let o = laid_on_place q (kept_size (entry_width entry)) (kept_bytes left) in
          let fits = c.a_place_of_a_table_fits.ensures.versions s e q database among in
          let wide : entry_width entry ≡ width_on (pages_in s) q.page = width ∙ sym fits.1 in
          let cut : Older → Older = λ older. record older { pointer = nowhere } in
          let said : older_said (columns_on (pages_in s) q.page) left ≡ cut ((area_in s).older q) = cut_said (columns_on (pages_in s) q.page) entry ∙ ap cut there.said in
          both_ok c.lay_cut.result (Logs (r ∷ []) c.args.store.now c.lay_cut.new.store) (IsWholePage q.page s) (site_of c.lay_cut.new.store.now ≡ site_after x (Cuts passes e at q) (site_of s))
          (λ logs page.
          ap site_of logs.now
          ∙ c.a_logged_record_is_its_action.ensures.leaves x (Cuts passes e at q) s o refl
          (c.a_version_is_laid.ensures s r q left page (fits.0 page) (subst (λ w. IsEntry w left) wide (cut_fits entry (entry_width entry) c.in-Ok.ensures.laid.fits))
          (ap (λ w. Some (laid_on_place q (kept_size w) (kept_bytes left))) wide)
          ∙ ap (λ (z : Older). with_older q z (area_in s)) said))
          (one.logs told sound) whole

      acts : (x : ℕ) (passes : ℕ → Bool) (at : Place) → OwedByCut passes (area_in s) e at c.args.place → OnOk c.lay_cut.result (ActsBy x (Cuts passes e at c.args.place) s c.lay_cut.new.store.now)
      acts x passes at owed =
          let q = c.args.place in
          let left = entry_left entry in
          three_ok c.lay_cut.result
          (λ logs page is.
          c.a_record_acts.ensures x (Cuts passes e at q) r c.args.store.now c.lay_cut.new.store logs owed is
          (c.owed_versions_are_laid_as_their_actions.ensures.cuts s r passes e at q left database owed
          (record { made = cut_made s.counted ((area_in s).title e).columns entry made; whole = page; lays = ap (λ w. Some (laid_on_place q (kept_size w) (kept_bytes left))) width })))
          (one.logs told sound) whole (site x passes at)

pub returns-in-Ok-clause-one : goal.returns-in-Ok-clause-one
returns-in-Ok-clause-one g c = cuts g.O.Origin.first g.D.Disk c.args.place c.args.store.now c.lay_cut.new.store (entry g c) c.lay_cut.result (one g c) (there g c)

pub returns-in-Ok-clause-leaves : goal.returns-in-Ok-clause-leaves
returns-in-Ok-clause-leaves g c = λ x e passes told sound database among. site g c told sound database e among x passes c.args.place

pub returns-in-Ok-clause-acts : goal.returns-in-Ok-clause-acts
returns-in-Ok-clause-acts g c = λ x e passes at told sound database owed. acts g c told sound database e (cut_among passes (s g c) e at c.args.place database owed) x passes at owed
