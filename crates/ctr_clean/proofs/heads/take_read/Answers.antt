use Rattle.std.proofs.Common.{◌≡◌, ⊎_elim, true, inl, inr, ℕ, ◌<◌, List, Some, Result, Ok, Err, sym, ◌∙◌, ap, subst, arith}
use Rattle.std.specs.Prelude.{IsTrue, OnOk, IfErr, ⊤, ◌==◌}
use Rattle.std.proofs.lemmas.Bool.{eqb-true}
use Rattle.ctr_disk.specs.declared.fault.StoreFault.{StoreFault}
use Rattle.ctr_disk.specs.declared.fault.StoreFault.TheVariants.{Fault}
use Rattle.ctr_pvs.specs.base_Base.{IsSoundImage}
use Rattle.ctr_rec.specs.declared.record.Record.TheVariants.{Revert}
use Rattle.ctr_pvs.specs.redo_States.{State}
use Rattle.ctr_page.specs.declared.rows.Place.{Place}
use Rattle.ctr_page.specs.declared.rows.RowSlot.{RowSlot}
use Rattle.ctr_page.specs.Places.{slot_size}
use Rattle.ctr_page.specs.Making.{slot_bytes, IsSlot}
use Rattle.ctr_page.specs.Reading.{slot_at, older_at}
use Rattle.ctr_area.specs.Areas.{Slot}
use Rattle.ctr_area.specs.Chains.{Leads}
use Rattle.ctr_area.specs.Reading.{header_on, columns_on}
use Rattle.ctr_area.specs.Sound.{IsKeptFor}
use Rattle.ctr_record_laws.specs.Owed.{Reverting, OwedByRevert}
use Rattle.ctr_record_laws.proofs.Room.{bound_suc}
use Rattle.ctr_record_effects.specs.States.{pages_in, area_in}
use Rattle.ctr_record_effects.specs.Changing.{laid_on_place}
use Rattle.ctr_record_effects.specs.Standing.{IsDatabaseState}
use Rattle.ctr_actions.specs.Sites.{site_of}
use Rattle.ctr_actions.specs.Actions.{Reverts, site_after}
use Rattle.ctr_pvs.specs.walk_OneRecord.{WhyNotLogged}
use Rattle.ctr_pvs.specs.walk_Damage.{damage_told}
use Rattle.ctr_pvs.proofs.walk_Limits.{below_limit}
use Rattle.ctr_dead.specs.passed_Laid.{width_in}
use Rattle.ctr_dead.specs.passed_Logged.{IsSlotOf, IsOlderOf}
use Rattle.ctr_dead.specs.page_turns_Acts.{ActsBy}
use Rattle.ctr_revert.specs.Reverting.{lost_record, slot_reverted, row_slot_at, revert_check, EndsReverting, RevertsRow}
use Rattle.ctr_dead.proofs.trim_Reading.{by_disk}
use Rattle.ctr_clean.specs.Heads.{HaveRoom, IsReadBehind}
use Rattle.ctr_clean.proofs.Headless.{said_so, is_said_so, slot_there, older_there, headless}
use Rattle.ctr_clean.proofs.heads.take_read.Given.{Over}
use Rattle.ctr_clean.proofs.heads.take_read.Goals.{After-revert_row}
use Rattle.ctr_clean.proofs.heads.take_read.Goals as goal

-- a used slot of a state, by its bytes
said_there : (s : State) (at : Place) → ((area_in s).slot at).used ≡ true
    → ((row_slot_at (pages_in s) at).used ≡ 1) × ((area_in s).slot at ≡ said_so (columns_on (pages_in s) at.page) (row_slot_at (pages_in s) at))
said_there s at used =
    let row = row_slot_at (pages_in s) at in
    let so = is_said_so ((header_on (pages_in s) at.page).kind == 1) (row.used == 1) (said_so (columns_on (pages_in s) at.page) row) used in
    (eqb-true row.used 1 so.0, so.1)

module _ (g : Over) (c : After-revert_row g) (e : ℕ) (way : Reverting) where
  abbrev s : State
  s = c.args.store.now.now

  abbrev at : Place
  at = c.args.place

  abbrev pages : ℕ → List ℕ
  pages = pages_in s

  abbrev wide : ℕ
  wide = width_in (area_in s) e

  abbrev row : RowSlot
  row = slot_at wide at.slot (pages at.page)

  module _ (database : IsDatabaseState s) (owed : OwedByRevert s.tables (area_in s) e at way) where
    same_row : row_slot_at pages at ≡ row
    same_row = ap (λ v. slot_at v at.slot (pages at.page)) (c.a_place_of_a_table_fits.ensures.rows s e at database owed.used.0).1

    module _ (read : IsReadBehind s at) where
      room : HaveRoom ((area_in s).title e).columns
      room = subst HaveRoom (c.a_place_of_a_table_fits.ensures.rows s e at database owed.used.0).2 (read.columns owed.used.1)

      some : 0 < s.counted
      some = let lt = (c.a_place_of_a_table_fits.ensures.rows s e at database owed.used.0).4 in omega (arith, lt)

      made : IsSlotOf s.counted ((area_in s).title e).columns row
      made = let fits = c.a_place_of_a_table_fits.ensures.rows s e at database owed.used.0 in slot_there s e database room some at owed.used.0 fits.5 read.here

      points : ((area_in s).slot at).pointer ≡ row.older
      points = ap (λ (x : Slot). x.pointer) (said_there s at owed.used.1).1 ∙ ap (λ (r : RowSlot). r.older) same_row

      -- the version entry behind it
      kept : (row.older.page ≡ 0 → ⊥) → IsOlderOf s.counted ((area_in s).title e).columns (older_at wide row.older.slot (pages row.older.page))
      kept some_ = subst (λ (q : Place). (q.page ≡ 0 → ⊥) → IsOlderOf s.counted ((area_in s).title e).columns (older_at wide q.slot (pages q.page))) points there some_
        where
          q : Place
          q = ((area_in s).slot at).pointer

          there : (q.page ≡ 0 → ⊥) → IsOlderOf s.counted ((area_in s).title e).columns (older_at wide q.slot (pages q.page))
          there more = ⊎_elim
              (λ none. absurd (more none))
              (λ (is : IsKeptFor (area_in s) e ((area_in s).slot at).key q ((area_in s).older q) × _).
              let fits = c.a_place_of_a_table_fits.ensures.versions s e q database is.0.0 in
              older_there s e database room some q is.0.0 fits.5 (read.behind owed.used.1 (below_limit q.page s.counted fits.4 c.counts_pages.ensures.1)))
              (subst (λ n. Leads n (area_in s).older (IsKeptFor (area_in s) e ((area_in s).slot at).key) q) bound_suc.1 (database.sound.pointers.lead e at owed.used))

      used_one : row.used ≡ 1
      used_one = sym (ap (λ (r : RowSlot). r.used) same_row) ∙ (said_there s at owed.used.1).0

      well_made : IsSlot wide (slot_reverted wide pages row) → IsSlotOf s.counted ((area_in s).title e).columns (slot_reverted wide pages row)
      well_made = headless s e database room some row used_one made kept

      acts : (x : ℕ) (told : IsTrue g.D.Disk.tells) (sound : IsSoundImage g.O.Origin.first) (result : Result ⊤ StoreFault) → RevertsRow g.O.Origin.first g.D.Disk at c.args.store.now c.revert_row.new.store result
          → OnOk result (site_of c.revert_row.new.store.now ≡ site_after x (Reverts e at way) (site_of s)) → OnOk result (ActsBy x (Reverts e at way) s c.revert_row.new.store.now)
      acts x told sound (Ok t) (y, w, bytes, logged, head) is =
          let h = head told sound in
          let on = (c.a_place_of_a_table_fits.ensures.rows s e at database owed.used.0).1 in
          let width : w ≡ wide = h.wide ∙ on in
          let fits : IsSlot wide (slot_reverted wide pages row) = subst (λ v. IsSlot v (slot_reverted v pages row)) width (subst (λ (r : RowSlot). IsSlot w (slot_reverted w pages r)) same_row h.fits) in
          c.a_record_acts.ensures x (Reverts e at way) (lost_record y at w bytes) c.args.store.now c.revert_row.new.store (logged.logs told sound) owed is
          (c.owed_slots_are_laid_as_their_actions.ensures.reverts s (lost_record y at w bytes) e at way (slot_reverted wide pages row) database owed
          (record {
            made = well_made fits;
            whole = read.here.0;
            lays = ap (λ b. Some (laid_on_place at (slot_size w) b)) h.bytes_are
                ∙ ap (λ (r : RowSlot). Some (laid_on_place at (slot_size w) (slot_bytes w (slot_reverted w pages r)))) same_row
                ∙ ap (λ v. Some (laid_on_place at (slot_size v) (slot_bytes v (slot_reverted v pages row)))) width;
          }))
      acts x told sound (Err f) ends is = tt

pub returns-clause-acts : goal.returns-clause-acts
returns-clause-acts g c = λ x e way told sound database read owed.
    acts g c e way database owed read x told sound c.revert_row.result c.revert_row.ensures.one (c.revert_row.ensures.leaves told sound database.sound x e way owed.used owed.fits)

pub returns-clause-refused : goal.returns-clause-refused
returns-clause-refused g c = λ e way told sound database owed. by e way told sound database owed c.revert_row.result (c.revert_row.ensures.ends told sound)
  where
    by : (e : ℕ) (way : Reverting) → IsTrue g.D.Disk.tells → IsSoundImage g.O.Origin.first → IsDatabaseState (s g c e way) → OwedByRevert (s g c e way).tables (area_in (s g c e way)) e c.args.place way → (result : Result ⊤ StoreFault)
        → EndsReverting (damage_told g.D.Disk c.revert_row.new.store) c.args.place c.args.store.now c.revert_row.new.store result → IfErr result (λ f. f ≡ Fault)
    by e way told sound database owed (Ok t) ends = tt
    by e way told sound database owed (Err f) (inl damage) =
        let st = c.args.store.now.now in
        by_disk {T = ⊤} (λ r. r ≡ revert_check st.counted (pages_in st) c.args.place) (damage_told g.D.Disk c.revert_row.new.store) f (c.a_head_is_taken_without_damage.ensures st e c.args.place database owed.used).ends damage
    by e way told sound database owed (Err f) (inr (passes, y, w, bytes, head, why)) =
        let st = c.args.store.now.now in
        let p = c.args.place in
        let o = laid_on_place p (slot_size w) bytes in
        c.a_record_is_refused_by_the_disk_alone.ensures 0 (Reverts e p way) o c.args.store.now c.revert_row.new.store (Err f) database owed (c.meta-tables.ensures.now told sound c.requires.room.going)
        (subst (λ z. WhyNotLogged (Revert z o) c.args.store.now c.revert_row.new.store f) (head.head ∙ sym (ap (λ (x : Slot). x.head.0) (said_there st p owed.used.1).1)) why)
