use Rattle.std.proofs.Common.{◌≡◌, ℕ, ◌∙◌, ap, subst}
use Rattle.std.specs.Prelude.{IsTrue, IfOk, IfErr}
use Rattle.ctr_base.specs.Base.{IsSoundImage}
use Rattle.ctr_load.specs.Statements.{load_columns}
use Rattle.ctr_disk.specs.declared.fault.StoreFault.TheVariants.{Fault}
use Rattle.ctr_meta.specs.Kept.{TablesKept}
use Rattle.ctr_meta.specs.Tables.{Tables}
use Rattle.ctr_walk.specs.redo_States.{State}
use Rattle.ctr_area.specs.Chains.{older_bound, slot_places, Leads}
use Rattle.ctr_area.specs.Images.{is_committed_in}
use Rattle.ctr_area.specs.Sound.{IsAmong, IsKeptFor}
use Rattle.ctr_record_effects.specs.States.{area_in}
use Rattle.ctr_record_effects.specs.Standing.{IsDatabaseState}
use Rattle.ctr_walk.proofs.Damages.{reads_err}
use Rattle.ctr_cursor.proofs.reading_Told.{reads_behind}
use Rattle.ctr_totals.specs.Facts.{number_along, IsKnownSlot, IsSeenIn}
use Rattle.ctr_totals.proofs.Seen.{in_slot, behind_slot}
use Rattle.ctr_totals.proofs.chains.seen_at.Given.{Over}
use Rattle.ctr_totals.proofs.chains.seen_at.Goals.{After-seen_in}
use Rattle.ctr_totals.proofs.chains.seen_at.Goals as goal

pub returns-in-Err-clause-leaves : goal.returns-in-Err-clause-leaves
returns-in-Err-clause-leaves g c = reads_err g.O.Origin.first g.D.Disk _ _ c.in-Err.fault c.args.store.now c.look_slot.new.store c.in-Err.ensures.leaves

module _ (g : Over) (c : After-seen_in g) (told : IsTrue g.D.Disk.tells) (sound : IsSoundImage g.O.Origin.first) where
  abbrev s : State
  s = c.args.store.now.now

  same : c.look_slot.new.store.now ≡ s
  same = (c.in-Ok.ensures.leaves.logs told sound).now

  tables : c.meta.result.now.tables ≡ s.tables
  tables = ap (λ (m : TablesKept). m.tables) c.meta.ensures.tables ∙ c.meta.ensures.now told sound c.in-Ok.ensures.leaves.going ∙ ap (λ (t : State). t.tables) same

  seen : IsSeenIn (is_committed_in s.tables) c.in-Ok.facts c.seen_in.result
  seen = subst (λ (t : Tables). IsSeenIn (is_committed_in t) c.in-Ok.facts c.seen_in.result) tables c.seen_in.ensures

  known : (e : ℕ) → IsDatabaseState s → ((area_in s).title e).columns ≡ load_columns → IsAmong c.args.place (slot_places (area_in s) e) → IsKnownSlot ((area_in s).slot c.args.place) c.in-Ok.facts
  known e database columns among = c.in-Ok.ensures.tells told sound ((c.a_place_of_a_table_fits.ensures.rows s e c.args.place database among).2 ∙ columns)

pub returns-in-Some-clause-tells : goal.returns-in-Some-clause-tells
returns-in-Some-clause-tells g c = λ e told sound database columns among.
    let k = (goal.at.returns-in-Some-clause-tells g c).After-seen_in in
    in_slot (is_committed_in c.args.store.now.now.tables) (area_in c.args.store.now.now) c.args.place c.in-Ok.facts c.in-Some.number (subst (IsSeenIn (is_committed_in c.args.store.now.now.tables) c.in-Ok.facts) c.in-Some.is (seen g k told sound)) (known g k told sound e database columns among)

pub returns-in-None-clause-tells : goal.returns-in-None-clause-tells
returns-in-None-clause-tells g c = λ e told sound database columns among.
    let k = (goal.at.returns-in-None-clause-tells g c).After-seen_in in
    let s = c.args.store.now.now in
    let at = c.args.place in
    let key = ((area_in s).slot at).key in
    let off = behind_slot (is_committed_in s.tables) (area_in s) at c.in-Ok.facts (subst (IsSeenIn (is_committed_in s.tables) c.in-Ok.facts) c.in-None.is (seen g k told sound)) (known g k told sound e database columns among) in
    let leads = subst (Leads older_bound (area_in s).older (IsKeptFor (area_in s) e key)) off.1 (database.sound.pointers.lead e at (among, off.0)) in
    let found = subst (λ (u : State). IsDatabaseState u → ((area_in u).title e).columns ≡ load_columns → Leads older_bound (area_in u).older (IsKeptFor (area_in u) e key) c.in-Ok.facts.next
    → IfOk c.seen_along.result (λ n. n ≡ number_along (is_committed_in u.tables) (area_in u) older_bound c.in-Ok.facts.next)) (same g k told sound) (c.seen_along.ensures.tells e key told sound) database columns leads in
    subst (λ x. IfOk c.seen_along.result (λ n. n ≡ x)) off.2 found

pub returns-in-None-clause-leaves : goal.returns-in-None-clause-leaves
returns-in-None-clause-leaves g c = reads_behind g.O.Origin.first g.D.Disk c.in-Ok.facts c.seen_along.result c.args.store.now c.look_slot.new.store c.seen_along.new.store c.in-Ok.ensures.leaves c.seen_along.ensures.leaves

pub returns-in-None-clause-refused : goal.returns-in-None-clause-refused
returns-in-None-clause-refused g c = λ e told sound database columns among.
    let k = (goal.at.returns-in-None-clause-refused g c).After-seen_in in
    let s = c.args.store.now.now in
    let at = c.args.place in
    let key = ((area_in s).slot at).key in
    let off = behind_slot (is_committed_in s.tables) (area_in s) at c.in-Ok.facts (subst (IsSeenIn (is_committed_in s.tables) c.in-Ok.facts) c.in-None.is (seen g k told sound)) (known g k told sound e database columns among) in
    let leads = subst (Leads older_bound (area_in s).older (IsKeptFor (area_in s) e key)) off.1 (database.sound.pointers.lead e at (among, off.0)) in
    subst (λ (u : State). IsDatabaseState u → ((area_in u).title e).columns ≡ load_columns → Leads older_bound (area_in u).older (IsKeptFor (area_in u) e key) c.in-Ok.facts.next → IfErr c.seen_along.result (λ f. f ≡ Fault))
    (same g k told sound) (c.seen_along.ensures.refused e key told sound) database columns leads
