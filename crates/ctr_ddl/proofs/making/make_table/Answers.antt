use Rattle.std.proofs.Common.{◌/◌, ◌*◌, ◌%◌, ◌+◌, ◌<◌, ◌^◌, ⊎_elim, ap, Err, refl, arith, subst}
use Rattle.ctr_meta.specs.Tables.{Tables}
use Rattle.ctr_page_turns.specs.record_laws_Owed.{OwedByCreate}
use Rattle.ctr_area.specs.Changes.{ChangesEntry, new_title, empty_chains, with_title, with_firsts}
use Rattle.ctr_page.specs.Columns.{new_entry_bytes}
use Rattle.ctr_page_turns.specs.walk_Damage.{damage_told}
use Rattle.ctr_undamaged.specs.record_effects_Changing.{create_record, laid_at}
use Rattle.ctr_page_turns.specs.record_effects_States.{area_in}
use Rattle.ctr_undamaged.specs.catalog_CatalogRefusal.{CatalogRefusal}
use Rattle.ctr_undamaged.specs.catalog_Writing.{MakesTable, EndsMaking}
use Rattle.ctr_page_turns.specs.actions_Actions.{Creates}
use Rattle.ctr_page_turns.specs.Turns.{LogsARecord}
use Rattle.ctr_ddl.specs.declared.making.Made.TheVariants.{At}
use Rattle.ctr_ddl.proofs.Free.{is_free, isnt_free, refused_making}
use Rattle.ctr_ddl.proofs.making.make_table.Goals as goal

pub returns-in-Ok-clause-turns : goal.returns-in-Ok-clause-turns
returns-in-Ok-clause-turns g c =
    c.a_turn_goes_on.ensures.answered g.O.Origin.first c.args.store.now c.create.new.store c.in-Ok.entry (At c.in-Ok.entry)
    (LogsARecord (create_record c.args.x c.in-Ok.entry c.args.name.now c.args.schema.now.columns, c.in-Ok.ensures.one))

pub returns-in-Ok-clause-left : goal.returns-in-Ok-clause-left
returns-in-Ok-clause-left g c =
    let takes = c.in-Ok.ensures.one.takes in
    (takes.left, ap (λ (t : Tables). t.next) takes.tables)

pub returns-in-Ok-clause-numbers : goal.returns-in-Ok-clause-numbers
returns-in-Ok-clause-numbers g c = c.in-Ok.ensures.one.takes.next

pub returns-in-Ok-clause-makes : goal.returns-in-Ok-clause-makes
returns-in-Ok-clause-makes g c = λ told sound may.
    let x = c.args.x in
    let e = c.in-Ok.entry in
    let name = c.args.name.now in
    let columns = c.args.schema.now.columns in
    let v = c.args.store.now in
    let w = c.create.new.store in
    let done = c.in-Ok.ensures in
    let left = area_in w.now in
    let whole = done.whole told sound in
    let few = done.few in
    let named = c.as_slice-bytes.ensures.length in
    let low = c.ranges.x.fits in
    let fits : x < 256 ^ 8 = omega (arith, low) in
    let found = done.ends told sound in
    let free = is_free ((area_in v.now).title e).state found.2 in
    record {
      acts = c.a_record_acts.ensures x (Creates e name columns left) (create_record x e name columns) v w (done.one.logs told sound)
          (record { is_open = may.is_open; inside = few; free = free; unseen = may.unseen; alone = may.alone }, done.made told sound)
          (done.leaves told sound) (
            c.tables_lie_as_their_actions.ensures.creates v.now x e name columns left whole few fits named.1 c.requires.fits,
            c.tables_pass_their_checks.ensures.creates v.now x e name columns left whole few fits named c.requires.fits,
          );
      free = free;
      lowest = λ f before. isnt_free ((area_in v.now).title f).state (found.3 f (omega arith) before);
    }

pub returns-in-Store-clause-turns : goal.returns-in-Store-clause-turns
returns-in-Store-clause-turns g c =
    let first = g.O.Origin.first in
    let v = c.args.store.now in
    let w = c.create.new.store in
    let x = c.args.x in
    let name = c.args.name.now in
    let columns = c.args.schema.now.columns in
    let fault = c.in-Store.fault in
    let laws = c.a_turn_goes_on.ensures in
    ⊎_elim (λ read. laws.unread first v w fault (Err fault) (Err fault) read refl refl)
    (λ some. laws.failed first v w fault (Err fault) (Err fault) (LogsARecord (create_record x some.0 name columns, some.1)) refl refl)
    (subst (λ (r : CatalogRefusal). MakesTable first g.D.Disk (λ e. create_record x e name columns) v w (Err r)) c.in-Store.is c.in-Err.ensures.one)

pub returns-in-Store-clause-refused : goal.returns-in-Store-clause-refused
returns-in-Store-clause-refused g c = λ told sound may.
    let x = c.args.x in
    let name = c.args.name.now in
    let columns = c.args.schema.now.columns in
    let v = c.args.store.now in
    let w = c.create.new.store in
    let fault = c.in-Store.fault in
    let area = area_in v.now in
    let ends = subst (λ (r : CatalogRefusal). EndsMaking (damage_told g.D.Disk w) (λ e. create_record x e name columns) v w (Err r)) c.in-Store.is (c.in-Err.ensures.ends told sound) in
    refused_making (damage_told g.D.Disk w) (λ e. create_record x e name columns) v w fault (c.a_catalog_search_meets_no_damage.ensures.free v.now may.sound)
    (λ e lowest why.
    let left = with_firsts e empty_chains (with_title e (new_title x name columns) area) in
    let changes : ChangesEntry e (new_title x name columns) empty_chains area left = record { titles = λ f. refl; firsts = λ f. refl; taken = λ p. refl; headers = λ p. refl; rooms = λ p other. refl; slots = λ at other. refl; older = λ at other. refl } in
    let owed : OwedByCreate v.now.tables area x e name = record { is_open = may.is_open; inside = lowest.1; free = is_free (area.title e).state lowest.2; unseen = may.unseen; alone = may.alone } in
    c.a_record_is_refused_by_the_disk_alone.ensures x (Creates e name columns left) (laid_at (1 + e / 16) (256 * (e % 16)) (new_entry_bytes x name columns)) v w (Err fault) may.sound (owed, changes)
    (c.meta-tables.ensures.now told sound c.requires.room.going) why)
    ends
