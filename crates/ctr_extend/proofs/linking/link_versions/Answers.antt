use Rattle.std.proofs.Common.{ℕ, ◌+◌, [], length, Err, refl, sym, ap, subst, ◌∙◌}
use Rattle.ctr_page.specs.declared.header.Header.{Header}
use Rattle.ctr_bytes.specs.Fields.{spelled}
use Rattle.ctr_page.specs.declared.table.TheConstants.{VERSIONS_AT}
use Rattle.ctr_page_turns.specs.record_laws_Owed.{versions_header}
use Rattle.ctr_page_turns.specs.record_effects_States.{pages_in}
use Rattle.ctr_meta.specs.Tables.{Tables}
use Rattle.ctr_meta.specs.declared.items.Wanted.TheVariants.{Allocation}
use Rattle.ctr_undamaged.specs.record_effects_Changing.{link_older_record, laid_in_entry}
use Rattle.ctr_page_turns.specs.passed_Logged.{IsBlankPage}
use Rattle.ctr_page_turns.specs.actions_Sites.{site_of}
use Rattle.ctr_page_turns.specs.actions_Actions.{LinksOlder, Owes, site_after}
use Rattle.ctr_stops.specs.actions_Facts.{HasBlank, HasNoPageBut, HoldsFact}
use Rattle.ctr_page_turns.specs.Turns.{LogsARecord}
use Rattle.ctr_extend.specs.declared.ways.Extended.TheVariants.{Linked}
use Rattle.ctr_extend.proofs.Steps.{moved}
use Rattle.ctr_extend.proofs.linking.link_versions.Goals as goal

pub returns-in-Ok-clause-turns : goal.returns-in-Ok-clause-turns
returns-in-Ok-clause-turns g c =
    c.a_turn_goes_on.ensures.answered g.O.Origin.first c.args.store.now c.link.new.store tt Linked (LogsARecord (link_older_record c.args.x c.args.page c.args.entry, c.in-Ok.ensures.one))

pub returns-in-Err-clause-turns : goal.returns-in-Err-clause-turns
returns-in-Err-clause-turns g c =
    c.a_turn_goes_on.ensures.failed g.O.Origin.first c.args.store.now c.link.new.store c.in-Err.fault (Err c.in-Err.fault) (Err c.in-Err.fault) (LogsARecord (link_older_record c.args.x c.args.page c.args.entry, c.in-Err.ensures.one)) refl refl

pub returns-in-Ok-clause-is : goal.returns-in-Ok-clause-is
returns-in-Ok-clause-is g c =
    let takes = c.in-Ok.ensures.one.takes in
    let fits = c.in-Ok.ensures.one.fits in
    (refl, ((takes.left, ap (λ (t : Tables). t.next) takes.tables), ap (λ (t : Tables). length t.items + 1) takes.tables ∙ c.an_item_goes.ensures (Allocation c.args.x c.args.page) c.args.store.now.meta.tables fits))

pub returns-in-Ok-clause-numbers : goal.returns-in-Ok-clause-numbers
returns-in-Ok-clause-numbers g c = c.in-Ok.ensures.one.takes.next

pub returns-in-Ok-clause-steps : goal.returns-in-Ok-clause-steps
returns-in-Ok-clause-steps g c = λ next told sound may first.
    let x = c.args.x in
    let p = c.args.page in
    let v = c.args.store.now in
    let w = c.link.new.store in
    let s = v.now in
    let e = c.in-Ok.ensures in
    let whole = e.whole told sound in
    let table = c.a_table_can_be_linked_to.ensures.parts s c.args.entry may.sound c.requires.there whole may.there in
    let leaves = e.leaves told sound table in
    let blank = subst (λ (n : ℕ). HoldsFact x (HasBlank p (versions_header c.args.entry n)) (site_of s)) first may.on_way.holds.0 in
    let owed : Owes x (LinksOlder p c.args.entry) (site_of s) = c.what_is_held_pays.ensures.older_linked x (site_of s) p c.args.entry blank c.requires.there in
    let laid = c.owed_records_are_laid_as_their_actions.ensures.links_older s x p c.args.entry may.sound owed whole (subst (λ (h : Header). IsBlankPage p h s) (sym may.on_way.holds.0.2) may.on_way.blank) in
    let acts = c.a_record_acts.ensures x (LinksOlder p c.args.entry) (link_older_record c.args.x c.args.page c.args.entry) v w (e.one.logs told sound) owed leaves laid in
    record {
      acts = acts;
      first = first;
      on_way = record {
        holds = (
          moved x (HasNoPageBut []) (site_after x (LinksOlder p c.args.entry) (site_of s)) (site_of w.now) leaves
              (c.an_action_gives_its_fact.ensures.gone x (LinksOlder p c.args.entry) p [] (site_of s) (c.pages_are_in_bounds.ensures (pages_in s)) may.sound.sound owed refl may.on_way.holds.1.0),
          tt,
        );
        blank = tt;
      };
    }

pub returns-in-Err-clause-refused : goal.returns-in-Err-clause-refused
returns-in-Err-clause-refused g c = λ next told sound may first.
    let x = c.args.x in
    let p = c.args.page in
    let v = c.args.store.now in
    let s = v.now in
    let blank = subst (λ (n : ℕ). HoldsFact x (HasBlank p (versions_header c.args.entry n)) (site_of s)) first may.on_way.holds.0 in
    c.a_record_is_refused_by_the_disk_alone.ensures x (LinksOlder p c.args.entry) (laid_in_entry c.args.entry VERSIONS_AT (spelled 4 p)) v c.link.new.store (Err c.in-Err.fault) may.sound (c.what_is_held_pays.ensures.older_linked x (site_of s) p c.args.entry blank c.requires.there)
    (c.meta-tables.ensures.now told sound c.requires.room.going) (c.in-Err.ensures.one.refused told sound)
