use Rattle.std.proofs.Common.{◌≡◌, Ok, sym, subst}
use Rattle.ctr_meta.specs.Needs.{needs}
use Rattle.ctr_meta.specs.Tables.{Tables}
use Rattle.ctr_page_turns.specs.record_effects_States.{pages_in}
use Rattle.ctr_page_turns.specs.actions_Sites.{site_of}
use Rattle.ctr_page_turns.specs.actions_Actions.{undoing}
use Rattle.ctr_catalog.specs.Writing.{undo_record}
use Rattle.ctr_rollback.proofs.Records.{made_of, undo_laid, undo_fits, refused_by_disk, three_ok}
use Rattle.ctr_rollback.proofs.calls.undo.Goals as goal

pub returns-clause-acts : goal.returns-clause-acts
returns-clause-acts g c = λ x told sound database owed.
    let i = c.args.item.now in
    let a = c.args.store.now in
    let b = c.undo_item.new.store in
    let one = c.undo_item.ensures.one in
    let laws = c.owed_records_are_laid_as_their_actions.ensures in
    let pages = c.pages_lie_as_their_actions.ensures in
    three_ok c.undo_item.result
    (λ logs leaves whole. c.a_record_acts.ensures x (undoing i) (undo_record i one.0) a b logs owed leaves (undo_laid pages.frees pages.reclaims laws.uncreates laws.undrops x a.now database i one.0 owed whole))
    (one.1.logs told sound)
    (c.undo_item.ensures.leaves x told sound (made_of x a.now database i owed))
    (c.undo_item.ensures.whole told sound)

pub returns-clause-refused : goal.returns-clause-refused
returns-clause-refused g c = λ x told sound database owed.
    let i = c.args.item.now in
    let a = c.args.store.now in
    let one = c.undo_item.ensures.one in
    let site = site_of a.now in
    refused_by_disk (undo_record i one.0) a c.undo_item.new.store c.undo_item.result
    (subst (λ (t : Tables). needs (undo_record i one.0) t ≡ Ok tt) (sym (c.meta-tables.ensures.now told sound c.requires.room.going))
    (undo_fits c.an_action_meets_its_needs.ensures.fits x site (c.pages_are_in_bounds.ensures (pages_in a.now)) database.sound i one.0 owed))
    (one.1.refused told sound)
