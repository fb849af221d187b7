use Rattle.std.proofs.Common.{◌≡◌, false, [], Ok, sym, subst}
use Rattle.ctr_meta.specs.Needs.{needs}
use Rattle.ctr_meta.specs.Tables.{Tables}
use Rattle.ctr_rec.specs.declared.record.Record.TheVariants.{Abort}
use Rattle.ctr_page_turns.specs.record_effects_States.{pages_in}
use Rattle.ctr_page_turns.specs.actions_Sites.{site_of}
use Rattle.ctr_page_turns.specs.actions_Actions.{Aborts}
use Rattle.ctr_txn.specs.Held.{number_drawn}
use Rattle.ctr_rollback.proofs.Records.{refused_by_disk, three_ok}
use Rattle.ctr_rollback.proofs.calls.mark.Goals as goal

pub returns-clause-acts : goal.returns-clause-acts
returns-clause-acts g c = λ told sound owed.
    let x = number_drawn c.args.s c.args.txns.now in
    let a = c.args.store.now in
    let logs = c.mark_abort.ensures.one.logs told sound in
    three_ok c.mark_abort.result
    (λ logs leaves again. c.a_record_acts.ensures x Aborts (Abort x) a c.mark_abort.new.store logs owed leaves (c.records_without_bytes_lie_as_their_actions.ensures.aborts a.now x, tt))
    logs (c.mark_abort.ensures.leaves told sound) logs

pub returns-clause-refused : goal.returns-clause-refused
returns-clause-refused g c = λ told sound database owed.
    let x = number_drawn c.args.s c.args.txns.now in
    let a = c.args.store.now in
    refused_by_disk (Abort x) a c.mark_abort.new.store c.mark_abort.result
    (subst (λ (t : Tables). needs (Abort x) t ≡ Ok tt) (sym (c.meta-tables.ensures.now told sound c.requires.may.room.going))
    (c.an_action_meets_its_needs.ensures.fits x Aborts (site_of a.now) (record { page = 0; clear = false; offset = 0; bytes = [] }) (c.pages_are_in_bounds.ensures (pages_in a.now)) database.sound owed))
    (c.mark_abort.ensures.one.refused told sound)
