use Rattle.std.proofs.Common.{◌≡◌, false, [], Ok, sym, subst}
use Rattle.ctr_meta.specs.Needs.{needs}
use Rattle.ctr_meta.specs.Tables.{Tables}
use Rattle.ctr_rec.specs.declared.record.Record.TheVariants.{Commit}
use Rattle.ctr_record_effects.specs.States.{pages_in}
use Rattle.ctr_actions.specs.Sites.{site_of}
use Rattle.ctr_actions.specs.Actions.{Commits}
use Rattle.ctr_writing.specs.ctr_session_world.txn_Held.{number_drawn}
use Rattle.ctr_writing.proofs.ctr_session_world.rollback_Records.{refused_by_disk, three_ok}
use Rattle.ctr_control.proofs.marks.ask_for.Goals as goal

pub returns-clause-marks : goal.returns-clause-marks
returns-clause-marks g c = λ told sound owed.
    let x = number_drawn c.args.s c.args.txns.now in
    let a = c.args.store.now in
    let b = c.ask_commit-asked.new.store in
    let one = c.ask_commit-asked.ensures.one in
    three_ok c.ask_commit-asked.result
    (λ logs leaves going. record {
      acts = c.a_record_acts.ensures x Commits (Commit x) a b logs owed leaves (c.records_without_bytes_lie_as_their_actions.ensures.commits a.now x, tt);
      logs = record { rec = Commit x; logs = logs; front = one.any_moment told sound; rests = c.rests.ensures told sound going; later = one.time.later };
    })
    (one.logs told sound) (c.ask_commit-asked.ensures.leaves told sound) one.going

pub returns-clause-refused : goal.returns-clause-refused
returns-clause-refused g c = λ told sound database owed.
    let x = number_drawn c.args.s c.args.txns.now in
    let a = c.args.store.now in
    refused_by_disk (Commit x) a c.ask_commit-asked.new.store c.ask_commit-asked.result
    (subst (λ (t : Tables). needs (Commit x) t ≡ Ok tt) (sym (c.meta-tables.ensures.now told sound c.requires.may.room.going))
    (c.an_action_meets_its_needs.ensures.fits x Commits (site_of a.now) (record { page = 0; clear = false; offset = 0; bytes = [] }) (c.pages_are_in_bounds.ensures (pages_in a.now)) database.sound owed))
    (c.ask_commit-asked.ensures.one.refused told sound)
