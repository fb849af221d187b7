use Rattle.std.proofs.Common.{ℕ, ◌/◌, [], ◌∷◌, Ok, Err, Result, refl, sym, ap, ◌∙◌, subst}
use Rattle.std.proofs.lemmas.Result.{err_from_is_err_and}
use Rattle.ctr_disk.specs.declared.fault.StoreFault.{StoreFault}
use Rattle.ctr_rec.specs.declared.record.Overlay.{Overlay}
use Rattle.ctr_rec.specs.declared.record.Record.{Record}
use Rattle.ctr_rec.specs.declared.record.Record.TheVariants.{Alloc}
use Rattle.ctr_actions.specs.ctr_record_effects.Changing.{alloc_record, laid_at}
use Rattle.ctr_actions.specs.Sites.{site_of}
use Rattle.ctr_actions.specs.Actions.{Allocates}
use Rattle.ctr_walk.specs.store_Store.{MayLog}
use Rattle.ctr_walk.specs.OneRecord.{AnswersLog}
use Rattle.ctr_walk.proofs.Records.{may_still, unread, logged_behind, refused_behind}
use Rattle.ctr_alloc.proofs.OneRecord.{alloc_may}
use Rattle.ctr_alloc.proofs.allocating.alloc.Goals as goal

pub log_record-requires : goal.log_record-requires
log_record-requires g c =
    subst (λ (r : Record). MayLog r c.byte_with.new.store) (sym (ap (λ (o : Overlay). Alloc c.args.x c.args.p o) c.over_bits.ensures))
    (may_still (alloc_record c.args.x c.args.p c.in_ok-byte.byte) c.args.store.now c.byte_with.new.store c.in_ok-byte.ensures.leaves.keeps c.in_ok-byte.ensures.leaves.going (alloc_may c.args.store.now c.args.p c.in_ok-byte.byte c.requires.small c.counts_pages.ensures.0 c.args.x c.ranges.x.fits c.requires.room))

pub returns-in_err-byte-clause-one : goal.returns-in_err-byte-clause-one
returns-in_err-byte-clause-one g c =
    let p = err_from_is_err_and c.from_residual.result c.from_residual.ensures.1 in (
      0,
      rw (p.1, p.2) (unread g.O.Origin.first g.D.Disk (alloc_record c.args.x c.args.p 0) c.args.store.now c.byte_with.new.store c.in_err-byte.field-0.0 c.in_err-byte.ensures.leaves),
    )

pub returns-in-Ok-clause-one : goal.returns-in-Ok-clause-one
returns-in-Ok-clause-one g c =
    let byte = c.in_ok-byte.byte in
    let answered : Result ℕ StoreFault = Ok c.in-Ok.field-0 in
    let log = subst (λ (r : Record). AnswersLog g.O.Origin.first g.D.Disk r c.byte_with.new.store c.log_record.new.store answered) (ap (λ (o : Overlay). Alloc c.args.x c.args.p o) c.over_bits.ensures) c.in-Ok.ensures in
    (byte, logged_behind g.O.Origin.first g.D.Disk (alloc_record c.args.x c.args.p byte) c.args.store.now c.byte_with.new.store c.log_record.new.store byte c.in_ok-byte.ensures.leaves c.in-Ok.field-0 tt log)

pub returns-in-Ok-clause-leaves : goal.returns-in-Ok-clause-leaves
unfolding returns-in-Ok-clause-one
returns-in-Ok-clause-leaves g c = λ told sound.
    let byte = c.in_ok-byte.byte in
    let one = (returns-in-Ok-clause-one g c).1 in
    ap site_of (one.logs told sound).now ∙ c.a_logged_record_is_its_action.ensures.leaves c.args.x (Allocates c.args.p) c.args.store.now.now (laid_at 0 (c.args.p / 8) (byte ∷ [])) refl
    (c.an_alloc_changes_its_bit.ensures c.args.store.now.now c.args.x c.args.p byte (c.in_ok-byte.ensures.whole told sound) c.requires.small (c.in_ok-byte.ensures.byte told sound))

pub returns-in-Err-clause-one : goal.returns-in-Err-clause-one
returns-in-Err-clause-one g c =
    let byte = c.in_ok-byte.byte in
    let answered : Result ℕ StoreFault = Err c.in-Err.fault in
    let log = subst (λ (r : Record). AnswersLog g.O.Origin.first g.D.Disk r c.byte_with.new.store c.log_record.new.store answered) (ap (λ (o : Overlay). Alloc c.args.x c.args.p o) c.over_bits.ensures) c.in-Err.ensures in
    (byte, refused_behind g.O.Origin.first g.D.Disk (alloc_record c.args.x c.args.p byte) c.args.store.now c.byte_with.new.store c.log_record.new.store byte c.in_ok-byte.ensures.leaves c.in-Err.fault log)
