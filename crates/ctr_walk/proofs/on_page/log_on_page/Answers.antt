use Rattle.std.proofs.lemmas.Result.{err_from_is_err_and}
use Rattle.ctr_walk.proofs.Records.{may_still, unread, logged_behind, refused_behind}
use Rattle.ctr_walk.proofs.on_page.log_on_page.Goals as goal

pub log_record-requires : goal.log_record-requires
log_record-requires g c =
    may_still c.args.rec.now c.args.store.now c.bring.new.store c.in_ok-bring.ensures.leaves.keeps c.in_ok-bring.ensures.leaves.going c.requires.may

pub returns-in_err-bring-clause-one : goal.returns-in_err-bring-clause-one
returns-in_err-bring-clause-one g c =
    let p = err_from_is_err_and c.from_residual.result c.from_residual.ensures.1 in
    rw (p.1, p.2) (unread g.O.Origin.first g.D.Disk c.args.rec.now c.args.store.now c.bring.new.store c.in_err-bring.field-0.0 c.in_err-bring.ensures.leaves)

pub returns-in-Ok-clause-one : goal.returns-in-Ok-clause-one
returns-in-Ok-clause-one g c =
    logged_behind g.O.Origin.first g.D.Disk c.args.rec.now c.args.store.now c.bring.new.store c.log_record.new.store tt c.in_ok-bring.ensures.leaves c.in-Ok.field-0 tt c.in-Ok.ensures

pub returns-in-Err-clause-one : goal.returns-in-Err-clause-one
returns-in-Err-clause-one g c =
    refused_behind g.O.Origin.first g.D.Disk c.args.rec.now c.args.store.now c.bring.new.store c.log_record.new.store tt c.in_ok-bring.ensures.leaves c.in-Err.fault c.in-Err.ensures
