use Rattle.std.proofs.Common.{◌∙◌, sym, ap}
use Rattle.std.proofs.lemmas.Result.{err_from_is_err_and}
use Rattle.ctr_base.specs.BaseLaws.{rests_leaves}
use Rattle.ctr_base.specs.Base.{now_of}
use Rattle.ctr_base.specs.redo_States.{state_of, step}
use Rattle.ctr_store.proofs.RecordLaws.{off_all}
use Rattle.ctr_store.proofs.Recalling.{exact_same, exact_off}
use Rattle.ctr_store.proofs.StoreLaws.{recalls_moved}
use Rattle.ctr_store.proofs.BufferLaws.{room_behind}
use Rattle.ctr_store.proofs.PartsLaws.{can_still, logs_now, logs_behind, leaves_same, fold_moved, fold_low}
use Rattle.ctr_store.proofs.parts.Parts.log.Goals as goal

pub returns-in_default-clause-goes : goal.returns-in_default-clause-goes
returns-in_default-clause-goes g c told =
    let d = g.D.Disk in
    let o = g.O.Origin.first in
    let a = c.args.self.now.base in
    leaves_same o d a a c.log_off.new.self.base c.log_off.ensures.below (rests_leaves d o g.met.D.Disk.only_now a (c.requires.fold told).over.at_rest)

pub returns-in_default-clause-logs : goal.returns-in_default-clause-logs
returns-in_default-clause-logs g c told =
    let fold = c.requires.fold told in (
      λ sound. logs_now g.O.Origin.first g.D.Disk c.args.rec.now c.args.self.now c.log_off.new.self (c.log_off.ensures.adds told fold sound),
      c.log_off.ensures.fold told fold,
      λ sound recalls.
          let adds = c.log_off.ensures.adds told fold sound in
          let x = state_of (now_of g.D.Disk c.args.self.now.base) in
          exact_same (step c.args.rec.now x) (state_of (now_of g.D.Disk c.log_off.new.self.base)) c.args.directory.now adds.now (exact_off x c.args.rec.now c.args.directory.now (off_all c.args.rec.now (sym c.overlay_of.ensures ∙ c.in_default.is)) recalls),
    )

pub log_remembered-requires-clause-can : goal.log_remembered-requires-clause-can
log_remembered-requires-clause-can g c = let keeps = c.bring.ensures.keeps in can_still g.O.Origin.first g.D.Disk c.args.rec.now c.args.self.now c.bring.new.self keeps.0 keeps.1 c.requires.can

pub returns-clause-goes : goal.returns-clause-goes
returns-clause-goes g c told =
    let d = g.D.Disk in
    let a = c.args.self.now.base in
    leaves_same g.O.Origin.first d a c.bring.new.self.base c.log_remembered.new.self.base c.log_remembered.ensures.below (c.bring.ensures.goes told)

pub returns-clause-logs : goal.returns-clause-logs
returns-clause-logs g c told =
    let d = g.D.Disk in
    let o = g.O.Origin.first in
    let e = c.in_ok-bring.ensures in
    let s = c.args.self.now in
    let m = c.bring.new.self in
    let stays = e.stays told in
    let fold = fold_moved o d s m (c.requires.fold told) stays.moves (let keeps = c.bring.ensures.keeps in ap (λ x. x.tables) keeps.1) stays.shows stays.over in (
      λ sound. logs_behind o d c.args.rec.now s m c.log_remembered.new.self (stays.moves sound) (c.log_remembered.ensures.adds told fold sound),
      c.log_remembered.ensures.fold told fold,
      λ sound recalls. c.log_remembered.ensures.exact told sound fold (recalls_moved d o s m c.args.directory.now stays.moves sound recalls),
    )

pub returns-in_err-bring-clause-refused : goal.returns-in_err-bring-clause-refused
returns-in_err-bring-clause-refused g c told =
    let d = g.D.Disk in
    let o = g.O.Origin.first in
    let p = err_from_is_err_and c.from_residual.result c.from_residual.ensures.1 in
    rw (p.1, p.2) (c.in_err-bring.ensures.refused told (fold_low o d c.args.self.now (c.requires.fold told)))

pub returns-clause-takes : goal.returns-clause-takes
returns-clause-takes g c =
    let keeps = c.bring.ensures.keeps in
    let e = c.log_remembered.ensures in
    (e.number ∙ keeps.0.next, room_behind g.D.Disk c.args.rec.now c.args.self.now c.bring.new.self c.log_remembered.new.self keeps.0 keeps.1 e.room)
