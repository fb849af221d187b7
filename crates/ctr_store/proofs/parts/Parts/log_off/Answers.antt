use Rattle.std.proofs.Common.{refl, ◌∙◌, sym, ap}
use Rattle.ctr_base.specs.meta_Effects.{effect}
use Rattle.ctr_rec.proofs.ReadBack.{record_read}
use Rattle.ctr_rec.specs.Spelling.{record_bytes}
use Rattle.ctr_store.proofs.RecordLaws.{off_all}
use Rattle.ctr_store.proofs.BufferLaws.{logs_room}
use Rattle.ctr_store.proofs.PartsLaws.{can_follow, push_adds, push_tables, off_over, off_current}
use Rattle.ctr_store.proofs.parts.Parts.log_off.Goals as goal

pub returns-clause-adds : goal.returns-clause-adds
returns-clause-adds g c told fold sound =
    let s = c.args.self.now in
    push_adds g.O.Origin.first g.D.Disk s.base c.append_record-lsn.new.log (record_bytes c.args.rec.now) c.args.rec.now c.append_record-lsn.ensures.added (record_read c.args.rec.now c.requires.can.logged.record_is) s (record s { meta = c.apply.new.self }) (fold.over.at_rest.quiet sound)

pub returns-clause-fold : goal.returns-clause-fold
returns-clause-fold g c told fold =
    let d = g.D.Disk in
    let o = g.O.Origin.first in
    let s = c.args.self.now in
    let r = c.args.rec.now in
    let log = c.append_record-lsn.new.log in
    let tells = record_read r c.requires.can.logged.record_is in
    let added = c.append_record-lsn.ensures.added in
    let off = off_all r c.requires.off in
    record {
      over = off_over o d s.base log (record_bytes r) r added tells (can_follow o d r s c.requires.can fold.tables) s.pool.frames off fold.over;
      tables = λ sound. c.apply.ensures.tables ∙ ap (effect r) (fold.tables sound) ∙ sym (push_tables o d s.base log (record_bytes r) r added tells);
      current = λ sound. off_current o d s.base log (record_bytes r) r added tells s.pool.frames off (fold.current sound);
    }

pub returns-clause-room : goal.returns-clause-room
returns-clause-room g c =
    let s = c.args.self.now in
    let e = c.append_record-lsn.ensures in
    logs_room g.D.Disk c.args.rec.now s (record s { base = record s.base { log = c.append_record-lsn.new.log }; meta = c.apply.new.self }) refl e.added e.room_left c.apply.ensures.tables c.apply.ensures.room refl
