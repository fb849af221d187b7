use Rattle.std.proofs.Common.{refl, ◌<◌, ◌∙◌, sym, ap, arith}
use Rattle.ctr_base.specs.meta_Effects.{effect}
use Rattle.ctr_rec.proofs.ReadBack.{record_read}
use Rattle.ctr_rec.specs.Spelling.{record_bytes}
use Rattle.ctr_store.proofs.RecordLaws.{on_page, off_page, overlay_inside, frame_there, inside_of}
use Rattle.ctr_store.proofs.BufferLaws.{logs_room}
use Rattle.ctr_store.proofs.PartsLaws.{can_follow, push_adds, push_tables, on_over, on_current}
use Rattle.ctr_store.proofs.parts.Parts.log_on.Goals as goal

pub change-requires-clause-inside : goal.change-requires-clause-inside
change-requires-clause-inside g c = overlay_inside c.args.rec.now c.args.overlay.now c.requires.can.logged.record_is c.requires.on

pub returns-clause-adds : goal.returns-clause-adds
returns-clause-adds g c told fold sound =
    let s = c.args.self.now in
    push_adds g.O.Origin.first g.D.Disk s.base c.append_record-lsn.new.log (record_bytes c.args.rec.now) c.args.rec.now c.append_record-lsn.ensures.added (record_read c.args.rec.now c.requires.can.logged.record_is) s (record s { pool = c.change.new.self; meta = c.apply.new.self }) (fold.over.at_rest.quiet sound)

pub returns-clause-fold : goal.returns-clause-fold
returns-clause-fold g c told fold =
    let d = g.D.Disk in
    let i = g.O.Origin.first in
    let s = c.args.self.now in
    let r = c.args.rec.now in
    let o = c.args.overlay.now in
    let log = c.append_record-lsn.new.log in
    let tells = record_read r c.requires.can.logged.record_is in
    let e = c.append_record-lsn.ensures in
    let frame = frame_there o.page s.pool.frames c.requires.there.0 in
    let low = c.requires.there.1 frame.0 frame.1 in
    let fs = s.pool.frames in
    let gs = c.change.new.self.frames in
    let lsn = c.append_record-lsn.result in
    let others = off_page r o c.requires.on in
    let inside = inside_of s.base.root.pages r o c.requires.on c.requires.can.counted in
    let lower : frame.0.lsn < lsn = omega (arith, low, e.number) in
    record {
      over = on_over i d s.base log (record_bytes r) r e.added tells o.page o frame.0 fs gs lsn e.number c.requires.on (on_page o) others inside fold.over fold.current frame.1 lower c.change.ensures.frames (can_follow i d r s c.requires.can fold.tables);
      tables = λ sound. c.apply.ensures.tables ∙ ap (effect r) (fold.tables sound) ∙ sym (push_tables i d s.base log (record_bytes r) r e.added tells);
      current = on_current i d s.base log (record_bytes r) r e.added tells o.page o frame.0 fs gs lsn e.number c.requires.on (on_page o) others inside fold.over fold.current frame.1 lower c.change.ensures.frames;
    }

pub returns-clause-room : goal.returns-clause-room
returns-clause-room g c =
    let s = c.args.self.now in
    let e = c.append_record-lsn.ensures in
    logs_room g.D.Disk c.args.rec.now s (record s { base = record s.base { log = c.append_record-lsn.new.log }; pool = c.change.new.self; meta = c.apply.new.self }) refl e.added e.room_left c.apply.ensures.tables c.apply.ensures.room refl
