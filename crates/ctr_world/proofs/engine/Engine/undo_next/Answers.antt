use Rattle.std.proofs.Common.{◌≡◌, ◌+◌, ◌<◌, Ok, sym, subst}
use Rattle.ctr_store.specs.Store.{View}
use Rattle.ctr_undo.specs.Left.{UndoLeft}
use Rattle.ctr_undo.specs.Turns.{EndsUndoTurn, LogsNext, MayUndo, TakesNextItem}
use Rattle.ctr_undo.specs.declared.turning.UndoTurn.{UndoTurn}
use Rattle.ctr_pass.specs.exec_Sessions.{turns_left}
use Rattle.ctr_pass.proofs.exec_Fewer.{numbers_fall}
use Rattle.ctr_world.specs.declared.engine.Engine.{Engine}
use Rattle.ctr_world.specs.Held.{running}
use Rattle.ctr_world.specs.World.{IsWorldReady, Shows, start_in}
use Rattle.ctr_world.proofs.Undoing.{at_rest, disk_refused, disk_undone, later_of, left_behind, number_of, own_lines, ready_undone, taken_fewer}
use Rattle.ctr_world.proofs.Undone.{Laws, goes_one, undone_so}
use Rattle.ctr_world.proofs.engine.Engine.undo_next.Goals as goal

pub returns-clause-shows : goal.returns-clause-shows
returns-clause-shows g c = λ s tells sound shows.
    let w = running c.args.self.now in
    c.in-Err.ensures.undoes tells sound
    (subst (λ (u : UndoLeft). MayUndo u w.store.now) shows.undo (c.a_turn_of_undo_is_kept.ensures.may (start_in g.B.Opening s) shows.opened w.store shows.mind shows.shows.world.keeps))

pub returns-in-Ok-Undone-clause-ready : goal.returns-in-Ok-Undone-clause-ready
returns-in-Ok-Undone-clause-ready g c =
    let w = running c.args.self.now in
    let b = c.turn.new.store in
    let e = c.in-Ok-Undone.ensures in
    let was = c.in-Ok-Undone.field-0-is in
    let one = subst (λ (r : UndoTurn). LogsNext g.B.Origin.first g.D.Disk w.undo w.store b (Ok r)) was e.one in
    let now = c.let_go.new.self in
    let goes = c.let_go.ensures.goes in
    let held = c.let_go.ensures.held in
    let ready = c.requires.ready in
    subst (λ (x : Engine g.row.D.Denot g.row.B.Denot). IsWorldReady g.B.Opening g.D.Disk (running x)) (sym c.let_go.ensures.same)
    (ready_undone g.B.Opening g.D.Disk w b c.turn.new.list now.names.items now.sessions goes.told (g.D.Disk.moment_of b.disk) ready e.left e.going
    (number_of g.B.Origin.first g.D.Disk w.undo w.store b one).counted goes.behind c.let_go.ensures.seats (record { named = held.named; only = held.only })
    (c.let_go.ensures.order g.B.Opening.start (g.D.Disk.moment_of w.store.disk) (later_of g.B.Origin.first g.D.Disk w.undo w.store b c.turn.result c.turn.ensures.one) ready.ordered)
    (taken_fewer w.undo c.turn.new.list (subst (λ (r : UndoTurn). TakesNextItem w.undo c.turn.new.list (Ok r)) was e.takes)))

pub returns-in-Ok-Undone-clause-shows : goal.returns-in-Ok-Undone-clause-shows
returns-in-Ok-Undone-clause-shows g c = λ s tells sound shows.
    let w = running c.args.self.now in
    let b = c.turn.new.store in
    let e = c.in-Ok-Undone.ensures in
    let was = c.in-Ok-Undone.field-0-is in
    let one = subst (λ (r : UndoTurn). LogsNext g.B.Origin.first g.D.Disk w.undo w.store b (Ok r)) was e.one in
    let now = c.let_go.new.self in
    let goes = c.let_go.ensures.goes in
    let laws : Laws g.D.Disk = record {
      may = c.a_turn_of_undo_is_kept.ensures.may;
      kept = c.a_turn_of_undo_is_kept.ensures.kept;
      released = c.a_turn_of_undo_is_kept.ensures.released;
      stay = c.names_of_what_is_left_stay.ensures.stay;
      go = c.names_of_what_is_left_stay.ensures.go;
      name_kept = c.a_name_is_released_with_its_last_item.ensures.kept;
      name_released = c.a_name_is_released_with_its_last_item.ensures.released;
      nobody = c.recovery_is_in_no_transaction.ensures;
      beside = c.undo_leaves_the_sessions.ensures.kept;
      beside_released = c.undo_leaves_the_sessions.ensures.released;
    } in
    let does = subst (λ (r : UndoTurn). EndsUndoTurn w.undo c.turn.new.list w.store.now b.now (Ok r)) was (e.undoes tells sound (subst (λ (u : UndoLeft). MayUndo u w.store.now) shows.undo (laws.may (start_in g.B.Opening s) shows.opened w.store shows.mind shows.shows.world.keeps))) in
    let rests = at_rest g.B.Origin.first g.D.Disk w.undo w.store b one tells sound (c.rests.ensures tells sound e.going) in
    subst (λ (x : Engine g.row.D.Denot g.row.B.Denot). Shows g.B.Opening g.B.Origin.first g.D.Disk s (running x)) (sym c.let_go.ensures.same)
    (undone_so g.B.Opening g.B.Origin.first g.D.Disk laws s w b c.turn.new.list now.names.items now.sessions shows does rests (own_lines g.B.Opening.lines c.requires.ready.lines)
    c.args.next (goes_one does.item c.args.next w.undo c.turn.new.list c.requires.next.0 does.goes c.requires.next.1) goes.told goes.goes goes.behind)

pub returns-in-Ok-Undone-clause-fewer : goal.returns-in-Ok-Undone-clause-fewer
returns-in-Ok-Undone-clause-fewer g c =
    let w = running c.args.self.now in
    let b = c.turn.new.store in
    let now = c.let_go.new.self in
    let goes = c.let_go.ensures.goes in
    subst (λ (v : View g.row.D.Denot). turns_left now.sessions v < turns_left w.sessions w.store) (sym (λ i. (c.let_go.ensures.same i).store))
    (numbers_fall w.sessions now.sessions w.store b (left_behind goes.told (g.D.Disk.moment_of b.disk) w.sessions now.sessions goes.behind) c.requires.room.1 (number_of g.B.Origin.first g.D.Disk w.undo w.store b (subst (λ (r : UndoTurn). LogsNext g.B.Origin.first g.D.Disk w.undo w.store b (Ok r)) c.in-Ok-Undone.field-0-is c.in-Ok-Undone.ensures.one)).next)

pub returns-clause-disk : goal.returns-clause-disk
returns-clause-disk g c = disk_refused g.B.Origin.first g.D.Disk c.args.self.now.undo c.args.self.now.store c.turn.new.store c.in-Err.fault c.in-Err.ensures.one

pub returns-in-Ok-Undone-clause-disk : goal.returns-in-Ok-Undone-clause-disk
returns-in-Ok-Undone-clause-disk g c =
    let w = running c.args.self.now in
    let b = c.turn.new.store in
    disk_undone g.B.Origin.first g.D.Disk w.undo w.store b c.let_go.new.self.store (subst (λ (r : UndoTurn). LogsNext g.B.Origin.first g.D.Disk w.undo w.store b (Ok r)) c.in-Ok-Undone.field-0-is c.in-Ok-Undone.ensures.one)
    (λ i. (c.let_go.ensures.same i).store)

pub returns-in-Ok-Undone-clause-logs : goal.returns-in-Ok-Undone-clause-logs
returns-in-Ok-Undone-clause-logs g c =
    let w = running c.args.self.now in
    let b = c.turn.new.store in
    subst (λ (v : View g.row.D.Denot). v.next ≡ w.store.next + 1) (sym (λ i. (c.let_go.ensures.same i).store))
    (number_of g.B.Origin.first g.D.Disk w.undo w.store b (subst (λ (r : UndoTurn). LogsNext g.B.Origin.first g.D.Disk w.undo w.store b (Ok r)) c.in-Ok-Undone.field-0-is c.in-Ok-Undone.ensures.one)).next
