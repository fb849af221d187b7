use Rattle.std.proofs.Common.{◌≡◌, ℕ, refl, sym, ◌∙◌, ap, subst}
use Rattle.std.proofs.lemmas.Bool.{eqb-true, eq-eqb}
use Rattle.std.specs.Prelude.{Bool, length}
use Rattle.ctr_meta.specs.Tables.{Tables}
use Rattle.ctr_pass.specs.txn_Held.{TxnsHeld}
use Rattle.ctr_pass.specs.txn_Steps.{mark_in}
use Rattle.ctr_pass.specs.session_world_Ready.{StandOver}
use Rattle.ctr_pass.proofs.session_world_Disks.{disk_done, disk_failed, disk_turn}
use Rattle.ctr_pass.specs.cleaner_Turning.{heeding}
use Rattle.ctr_pass.specs.cursor_Standing.{IsCountedPosition}
use Rattle.ctr_pass.specs.declared.pass.Pass.{Pass}
use Rattle.ctr_pass.specs.Going.{WentAs}
use Rattle.ctr_pass.specs.Passing.{pass_behind}
use Rattle.ctr_pass.specs.Sparing.{with_cleaner}
use Rattle.ctr_world.specs.Cleaning.{noted_pass}
use Rattle.ctr_world.specs.Held.{running}
use Rattle.ctr_world.specs.World.{IsWorldReady, KeepsPassIn, Shows}
use Rattle.ctr_world.proofs.Cleaned.{Laws, RestLaws, cleans_or_passes, heeds_nobody, pass_cleaned, place_behind, read_where_none, ready_cleaned, shows_cleaned, still_going, turned}
use Rattle.ctr_world.proofs.engine.Engine.clean_next.Goals as goal

pub returns-in-Ok-clause-ready : goal.returns-in-Ok-clause-ready
returns-in-Ok-clause-ready g c =
    let first = g.B.Origin.first in
    let w = running c.args.self.now in
    let a = w.store in
    let b = c.clean_from-cleaned.new.store in
    let e = c.in-Ok.ensures in
    let went = c.in-Ok.went in
    let may = c.may_empty-may.result in
    let room = c.room_for_the_cleaner_leaves_the_sessions.ensures in
    let item = c.keeps_room.result in
    let ready = c.requires.ready in
    subst (λ (t : TxnsHeld). IsWorldReady g.B.Opening g.D.Disk (record w { store = b; sessions = record w.sessions { txns = t }; pass = c.behind-self.result })) (sym c.keep_cleaners.ensures.sets)
    (ready_cleaned g.B.Opening g.D.Disk w b item c.behind-self.result ready
    (subst (λ (i : Bool). StandOver (with_cleaner i w.sessions.txns) b) (sym c.keeps_room.ensures) (room.stands w.sessions.txns a b may went.did ready.stand e.counts c.may_empty-may.ensures.unlink))
    (still_going first g.D.Disk a b went e.turns) e.counts.counted (disk_turn first g.D.Disk a b _ e.turns).later
    (room.seats w.sessions a.now.counted item) (room.order g.B.Opening.start (g.D.Disk.moment_of b.disk) w.sessions item)
    (subst (λ (p : Pass). IsCountedPosition b.now.counted p.at) (sym (c.behind-self.ensures ∙ ap (pass_behind c.args.noted went.from went.did may.unlink) c.next-in-Ok.ensures)) (place_behind c.args.noted went.from went.did may.unlink b.next b.now.counted e.from.1 e.counts.within)))

pub returns-in-Ok-clause-kept : goal.returns-in-Ok-clause-kept
returns-in-Ok-clause-kept g c = λ s tells sound shows keeps.
    let first = g.B.Origin.first in
    let w = running c.args.self.now in
    let a = w.store in
    let b = c.clean_from-cleaned.new.store in
    let e = c.in-Ok.ensures in
    let went = c.in-Ok.went in
    let may = c.may_empty-may.result in
    let item = c.keeps_room.result in
    let pass = c.behind-self.result in
    let database = shows.shows.world.keeps.pages.sound in
    let low_is : c.low_mark-low.result ≡ mark_in a.now.tables w.sessions.txns = c.low_mark-low.ensures ∙ ap (λ (t : Tables). mark_in t w.sessions.txns) (ap (λ k. k.tables) c.meta.ensures.tables ∙ c.meta.ensures.now tells sound c.requires.ready.going) in
    let cleans = subst (λ (n : ℕ). WentAs (heeding n w.sessions.locks (length w.undo.items) may) a.now b.now went) low_is
    (subst (λ (n : ℕ). WentAs (heeding c.low_mark-low.result w.sessions.locks n may) a.now b.now went) c.items_left.ensures
    (e.cleans tells sound database (λ stayed. keeps.stands (eqb-true w.pass.next c.next.result stayed ∙ c.next.ensures)))) in
    let laws : Laws g.D.Disk = record {
      cleaned = c.what_was_cleaned_leaves_the_sessions.ensures;
      room = c.room_for_the_cleaner_leaves_the_sessions.ensures.shows;
      read = c.pages_that_are_read_keep_a_world.ensures;
      may = c.a_turn_of_undo_is_kept.ensures.may;
      stay = c.names_of_what_is_left_stay.ensures.stay;
    } in
    let rest : RestLaws g.D.Disk = record {
      nobody = c.nobody_inside_locks_nothing.ensures.has;
      locks = c.nobody_inside_locks_nothing.ensures.locks;
      mark = c.nobody_inside_locks_nothing.ensures.mark;
    } in
    let shown = shows_cleaned g.B.Opening first g.D.Disk laws s w b item pass shows went.from went.did may c.may_empty-may.ensures.free
    (cleans_or_passes (heeding (mark_in a.now.tables w.sessions.txns) w.sessions.locks (length w.undo.items) may) went.from a.now b.now went.did cleans.1)
    e.counts.numbers e.counts.counted (turned first g.D.Disk a b went e.turns e.counts.counted tells sound (c.rests.ensures tells sound (still_going first g.D.Disk a b went e.turns))) in
    let passed = pass_cleaned g.B.Opening s w b item pass (heeding (mark_in a.now.tables w.sessions.txns) w.sessions.locks (length w.undo.items) may) went c.a_pass_is_kept_by_its_turn.ensures database c.requires.goes
    (λ same. e.from.0 (eq-eqb w.pass.next c.next.result (same ∙ sym c.next.ensures))) cleans e.counts.numbers refl (heeds_nobody g.B.Opening first g.D.Disk rest s w shows may c.may_empty-may.ensures.rest)
    (c.behind-self.ensures ∙ ap (pass_behind c.args.noted went.from went.did may.unlink) c.next-in-Ok.ensures ∙ ap (λ (p : Pass). pass_behind p went.from went.did may.unlink b.next) c.requires.noted) keeps in
    subst (λ (t : TxnsHeld). Shows g.B.Opening first g.D.Disk s (record w { store = b; sessions = record w.sessions { txns = t }; pass = pass })
    × KeepsPassIn g.B.Opening s (record w { store = b; sessions = record w.sessions { txns = t }; pass = pass })) (sym c.keep_cleaners.ensures.sets) (shown, passed)

pub returns-in-Err-clause-kept : goal.returns-in-Err-clause-kept
returns-in-Err-clause-kept g c = λ s tells sound shows keeps.
    let w = running c.args.self.now in
    c.in-Err.ensures.refused tells sound shows.shows.world.keeps.pages.sound (λ stayed. keeps.stands (eqb-true w.pass.next c.next.result stayed ∙ c.next.ensures))

pub returns-in-Ok-clause-cleans : goal.returns-in-Ok-clause-cleans
returns-in-Ok-clause-cleans g c =
    let went = c.in-Ok.went in
    record {
      went = went;
      pass = c.behind-self.ensures ∙ ap (pass_behind c.args.noted went.from went.did c.may_empty-may.result.unlink) c.next-in-Ok.ensures
          ∙ ap (λ (p : Pass). pass_behind p went.from went.did c.may_empty-may.result.unlink c.clean_from-cleaned.new.store.next) c.requires.noted
          ∙ ap (λ (m : Bool). pass_behind (noted_pass (running c.args.self.now)) went.from went.did m c.clean_from-cleaned.new.store.next) c.may_empty-may.ensures.unlink;
      numbers = c.in-Ok.ensures.counts.numbers;
    }

pub returns-in-Ok-clause-page : goal.returns-in-Ok-clause-page
returns-in-Ok-clause-page g c = read_where_none g.B.Origin.first g.D.Disk c.args.self.now.store c.clean_from-cleaned.new.store c.in-Ok.went c.in-Ok.ensures.turns c.in-Ok.ensures.counts.counted

pub returns-in-Ok-clause-disk : goal.returns-in-Ok-clause-disk
returns-in-Ok-clause-disk g c =
    let first = g.B.Origin.first in
    let a = c.args.self.now.store in
    let b = c.clean_from-cleaned.new.store in
    disk_done first g.D.Disk a b c.in-Ok.went tt (disk_turn first g.D.Disk a b _ c.in-Ok.ensures.turns)

pub returns-in-Err-clause-disk : goal.returns-in-Err-clause-disk
returns-in-Err-clause-disk g c =
    let first = g.B.Origin.first in
    let a = c.args.self.now.store in
    let b = c.clean_from-cleaned.new.store in
    disk_failed first g.D.Disk a b c.in-Err.fault (disk_turn first g.D.Disk a b _ c.in-Err.ensures.turns)
