use Rattle.std.proofs.Common.{◌++◌, ◌∷◌, [], refl, sym, ◌∙◌, ap, subst}
use Rattle.ctr_types.specs.declared.tape.Act.TheVariants as act
use Rattle.ctr_types.specs.declared.tape.Reply.TheVariants as reply
use Rattle.ctr_control.specs.txn_Held.{TxnsHeld}
use Rattle.ctr_control.specs.ctr_session_world.Ready.{StandOver}
use Rattle.ctr_exec.specs.declared.sessions.Sessions.{Sessions}
use Rattle.ctr_control.specs.Answers.{IsAnswered}
use Rattle.ctr_exec.specs.Sessions.{sessions_held_by, noted_entry}
use Rattle.ctr_exec.specs.Runners.{runner_at}
use Rattle.ctr_exec.proofs.Answering.{answers_none, goes_answer}
use Rattle.ctr_exec.proofs.Going.{sound_in}
use Rattle.ctr_exec.proofs.Ordered.{answer_added, answers_none_added}
use Rattle.ctr_exec.proofs.Seats.{answered_fewer, answered_seats, asked_room, asked_small, within_here}
use Rattle.ctr_exec.proofs.sessions.Sessions.answer_next.Goals as goal

pub note-requires-clause-one : goal.note-requires-clause-one
note-requires-clause-one g c = within_here c.args.self.now c.args.store.now.now.counted c.requires.seats c.in-Some.s c.in-Some.ensures.next.0.one

pub note-requires-clause-room : goal.note-requires-clause-room
note-requires-clause-room g c = asked_room c.args.self.now c.args.store.now.now.counted c.requires.seats c.in-Some.s c.in-Some.asked c.answer_one.new.txns c.in-Some.ensures.next.0

pub note-requires-clause-small : goal.note-requires-clause-small
note-requires-clause-small g c = asked_small c.args.self.now c.args.store.now.now.counted c.requires.seats c.in-Some.s c.in-Some.asked c.answer_one.new.txns c.in-Some.ensures.next.0

pub returns-in-Some-clause-seats : goal.returns-in-Some-clause-seats
returns-in-Some-clause-seats g c =
    let note = c.note.ensures in
    answered_seats c.args.self.now c.args.store.now.now.counted c.requires.seats c.in-Some.s c.in-Some.asked c.answer_one.new.txns c.in-Some.ensures.next.0 c.note.new.self
    (ap (λ (z : Sessions). z.script) note.is) (ap (λ (z : Sessions). z.stuck) note.is) (ap (λ (z : Sessions). z.txns) note.is) note.runners note.len note.capacity

pub returns-in-Some-clause-over : goal.returns-in-Some-clause-over
returns-in-Some-clause-over g c = λ stand. subst (λ (t : TxnsHeld). StandOver t c.args.store.now) (sym (ap (λ (z : Sessions). z.txns) c.note.ensures.is)) (c.in-Some.ensures.over stand)

pub returns-in-Some-clause-fewer : goal.returns-in-Some-clause-fewer
returns-in-Some-clause-fewer g c = λ yes_.
    let note = c.note.ensures in
    answered_fewer c.args.self.now c.args.store.now.now.counted c.requires.seats c.in-Some.s c.in-Some.asked c.answer_one.new.txns c.in-Some.ensures.next.0 c.note.new.self (ap (λ (z : Sessions). z.script) note.is) note.runners

pub returns-in-None-clause-told : goal.returns-in-None-clause-told
returns-in-None-clause-told g c = λ run opened w tells sound going before.
    let none = c.in-None.ensures.none refl in
    answers_none g.D.Disk run opened c.args.store.now c.args.self.now w before c.answer_one.new.txns c.answer_one.new.locks none.0 none.1

pub returns-in-Some-clause-told : goal.returns-in-Some-clause-told
returns-in-Some-clause-told g c = λ run opened w tells sound going before.
    let h = c.args.self.now in
    let now = c.note.new.self in
    let s = c.in-Some.s in
    let note = c.note.ensures in
    let answered = c.in-Some.ensures.told run opened tells sound going (record { mind = w; world = before.world }) in
    goes_answer g.D.Disk run opened c.args.store.now h now w before s c.in-Some.asked c.in-Some.ensures.next.0.one
    (subst (λ z. IsAnswered (record { mind = w; world = before.world }) (s, c.in-Some.asked) z) (sym (ap sessions_held_by note.is)) answered)
    c.args.store.now.now.counted c.requires.seats (sound_in g.D.Disk run opened c.args.store.now h w c.legal_states_are_sound.ensures before) c.what_a_write_counts_on_stays.ensures c.snapshots_stay.ensures
    (ap (λ (z : Sessions). z.script) note.is) (ap (λ (z : Sessions). z.stuck) note.is) note.runners
    (note.tape ∙ ap (λ n. h.tape.items ++ noted_entry s (runner_at s h.runners.items) act.Answer (reply.Answered c.in-Some.asked.k) n ∷ []) c.moment.ensures)

pub returns-in-None-clause-adds : goal.returns-in-None-clause-adds
returns-in-None-clause-adds g c = λ before le. answers_none_added before (g.D.Disk.moment_of c.args.store.now.disk) c.args.self.now c.answer_one.new.txns c.answer_one.new.locks le

pub returns-in-Some-clause-adds : goal.returns-in-Some-clause-adds
returns-in-Some-clause-adds g c = λ before le.
    let h = c.args.self.now in
    let s = c.in-Some.s in
    let note = c.note.ensures in
    answer_added h c.note.new.self c.args.store.now.now.counted c.requires.seats s c.in-Some.asked c.answer_one.new.txns c.in-Some.ensures.next.0 before (g.D.Disk.moment_of c.args.store.now.disk) le
    (ap (λ (z : Sessions). z.script) note.is) (ap (λ (z : Sessions). z.stuck) note.is) note.runners
    (note.tape ∙ ap (λ n. h.tape.items ++ noted_entry s (runner_at s h.runners.items) act.Answer (reply.Answered c.in-Some.asked.k) n ∷ []) c.moment.ensures)
