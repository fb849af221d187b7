use Rattle.std.proofs.Common.{ℤ, Some, refl, sym, ◌∙◌, ap, subst}
use Rattle.std.specs.Int.{w64}
use Rattle.std.proofs.lemmas.Int.{to_z-of_z}
use Rattle.ctr_looks.specs.ctr_session_world.World.{SessionsHeld}
use Rattle.ctr_looks.proofs.ctr_session_world.Disks.{disk_still}
use Rattle.ctr_looks.proofs.ctr_session_world.Going.{if_ok}
use Rattle.ctr_looks.proofs.ctr_session_world.Ready.{ready_as_was}
use Rattle.ctr_looks.proofs.ctr_session_world.Resting.{rests_here}
use Rattle.ctr_writing.specs.Rows.{IsAtRow, TurnOfRow}
use Rattle.ctr_writing.proofs.rows.write_row.Goals as goal

pub returns-in-Refused-clause-over : goal.returns-in-Refused-clause-over
returns-in-Refused-clause-over g c = (ready_as_was c.args.s c.args.txns.now c.args.store.now c.requires.may.stand c.requires.may.room.going, λ unasked. unasked)

pub returns-in-Lays-clause-over : goal.returns-in-Lays-clause-over
returns-in-Lays-clause-over g c = c.lay.ensures.over

pub returns-in-Refused-clause-told : goal.returns-in-Refused-clause-told
returns-in-Refused-clause-told g c = λ run opened locks tells sound next at.
    let a = c.args.store.now in
    let s = c.args.s in
    let statement = c.args.statement.now in
    let e = c.args.entry in
    let stage = c.args.stage in
    let why = c.in-Refused.refusal in
    let h : SessionsHeld = record { txns = c.args.txns.now; locks = locks } in
    c.a_turn_of_a_row_is_told.ensures.refused run opened a a h s statement next e why stage c.requires.may.one (subst (λ p. IsAtRow run s statement next.mind e p stage) c.in-Refused.is at)
    (rests_here g.D.Disk a (c.rests.ensures tells sound c.requires.may.room.going))

pub returns-in-Refused-clause-disk : goal.returns-in-Refused-clause-disk
returns-in-Refused-clause-disk g c = disk_still g.O.Origin.first g.D.Disk _ _ _ refl (λ tells sound. c.rests.ensures tells sound c.requires.may.room.going)

pub returns-in-Lays-clause-told : goal.returns-in-Lays-clause-told
returns-in-Lays-clause-told g c = λ run opened locks tells sound next at.
    let s = c.args.s in
    let statement = c.args.statement.now in
    let e = c.args.entry in
    let stage = c.args.stage in
    let now : SessionsHeld = record { txns = c.lay.new.txns; locks = locks } in
    if_ok c.lay.result (λ r its. subst (λ p. TurnOfRow next now e p r) (sym c.in-Lays.is) its)
    (c.lay.ensures.told run opened locks statement tells sound next (sym c.key_written.ensures ∙ c.in-Some.is ∙ ap (λ (k : ℤ). Some k) (sym (to_z-of_z w64 c.number.result (record { sfits = c.number.type_inv }) ∙ c.number.ensures))) (subst (λ p. IsAtRow run s statement next.mind e p stage) c.in-Lays.is at))

pub returns-in-Lays-clause-refused : goal.returns-in-Lays-clause-refused
returns-in-Lays-clause-refused g c = λ run opened locks tells sound next at.
    let s = c.args.s in
    let statement = c.args.statement.now in
    let e = c.args.entry in
    let stage = c.args.stage in
    c.lay.ensures.refused run opened locks statement tells sound next (sym c.key_written.ensures ∙ c.in-Some.is ∙ ap (λ (k : ℤ). Some k) (sym (to_z-of_z w64 c.number.result (record { sfits = c.number.type_inv }) ∙ c.number.ensures))) (subst (λ p. IsAtRow run s statement next.mind e p stage) c.in-Lays.is at)
