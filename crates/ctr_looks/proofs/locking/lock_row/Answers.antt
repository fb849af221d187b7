use Rattle.std.proofs.Common.{ℕ, sym, ◌∙◌, ap, subst}
use Rattle.std.specs.Option.{option_copied}
use Rattle.std.proofs.lemmas.Bool.{false≢true}
use Rattle.ctr_types.specs.declared.tape.Act.TheVariants as act
use Rattle.ctr_model.specs.declared.state.State.{State}
use Rattle.ctr_session_world.specs.kept_Walk.{Mind}
use Rattle.ctr_asking.specs.declared.asker.Answer.{Answer}
use Rattle.ctr_asking.specs.declared.asker.Answer.TheVariants as answer
use Rattle.ctr_looks.specs.declared.taking.RowAt.{RowAt}
use Rattle.ctr_session_world.specs.World.{SessionsHeld}
use Rattle.ctr_looks.specs.Asked.{IsAsked}
use Rattle.ctr_looks.specs.Granting.{WritesRowOf}
use Rattle.ctr_looks.specs.Locking.{IsReadyBehind, locked_reply}
use Rattle.ctr_session_world.proofs.Going.{goes, goes_told, if_ok, rests_read}
use Rattle.ctr_session_world.proofs.Ready.{leaves_behind, ready_read, stands_still}
use Rattle.ctr_looks.proofs.Staying.{goes_free, goes_row, goes_stands, idle_free}
use Rattle.ctr_looks.proofs.Granted.{row_locks_first}
use Rattle.ctr_looks.proofs.Promised.{row_makes_none}
use Rattle.ctr_session_world.proofs.Disks.{disk_behind}
use Rattle.ctr_looks.proofs.Leaving.{read_done, read_failed}
use Rattle.ctr_looks.proofs.locking.lock_row.Goals as goal

-- ---- what is left of the sessions

pub returns-in-Refused-clause-over : goal.returns-in-Refused-clause-over
returns-in-Refused-clause-over g c =
    let leaves = c.in-Ok.ensures.leaves in
    (ready_read c.args.s c.args.txns.now c.args.store.now c.ask_act.new.store leaves.keeps leaves.going c.requires.may.stand, λ unasked. unasked)

pub returns-in-None-clause-over : goal.returns-in-None-clause-over
returns-in-None-clause-over g c =
    let leaves = c.in-Ok.ensures.leaves in
    (ready_read c.args.s c.args.txns.now c.args.store.now c.ask_act.new.store leaves.keeps leaves.going c.requires.may.stand, λ unasked. unasked)

pub lock_found-requires-clause-may : goal.lock_found-requires-clause-may
lock_found-requires-clause-may g c =
    let a = c.args.store.now in
    let m = c.ask_act.new.store in
    let may = c.requires.may in
    let leaves = c.in-Ok.ensures.leaves in
    record { one = may.one; stand = stands_still c.args.txns.now a m leaves.keeps.meta may.stand; room = c.room_is_still_there.ensures.behind 0 0 a m leaves.keeps leaves.going may.room }

pub returns-in-Some-found-clause-over : goal.returns-in-Some-found-clause-over
returns-in-Some-found-clause-over g c = leaves_behind c.lock_found.result c.args.s c.args.txns.now c.lock_found.new.txns c.args.store.now c.ask_act.new.store c.lock_found.new.store c.in-Ok.ensures.leaves.keeps c.lock_found.ensures.over

-- ---- what is told

pub returns-in-Refused-clause-told : goal.returns-in-Refused-clause-told
returns-in-Refused-clause-told g c = λ run opened told sound next stuck idle.
    let a = c.args.store.now in
    let m = c.ask_act.new.store in
    let s = c.args.s in
    let statement = c.args.statement.now in
    let h : SessionsHeld = record { txns = c.args.txns.now; locks = c.args.locks.now } in
    let first = λ (state : State) (r : ℕ). row_locks_first state r statement c.in-Some-key_written.key (sym c.key_written.ensures ∙ c.in-Some-key_written.is) in
    let rested = rests_read g.O.Origin.first g.D.Disk a m c.in-Ok.answer told sound c.in-Ok.ensures.leaves (c.rests.ensures told sound c.in-Ok.ensures.leaves.going) in (
      c.a_refused_look_is_told.ensures run opened a m h s statement next act.Lock tt first c.in-Refused.refusal
          (subst (λ q. IsAsked next act.Lock q) c.in-Refused.is (c.in-Ok.ensures.asked run opened m told sound next stuck tt first)) rested,
      tt,
    )

pub returns-in-None-clause-told : goal.returns-in-None-clause-told
returns-in-None-clause-told g c = λ run opened told sound next stuck idle.
    let m = c.ask_act.new.store in
    let statement = c.args.statement.now in
    let written = sym c.key_written.ensures ∙ c.in-Some-key_written.is in
    let first = λ (state : State) (r : ℕ). row_locks_first state r statement c.in-Some-key_written.key written in
    let asked = subst (λ o. IsAsked next act.Lock (answer.Free o)) c.in-None.is (subst (λ q. IsAsked next act.Lock q) c.in-Free.is (c.in-Ok.ensures.asked run opened m told sound next stuck tt first)) in
    absurd (false≢true (sym (row_makes_none statement c.in-Some-key_written.key written) ∙ asked.0))

pub returns-in-Some-found-clause-told : goal.returns-in-Some-found-clause-told
returns-in-Some-found-clause-told g c = λ run opened told sound next stuck idle.
    let a = c.args.store.now in
    let m = c.ask_act.new.store in
    let b = c.lock_found.new.store in
    let s = c.args.s in
    let statement = c.args.statement.now in
    let h : SessionsHeld = record { txns = c.args.txns.now; locks = c.args.locks.now } in
    let now : SessionsHeld = record { txns = c.lock_found.new.txns; locks = c.lock_found.new.locks } in
    let written = sym c.key_written.ensures ∙ c.in-Some-key_written.is in
    let named = sym c.table_of.ensures ∙ ap option_copied c.in-Some.is in
    let first = λ (state : State) (r : ℕ). row_locks_first state r statement c.in-Some-key_written.key written in
    let rested = rests_read g.O.Origin.first g.D.Disk a m c.in-Ok.answer told sound c.in-Ok.ensures.leaves (c.rests.ensures told sound c.in-Ok.ensures.leaves.going) in
    let asked = subst (λ o. IsAsked next act.Lock (answer.Free o)) c.in-Some-found.is (subst (λ q. IsAsked next act.Lock q) c.in-Free.is (c.in-Ok.ensures.asked run opened b told sound next stuck tt first)) in
    let free = asked.0 in
    let stands = asked.1 c.in-Some.name.now named in
    let row : RowAt = record { entry = c.in-Some-found.entry; name = c.in-Some.name; key = c.in-Some-key_written.key } in
    let of : WritesRowOf next row = record { named = named; key = written; inside = stands.inside; title = stands.title; live = stands.live; undropped = stands.undropped; only = stands.only row.key } in
    let keeps = c.pages_that_are_read_keep_a_world.ensures run opened a m next.mind next.world.keeps rested in
    let later = c.lock_found.ensures.disk.later in
    if_ok c.lock_found.result
    (λ l its.
    let back = goes_told g.D.Disk run opened a m b h s statement 0 next rested keeps later now act.Lock (locked_reply l) its.0 in
    (back.0, subst (λ (k : Mind). IsReadyBehind run s statement k l) (sym back.1) its.1))
    (c.lock_found.ensures.told run opened (idle_free g.D.Disk run opened a b h s statement 0 next act.Lock free idle).0 told sound (goes g.D.Disk run opened a m b h s statement 0 next rested keeps later) (goes_free g.D.Disk run opened a m b h s statement 0 next rested keeps later act.Lock free)
    (goes_stands g.D.Disk run opened a m b h s statement 0 next rested keeps later act.Lock free row.name.now row.entry stands) (goes_row g.D.Disk run opened a m b h s statement 0 next rested keeps later row of)
    (idle_free g.D.Disk run opened a b h s statement 0 next act.Lock free idle).1)

-- ---- what is left of the disk

pub returns-in-Err-clause-disk : goal.returns-in-Err-clause-disk
returns-in-Err-clause-disk g c = read_failed g.O.Origin.first g.D.Disk Answer c.args.store.now c.ask_act.new.store c.in-Err.fault c.in-Err.ensures.leaves

pub returns-in-Refused-clause-disk : goal.returns-in-Refused-clause-disk
returns-in-Refused-clause-disk g c = read_done g.O.Origin.first g.D.Disk c.args.store.now c.ask_act.new.store c.in-Ok.answer _ c.in-Ok.ensures.leaves

pub returns-in-None-clause-disk : goal.returns-in-None-clause-disk
returns-in-None-clause-disk g c = read_done g.O.Origin.first g.D.Disk c.args.store.now c.ask_act.new.store c.in-Ok.answer _ c.in-Ok.ensures.leaves

pub returns-in-Some-found-clause-disk : goal.returns-in-Some-found-clause-disk
returns-in-Some-found-clause-disk g c = disk_behind g.O.Origin.first g.D.Disk c.args.store.now c.ask_act.new.store c.lock_found.new.store c.in-Ok.answer _ c.in-Ok.ensures.leaves c.lock_found.ensures.disk
