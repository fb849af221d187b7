use Rattle.std.proofs.Common.{ℕ, None, Err, sym, ◌∙◌, ap, subst}
use Rattle.std.specs.Option.{option_copied}
use Rattle.ctr_model.specs.declared.state.State.{State}
use Rattle.ctr_types.specs.declared.tape.Act.TheVariants as act
use Rattle.ctr_types.specs.declared.tape.Reply.TheVariants as reply
use Rattle.ctr_redo.specs.States.{State as Stored}
use Rattle.ctr_record_effects.specs.States.{area_in}
use Rattle.ctr_session_world.specs.kept_Walk.{Mind}
use Rattle.ctr_session_world.specs.Told.{IsNextOf, IsActTold}
use Rattle.ctr_session_world.specs.World.{SessionsHeld}
use Rattle.ctr_session_world.proofs.Going.{goes, goes_told, rests_read}
use Rattle.ctr_session_world.proofs.Ready.{ready_behind, ready_read, stands_still}
use Rattle.ctr_asking.specs.declared.asker.Answer.{Answer}
use Rattle.ctr_asking.specs.Asking.{IsInCatalog}
use Rattle.ctr_looks.specs.Asked.{IsAsked}
use Rattle.ctr_looks.specs.Granting.{CountsOnFound, HasItemIfGranted, granted_or}
use Rattle.ctr_looks.proofs.Naming.{held_so}
use Rattle.ctr_looks.proofs.Staying.{goes_found, goes_free, idle_free}
use Rattle.ctr_looks.proofs.Tabled.{found_for, found_of, its_free, schema_has_no_key, schema_locks_first, something, write_is}
use Rattle.ctr_session_world.proofs.Disks.{disk_behind, disk_done, disk_failed}
use Rattle.ctr_looks.proofs.Leaving.{read_done, read_failed}
use Rattle.ctr_looks.proofs.tables.lock_table.Goals as goal

pub returns-in-None-why-clause-ready : goal.returns-in-None-why-clause-ready
returns-in-None-why-clause-ready g c = (
  write_is c.args.statement.now c.in-Free.found c.in-Some-what_is_written.write (sym c.what_is_written.ensures ∙ c.in-Some-what_is_written.is) (subst IsInCatalog c.in-Free.is c.in-Ok.ensures.inside),
  subst (HasItemIfGranted c.args.s c.grant_name.new.txns) c.in-None-why.is c.in-Ok-grant_name.ensures.item,
)

-- ---- what is left of the sessions

pub returns-in-Refused-clause-over : goal.returns-in-Refused-clause-over
returns-in-Refused-clause-over g c =
    let leaves = c.in-Ok.ensures.leaves in
    (ready_read c.args.s c.args.txns.now c.args.store.now c.ask_act.new.store leaves.keeps leaves.going c.requires.may.stand, λ unasked. unasked)

pub returns-in-None-clause-over : goal.returns-in-None-clause-over
returns-in-None-clause-over g c =
    let leaves = c.in-Ok.ensures.leaves in
    (ready_read c.args.s c.args.txns.now c.args.store.now c.ask_act.new.store leaves.keeps leaves.going c.requires.may.stand, λ unasked. unasked)

pub grant_name-requires-clause-may : goal.grant_name-requires-clause-may
grant_name-requires-clause-may g c =
    let a = c.args.store.now in
    let m = c.ask_act.new.store in
    let may = c.requires.may in
    let leaves = c.in-Ok.ensures.leaves in
    record { one = may.one; stand = stands_still c.args.txns.now a m leaves.keeps.meta may.stand; room = c.room_is_still_there.ensures.behind 0 0 a m leaves.keeps leaves.going may.room }

pub returns-in-Some-why-clause-over : goal.returns-in-Some-why-clause-over
returns-in-Some-why-clause-over g c =
    let leaves = c.in-Ok-grant_name.ensures.over in
    (ready_behind c.args.s c.args.txns.now c.grant_name.new.txns c.args.store.now c.ask_act.new.store c.grant_name.new.store c.in-Ok.ensures.leaves.keeps leaves.0, leaves.1)

pub returns-in-None-why-clause-over : goal.returns-in-None-why-clause-over
returns-in-None-why-clause-over g c =
    let leaves = c.in-Ok-grant_name.ensures.over in
    (ready_behind c.args.s c.args.txns.now c.grant_name.new.txns c.args.store.now c.ask_act.new.store c.grant_name.new.store c.in-Ok.ensures.leaves.keeps leaves.0, leaves.1)

-- ---- what is told

pub returns-in-Refused-clause-told : goal.returns-in-Refused-clause-told
returns-in-Refused-clause-told g c = λ run opened told sound next stuck idle.
    let a = c.args.store.now in
    let m = c.ask_act.new.store in
    let s = c.args.s in
    let statement = c.args.statement.now in
    let h : SessionsHeld = record { txns = c.args.txns.now; locks = c.args.locks.now } in
    let first = λ (state : State) (r : ℕ). schema_locks_first state r statement c.requires.schema in
    let rested = rests_read g.O.Origin.first g.D.Disk a m c.in-Ok.answer told sound c.in-Ok.ensures.leaves (c.rests.ensures told sound c.in-Ok.ensures.leaves.going) in (
      c.a_refused_look_is_told.ensures run opened a m h s statement next act.Lock tt first c.in-Refused.refusal
          (subst (λ q. IsAsked next act.Lock q) c.in-Refused.is (c.in-Ok.ensures.asked run opened m told sound next stuck tt first)) rested,
      tt,
    )

pub returns-in-None-clause-told : goal.returns-in-None-clause-told
returns-in-None-clause-told g c = λ run opened told sound next stuck idle.
    let a = c.args.store.now in
    let m = c.ask_act.new.store in
    let s = c.args.s in
    let statement = c.args.statement.now in
    let h : SessionsHeld = record { txns = c.args.txns.now; locks = c.args.locks.now } in
    let first = λ (state : State) (r : ℕ). schema_locks_first state r statement c.requires.schema in
    let asked = subst (λ q. IsAsked next act.Lock q) c.in-Free.is (c.in-Ok.ensures.asked run opened m told sound next stuck tt first) in
    absurd (something g.D.Disk run opened a m h s statement next c.in-Free.found asked (sym c.what_is_written.ensures ∙ c.in-None.is))

pub returns-in-Some-why-clause-told : goal.returns-in-Some-why-clause-told
returns-in-Some-why-clause-told g c = λ run opened told sound next stuck idle.
    let a = c.args.store.now in
    let m = c.ask_act.new.store in
    let b = c.grant_name.new.store in
    let s = c.args.s in
    let statement = c.args.statement.now in
    let name = c.in-Some.name.now in
    let h : SessionsHeld = record { txns = c.args.txns.now; locks = c.args.locks.now } in
    let now : SessionsHeld = record { txns = c.grant_name.new.txns; locks = c.grant_name.new.locks } in
    let first = λ (state : State) (r : ℕ). schema_locks_first state r statement c.requires.schema in
    let named = sym c.table_of.ensures ∙ ap option_copied c.in-Some.is in
    let rested = rests_read g.O.Origin.first g.D.Disk a m c.in-Ok.answer told sound c.in-Ok.ensures.leaves (c.rests.ensures told sound c.in-Ok.ensures.leaves.going) in
    let asked = subst (λ q. IsAsked next act.Lock q) c.in-Free.is (c.in-Ok.ensures.asked run opened b told sound next stuck tt first) in
    let free = its_free g.D.Disk run opened a b h s statement next c.in-Free.found asked in
    let keeps = c.pages_that_are_read_keep_a_world.ensures run opened a m next.mind next.world.keeps rested in
    let later = c.grant_name.ensures.disk.later in
    let then : IsNextOf g.D.Disk run opened m b h s statement 0 = goes g.D.Disk run opened a m b h s statement 0 next rested keeps later in
    let its = subst (λ r. (told : IsActTold then now act.Lock (granted_or r)) × CountsOnFound r None (area_in m.now).title (told.mind.facts s)) c.in-Some-why.is
    (c.in-Ok-grant_name.ensures.told run opened statement (idle_free g.D.Disk run opened a b h s statement 0 next act.Lock free idle).0 told sound then (goes_free g.D.Disk run opened a m b h s statement 0 next rested keeps later act.Lock free) first
    (record { named = named; keyless = schema_has_no_key statement c.requires.schema; schema = c.requires.schema }) None tt (idle_free g.D.Disk run opened a b h s statement 0 next act.Lock free idle).1) in
    ((goes_told g.D.Disk run opened a m b h s statement 0 next rested keeps later now act.Lock (reply.Refused c.in-Some-why.refusal) its.0).0, tt)

pub returns-in-None-why-clause-told : goal.returns-in-None-why-clause-told
returns-in-None-why-clause-told g c = λ run opened told sound next stuck idle.
    let a = c.args.store.now in
    let m = c.ask_act.new.store in
    let b = c.grant_name.new.store in
    let s = c.args.s in
    let statement = c.args.statement.now in
    let name = c.in-Some.name.now in
    let write = c.in-Some-what_is_written.write in
    let h : SessionsHeld = record { txns = c.args.txns.now; locks = c.args.locks.now } in
    let now : SessionsHeld = record { txns = c.grant_name.new.txns; locks = c.grant_name.new.locks } in
    let first = λ (state : State) (r : ℕ). schema_locks_first state r statement c.requires.schema in
    let named = sym c.table_of.ensures ∙ ap option_copied c.in-Some.is in
    let keyless = schema_has_no_key statement c.requires.schema in
    let rested = rests_read g.O.Origin.first g.D.Disk a m c.in-Ok.answer told sound c.in-Ok.ensures.leaves (c.rests.ensures told sound c.in-Ok.ensures.leaves.going) in
    let asked = subst (λ q. IsAsked next act.Lock q) c.in-Free.is (c.in-Ok.ensures.asked run opened b told sound next stuck tt first) in
    let free = its_free g.D.Disk run opened a b h s statement next c.in-Free.found asked in
    let does = sym c.what_is_written.ensures ∙ c.in-Some-what_is_written.is in
    let stands = found_for g.D.Disk run opened a b h s statement next c.in-Free.found asked name named write does in
    let keeps = c.pages_that_are_read_keep_a_world.ensures run opened a m next.mind next.world.keeps rested in
    let later = c.grant_name.ensures.disk.later in
    let then : IsNextOf g.D.Disk run opened m b h s statement 0 = goes g.D.Disk run opened a m b h s statement 0 next rested keeps later in
    let its = subst (λ r. (told : IsActTold then now act.Lock (granted_or r)) × CountsOnFound r (found_of write) (area_in m.now).title (told.mind.facts s)) c.in-None-why.is
    (c.in-Ok-grant_name.ensures.told run opened statement (idle_free g.D.Disk run opened a b h s statement 0 next act.Lock free idle).0 told sound then (goes_free g.D.Disk run opened a m b h s statement 0 next rested keeps later act.Lock free) first
    (record { named = named; keyless = keyless; schema = c.requires.schema }) (found_of write) (goes_found g.D.Disk run opened a m b h s statement 0 next rested keeps later act.Lock free name (found_of write) stands)
    (idle_free g.D.Disk run opened a b h s statement 0 next act.Lock free idle).1) in
    let back = goes_told g.D.Disk run opened a m b h s statement 0 next rested keeps later now act.Lock reply.Granted its.0 in
    let title = subst (λ (q : Stored). CountsOnFound None (found_of write) (area_in q).title (its.0.mind.facts s)) rested.logs.now its.1 in
    let counts = subst (λ (k : Mind). CountsOnFound None (found_of write) (area_in a.now).title (k.facts s)) (sym back.1) title in
    let is = write_is statement c.in-Free.found write does (subst IsInCatalog c.in-Free.is c.in-Ok.ensures.inside) in
    (back.0, held_so g.D.Disk run opened a b h s statement next free name named keyless write c.requires.schema is stands back.0.mind back.0.tape counts)

-- ---- what is left of the disk

pub returns-in-Err-clause-disk : goal.returns-in-Err-clause-disk
returns-in-Err-clause-disk g c = read_failed g.O.Origin.first g.D.Disk Answer c.args.store.now c.ask_act.new.store c.in-Err.fault c.in-Err.ensures.leaves

pub returns-in-Refused-clause-disk : goal.returns-in-Refused-clause-disk
returns-in-Refused-clause-disk g c = read_done g.O.Origin.first g.D.Disk c.args.store.now c.ask_act.new.store c.in-Ok.answer _ c.in-Ok.ensures.leaves

pub returns-in-None-clause-disk : goal.returns-in-None-clause-disk
returns-in-None-clause-disk g c = read_done g.O.Origin.first g.D.Disk c.args.store.now c.ask_act.new.store c.in-Ok.answer _ c.in-Ok.ensures.leaves

pub returns-in-Err-grant_name-clause-disk : goal.returns-in-Err-grant_name-clause-disk
returns-in-Err-grant_name-clause-disk g c =
    let m = c.ask_act.new.store in
    let b = c.grant_name.new.store in
    disk_behind g.O.Origin.first g.D.Disk c.args.store.now m b c.in-Ok.answer _ c.in-Ok.ensures.leaves (disk_failed g.O.Origin.first g.D.Disk m b c.in-Err-grant_name.fault c.in-Err-grant_name.ensures.disk)

pub returns-in-Some-why-clause-disk : goal.returns-in-Some-why-clause-disk
returns-in-Some-why-clause-disk g c =
    let m = c.ask_act.new.store in
    let b = c.grant_name.new.store in
    disk_behind g.O.Origin.first g.D.Disk c.args.store.now m b c.in-Ok.answer _ c.in-Ok.ensures.leaves (disk_done g.O.Origin.first g.D.Disk m b c.in-Ok-grant_name.why _ c.in-Ok-grant_name.ensures.disk)

pub returns-in-None-why-clause-disk : goal.returns-in-None-why-clause-disk
returns-in-None-why-clause-disk g c =
    let m = c.ask_act.new.store in
    let b = c.grant_name.new.store in
    disk_behind g.O.Origin.first g.D.Disk c.args.store.now m b c.in-Ok.answer _ c.in-Ok.ensures.leaves (disk_done g.O.Origin.first g.D.Disk m b c.in-Ok-grant_name.why _ c.in-Ok-grant_name.ensures.disk)
