use Rattle.std.proofs.Common.{rules, ◌≢◌, Bool, ◌∙◌, subst}
use Rattle.std.specs.Int.{w64}
use Rattle.std.proofs.lemmas.Int.{to_z-of_z}
use Rattle.std.specs.Prelude.{IfOk}
use Rattle.ctr_walk.specs.redo_States.{State}
use Rattle.ctr_walk.specs.record_effects_States.{area_in}
use Rattle.ctr_walk.proofs.Damages.{reads_err}
use Rattle.ctr_emptying.specs.clean_SlotFacts.{SlotFacts}
use Rattle.ctr_emptying.proofs.clean_Resting.{reads_on}
use Rattle.ctr_cleaner.specs.Parts.{KeyLockSaid}
use Rattle.ctr_cleaner.proofs.Found.{is_used, slot_said}
use Rattle.ctr_cleaner.proofs.rows.is_open.Goals as goal

pub returns-in-Err-clause-leaves : goal.returns-in-Err-clause-leaves
returns-in-Err-clause-leaves g c = reads_err g.O.Origin.first g.D.Disk SlotFacts Bool c.in-Err.fault c.args.store.now c.look_at.new.store c.in-Err.ensures.leaves

pub returns-clause-tells : goal.returns-clause-tells
returns-clause-tells g c = λ told sound taken.
    let e = c.args.entry in
    let f = c.in-Ok.facts in
    let same = (c.in-Ok.ensures.leaves.logs told sound).now in
    slot_said c.args.locks.now e c.args.store.now.now c.args.place f c.is_open_key.result (c.in-Ok.ensures.tells told sound) (is_used f.used c.if-not-facts.false)
    (subst (λ key. IfOk c.is_open_key.result (KeyLockSaid c.args.locks.now e key c.args.store.now.now)) (c.new.ensures ∙ to_z-of_z w64 f.key (search rules))
    (subst (λ (s : State). ((area_in s).title e).state ≢ 0 → IfOk c.is_open_key.result (KeyLockSaid c.args.locks.now e c.new.result s)) same (c.is_open_key.ensures.tells told sound) taken))

pub returns-clause-leaves : goal.returns-clause-leaves
returns-clause-leaves g c = reads_on g.O.Origin.first g.D.Disk c.in-Ok.facts c.args.store.now c.look_at.new.store c.is_open_key.new.store c.is_open_key.result c.in-Ok.ensures.leaves c.is_open_key.ensures.leaves
