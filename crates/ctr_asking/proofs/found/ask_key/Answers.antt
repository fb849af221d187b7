use Rattle.std.proofs.Common.{rules, w64, ℕ, ℤ, Some, Option, sym, ◌∙◌, ap, subst}
use Rattle.std.specs.Option.{option_map}
use Rattle.std.proofs.lemmas.Int.{to_z-of_z}
use Rattle.ctr_types.specs.declared.tape.Refusal.{Refusal}
use Rattle.ctr_types.specs.declared.tape.Refusal.TheVariants as refusal
use Rattle.ctr_model.specs.Refusals.{locked_by, row_changed_by}
use Rattle.ctr_wishes.specs.actions_Sites.{site_of}
use Rattle.ctr_snap.specs.Seeing.{SnapshotTaken}
use Rattle.ctr_txn.specs.Held.{TxnHeld}
use Rattle.ctr_versions.proofs.Keys.{some_is}
use Rattle.ctr_asking.specs.Causes.{IsNewer}
use Rattle.ctr_asking.proofs.Firsts.{first_of_two, second_of_two}
use Rattle.ctr_asking.proofs.Reading.{behind_answered, behind_failed, unread_answered}
use Rattle.ctr_asking.proofs.found.ask_key.Goals as goal

pub returns-in-Some-clause-model : goal.returns-in-Some-clause-model
returns-in-Some-clause-model g c = λ told sound k statement name passed.
    let asker = c.args.asker.now in
    let key = c.args.key in
    let law = c.what_tells_of_a_row_is_the_models.ensures.locked asker (site_of c.args.store.now.now) k statement name c.args.entry key passed c.stands_in_order.ensures in
    first_of_two (λ n. refusal.RowLocked n) (λ n. refusal.RowChanged n) (locked_by k.state asker.s name key) (row_changed_by k.state k.t name key) c.in-Some.by (c.in-Some.ensures ∙ law)

pub returns-clause-model : goal.returns-clause-model
returns-clause-model g c = λ told sound k statement name passed.
    let asker = c.args.asker.now in
    let site = site_of c.args.store.now.now in
    let key = c.args.key in
    let laws = c.what_tells_of_a_row_is_the_models.ensures in
    let law = laws.locked asker site k statement name c.args.entry key passed c.stands_in_order.ensures in
    let free = c.in_default.ensures ∙ law in
    let commits = asker.txns.now.numbers.commits in
    let snapshot = ap (λ (t : TxnHeld). t.session.snapshot) (c.txn.view_is ∙ some_is c.args.txn.now k.txn (sym c.requires.in_it ∙ k.in_it)) in
    let newer = subst (λ (t : SnapshotTaken). IsNewer commits site t c.args.entry key c.in-Ok.newer) snapshot
    (subst (λ (j : ℤ). IsNewer commits site c.txn.inside.snapshot c.args.entry j c.in-Ok.newer) (to_z-of_z w64 c.number.result (search rules) ∙ c.number.ensures) (c.in-Ok.ensures.tells told sound k.shown.paged.sound.readable)) in
    c.row_refusal.ensures
    ∙ ap (option_map (λ n. refusal.RowChanged n)) (laws.newer asker site k statement name c.args.entry key c.in-Ok.newer passed (sym free) newer)
    ∙ second_of_two (λ n. refusal.RowLocked n) (λ n. refusal.RowChanged n) (locked_by k.state asker.s name key) (row_changed_by k.state k.t name key) free

pub returns-in-Some-clause-leaves : goal.returns-in-Some-clause-leaves
returns-in-Some-clause-leaves g c = λ a one. unread_answered g.O.Origin.first g.D.Disk (Option Refusal) (Some (refusal.RowLocked c.in-Some.by)) a c.args.store.now one

pub returns-clause-leaves : goal.returns-clause-leaves
returns-clause-leaves g c = λ a one. behind_answered g.O.Origin.first g.D.Disk (Option ℕ) (Option Refusal) c.in-Ok.newer c.row_refusal.result a c.args.store.now c.row_changed.new.store one c.in-Ok.ensures.leaves

pub returns-in-Err-clause-leaves : goal.returns-in-Err-clause-leaves
returns-in-Err-clause-leaves g c = λ a one. behind_failed g.O.Origin.first g.D.Disk (Option ℕ) (Option Refusal) c.in-Err.fault a c.args.store.now c.row_changed.new.store one c.in-Err.ensures.leaves
