use Rattle.std.proofs.Common.{◌≡◌, ℕ, List, None, Option, Err, ◌++◌, append_assoc, sym, ◌∙◌, ap, subst}
use Rattle.std.specs.Prelude.{IfOk, IfErr}
use Rattle.ctr_types.specs.declared.tape.Refusal.{Refusal}
use Rattle.ctr_disk.specs.declared.fault.StoreFault.TheVariants.{Fault}
use Rattle.ctr_redo.specs.States.{State}
use Rattle.ctr_record_effects.specs.States.{pages_in, area_in}
use Rattle.ctr_record_effects.specs.Standing.{IsDatabaseState}
use Rattle.ctr_model.specs.Database.{table_at}
use Rattle.ctr_model.specs.State.{view}
use Rattle.ctr_model.specs.Refusals.{first_of, key_locked, key_refusals, name_refusals, presence_refusals, value_refusals}
use Rattle.ctr_walk.specs.Damage.{damage_told}
use Rattle.ctr_versions.proofs.Keys.{some_is}
use Rattle.ctr_wishes.specs.actions_Sites.{site_of}
use Rattle.ctr_wishes.specs.ctr_reading.catalog_Finding.{checks_at, entry_seen, EndsEntries}
use Rattle.ctr_txn.specs.Held.{TxnHeld}
use Rattle.ctr_asking.specs.declared.asker.Answer.{Answer}
use Rattle.ctr_asking.specs.declared.asker.Answer.TheVariants.{Refused}
use Rattle.ctr_asking.specs.Asking.{Asking, FindsFor, me_held, refusal_told}
use Rattle.ctr_asking.proofs.Firsts.{found_first, parts_none}
use Rattle.ctr_asking.proofs.Going.{by_first, finds_table, found_for, inside_of}
use Rattle.ctr_asking.proofs.Reading.{read_answered, read_failed, read_first, undamaged}
use Rattle.ctr_asking.proofs.asking.ask_named.Goals as goal

pub ask_found-requires-clause-going : goal.ask_found-requires-clause-going
ask_found-requires-clause-going g c = (c.in-Ok-refused_by_name.ensures.leaves c.args.store.now (read_first g.O.Origin.first g.D.Disk (Option ℕ) c.in-Ok.found c.args.store.now c.find.new.store c.in-Ok.ensures.leaves)).going

pub returns-in-Some-clause-model : goal.returns-in-Some-clause-model
returns-in-Some-clause-model g c = λ told sound k.
    let asker = c.args.asker.now in
    let statement = c.args.statement.now in
    let name = c.args.name.now in
    let table = table_at (view k.state k.t) name in
    let presence = presence_refusals statement table in
    let names = name_refusals k.state asker.s k.t statement name in
    let values = value_refusals statement table in
    let keys = key_refusals k.state asker.s k.t name (key_locked c.args.act.now statement) in
    let mine = some_is c.args.txn.now k.txn (sym c.requires.in_it ∙ k.in_it) in
    let finds = found_for k.txn (site_of c.args.store.now.now) name c.txn.inside.snapshot c.me_of.result c.in-Ok.found (ap (λ (t : TxnHeld). t.session.snapshot) (c.txn.view_is ∙ mine)) (c.me_of.ensures ∙ ap me_held mine) (checks_at c.args.store.now.now.counted (pages_in c.args.store.now.now), c.in-Ok.ensures.ends told sound) in
    let model = subst (λ (u : State). (k : Asking asker (site_of u)) → FindsFor (site_of u) k.txn name c.in-Ok.found → c.in-Ok-refused_by_name.why ≡ first_of (presence_refusals statement (table_at (view k.state k.t) name) ++ name_refusals k.state asker.s k.t statement name))
    (c.in-Ok.ensures.leaves.logs told sound).now (c.in-Ok-refused_by_name.ensures.model told sound) in
    found_first (presence ++ names ++ values) keys c.in-Some.why (found_first (presence ++ names) values c.in-Some.why (sym c.in-Some.is ∙ model k finds))

pub returns-in-None-clause-model : goal.returns-in-None-clause-model
returns-in-None-clause-model g c = λ told sound k.
    let asker = c.args.asker.now in
    let statement = c.args.statement.now in
    let name = c.args.name.now in
    let table = table_at (view k.state k.t) name in
    let presence = presence_refusals statement table in
    let names = name_refusals k.state asker.s k.t statement name in
    let values = value_refusals statement table in
    let keys = key_refusals k.state asker.s k.t name (key_locked c.args.act.now statement) in
    let mine = some_is c.args.txn.now k.txn (sym c.requires.in_it ∙ k.in_it) in
    let finds = found_for k.txn (site_of c.args.store.now.now) name c.txn.inside.snapshot c.me_of.result c.in-Ok.found (ap (λ (t : TxnHeld). t.session.snapshot) (c.txn.view_is ∙ mine)) (c.me_of.ensures ∙ ap me_held mine) (checks_at c.args.store.now.now.counted (pages_in c.args.store.now.now), c.in-Ok.ensures.ends told sound) in
    let model = subst (λ (u : State). (k : Asking asker (site_of u)) → FindsFor (site_of u) k.txn name c.in-Ok.found → c.in-Ok-refused_by_name.why ≡ first_of (presence_refusals statement (table_at (view k.state k.t) name) ++ name_refusals k.state asker.s k.t statement name))
    (c.in-Ok.ensures.leaves.logs told sound).now (c.in-Ok-refused_by_name.ensures.model told sound) in
    let clear = sym c.in-None.is ∙ model k finds in
    let behind = c.in-Ok-refused_by_name.ensures.leaves c.args.store.now (read_first g.O.Origin.first g.D.Disk (Option ℕ) c.in-Ok.found c.args.store.now c.find.new.store c.in-Ok.ensures.leaves) in
    let rest = subst (λ (u : State). (k : Asking asker (site_of u)) → FindsFor (site_of u) k.txn name c.in-Ok.found
    → first_of (presence_refusals statement (table_at (view k.state k.t) name) ++ name_refusals k.state asker.s k.t statement name) ≡ None
    → IfOk c.ask_found.result (λ a. refusal_told a ≡ first_of (value_refusals statement (table_at (view k.state k.t) name) ++ key_refusals k.state asker.s k.t name (key_locked c.args.act.now statement))))
    (behind.logs told sound).now (λ k. c.ask_found.ensures.model told sound k name) in
    subst (λ (rs : List (Option Refusal)). IfOk c.ask_found.result (λ a. refusal_told a ≡ first_of rs)) (sym (append_assoc (presence ++ names) values keys))
    (by_first c.ask_found.result (presence ++ names) (values ++ keys) clear (rest k finds (sym clear)))

pub returns-in-None-clause-found : goal.returns-in-None-clause-found
returns-in-None-clause-found g c = λ told sound k.
    let asker = c.args.asker.now in
    let statement = c.args.statement.now in
    let name = c.args.name.now in
    let site = site_of c.args.store.now.now in
    let table = table_at (view k.state k.t) name in
    let laws = c.what_tells_of_a_name_is_the_models.ensures in
    let mine = some_is c.args.txn.now k.txn (sym c.requires.in_it ∙ k.in_it) in
    let finds = found_for k.txn site name c.txn.inside.snapshot c.me_of.result c.in-Ok.found (ap (λ (t : TxnHeld). t.session.snapshot) (c.txn.view_is ∙ mine)) (c.me_of.ensures ∙ ap me_held mine) (checks_at c.args.store.now.now.counted (pages_in c.args.store.now.now), c.in-Ok.ensures.ends told sound) in
    let model = subst (λ (u : State). (k : Asking asker (site_of u)) → FindsFor (site_of u) k.txn name c.in-Ok.found → c.in-Ok-refused_by_name.why ≡ first_of (presence_refusals statement (table_at (view k.state k.t) name) ++ name_refusals k.state asker.s k.t statement name))
    (c.in-Ok.ensures.leaves.logs told sound).now (c.in-Ok-refused_by_name.ensures.model told sound) in
    let clear = (parts_none (presence_refusals statement table) (name_refusals k.state asker.s k.t statement name) (sym (sym c.in-None.is ∙ model k finds))).0 in
    finds_table site k.txn statement name c.in-Ok.found (clear ∙ sym (ap first_of (laws.there asker site k statement name c.in-Ok.found finds)))
    (λ e is. laws.found asker site k name e (subst (λ (o : Option ℕ). FindsFor site k.txn name o) is finds))
    (λ is. laws.none asker site k name (subst (λ (o : Option ℕ). FindsFor site k.txn name o) is finds))
    c.ask_found.result c.ask_found.ensures.of

pub returns-in-None-clause-inside : goal.returns-in-None-clause-inside
returns-in-None-clause-inside g c = inside_of c.in-Ok.found c.in-Ok.ensures.inside c.ask_found.result c.ask_found.ensures.of

pub returns-in-Err-clause-refused : goal.returns-in-Err-clause-refused
returns-in-Err-clause-refused g c = λ told sound db.
    let s = c.args.store.now.now in
    let seen = entry_seen s.tables c.txn.inside.snapshot c.me_of.result c.args.name.now (area_in s) in
    undamaged (EndsEntries (checks_at s.counted (pages_in s)) seen) (damage_told g.D.Disk c.find.new.store) (Err c.in-Err.fault)
    (c.a_catalog_search_meets_no_damage.ensures.named s seen db) (c.in-Err.ensures.ends told sound)

pub returns-in-Err-refused_by_name-clause-refused : goal.returns-in-Err-refused_by_name-clause-refused
returns-in-Err-refused_by_name-clause-refused g c = λ told sound.
    subst (λ (u : State). IsDatabaseState u → c.in-Err-refused_by_name.fault ≡ Fault) (c.in-Ok.ensures.leaves.logs told sound).now (c.in-Err-refused_by_name.ensures.refused told sound)

pub returns-in-None-clause-refused : goal.returns-in-None-clause-refused
returns-in-None-clause-refused g c = λ told sound.
    let behind = c.in-Ok-refused_by_name.ensures.leaves c.args.store.now (read_first g.O.Origin.first g.D.Disk (Option ℕ) c.in-Ok.found c.args.store.now c.find.new.store c.in-Ok.ensures.leaves) in
    subst (λ (u : State). IsDatabaseState u → IfErr c.ask_found.result (λ e. e ≡ Fault)) (behind.logs told sound).now (c.ask_found.ensures.refused told sound)

pub returns-in-Err-clause-leaves : goal.returns-in-Err-clause-leaves
returns-in-Err-clause-leaves g c = read_failed g.O.Origin.first g.D.Disk (Option ℕ) Answer c.in-Err.fault c.args.store.now c.find.new.store c.in-Err.ensures.leaves

pub returns-in-Err-refused_by_name-clause-leaves : goal.returns-in-Err-refused_by_name-clause-leaves
returns-in-Err-refused_by_name-clause-leaves g c =
    read_failed g.O.Origin.first g.D.Disk (Option Refusal) Answer c.in-Err-refused_by_name.fault c.args.store.now c.refused_by_name.new.store
    (c.in-Err-refused_by_name.ensures.leaves c.args.store.now (read_first g.O.Origin.first g.D.Disk (Option ℕ) c.in-Ok.found c.args.store.now c.find.new.store c.in-Ok.ensures.leaves))

pub returns-in-Some-clause-leaves : goal.returns-in-Some-clause-leaves
returns-in-Some-clause-leaves g c =
    read_answered g.O.Origin.first g.D.Disk (Option Refusal) Answer c.in-Ok-refused_by_name.why (Refused c.in-Some.why) c.args.store.now c.refused_by_name.new.store
    (c.in-Ok-refused_by_name.ensures.leaves c.args.store.now (read_first g.O.Origin.first g.D.Disk (Option ℕ) c.in-Ok.found c.args.store.now c.find.new.store c.in-Ok.ensures.leaves))

pub returns-in-None-clause-leaves : goal.returns-in-None-clause-leaves
returns-in-None-clause-leaves g c =
    let behind = c.in-Ok-refused_by_name.ensures.leaves c.args.store.now (read_first g.O.Origin.first g.D.Disk (Option ℕ) c.in-Ok.found c.args.store.now c.find.new.store c.in-Ok.ensures.leaves) in
    c.ask_found.ensures.leaves c.args.store.now (read_first g.O.Origin.first g.D.Disk (Option Refusal) c.in-Ok-refused_by_name.why c.args.store.now c.refused_by_name.new.store behind)
