use Rattle.std.proofs.Common.{◌≡◌, sym, ◌∙◌, subst}
use Rattle.std.proofs.lemmas.Bool.{false≢true, eq-eqb, eqb-true}
use Rattle.std.specs.Prelude.{IfOk, IfErr}
use Rattle.ctr_disk.specs.declared.fault.StoreFault.{StoreFault}
use Rattle.ctr_disk.specs.declared.fault.StoreFault.TheVariants.{Fault}
use Rattle.ctr_walk.specs.redo_States.{State}
use Rattle.ctr_walk.specs.record_effects_States.{area_in}
use Rattle.ctr_walk.specs.record_effects_Standing.{IsDatabaseState}
use Rattle.ctr_emptying.specs.cursor_Position.TheVariants.{Entry}
use Rattle.ctr_cleaner.specs.Finding.{HasNothingInDead}
use Rattle.ctr_cleaner.specs.Turning.{MayAll}
use Rattle.ctr_cleaner.specs.Parts.{DidAt}
use Rattle.ctr_cleaner.proofs.Found.{done_so}
use Rattle.ctr_cleaner.proofs.entries.clean_dead.Goals as goal

pub returns-in-Err-clause-tries : goal.returns-in-Err-clause-tries
returns-in-Err-clause-tries g c = c.a_part_reads.ensures.unread c.args.may.unlink g.O.Origin.first c.args.store.now c.title_at.new.store c.in-Err.fault c.title_at.result c.title_at.ensures.leaves c.in-Err.is

pub returns-then-is_dead-clause-tries : goal.returns-then-is_dead-clause-tries
returns-then-is_dead-clause-tries g c = c.a_part_reads.ensures.behind c.args.may.unlink g.O.Origin.first c.args.store.now c.title_at.new.store c.empty_entry.new.store c.in-Ok.title c.empty_entry.result c.in-Ok.ensures.leaves c.empty_entry.ensures.tries

pub returns-then-is_dead-clause-cleans : goal.returns-then-is_dead-clause-cleans
returns-then-is_dead-clause-cleans g c = λ h lets told sound database.
    let s = c.args.store.now.now in
    let new = c.empty_entry.new.store.now in
    let e = c.args.entry in
    let may = c.args.may in
    let r = c.empty_entry.result in
    let dead = eqb-true ((area_in s).title e).state 2 (c.is_dead.ensures ((area_in s).title e) (c.in-Ok.ensures.tells told sound) ∙ c.if-is_dead.true) in
    done_so h (Entry e) (MayAll may → HasNothingInDead e s) (MayAll may → ((area_in s).title e).state ≡ 2 → HasNothingInDead e s) s new (λ none all is. none all) r
    (subst (λ (u : State). IsDatabaseState u → ((area_in u).title e).state ≡ 2 → IfOk r (DidAt h (Entry e) (MayAll may → HasNothingInDead e u) u new)) (c.in-Ok.ensures.leaves.logs told sound).now (c.empty_entry.ensures.cleans h lets told sound) database dead)

pub returns-then-is_dead-clause-refused : goal.returns-then-is_dead-clause-refused
returns-then-is_dead-clause-refused g c = λ told sound database.
    let s = c.args.store.now.now in
    let e = c.args.entry in
    let dead = eqb-true ((area_in s).title e).state 2 (c.is_dead.ensures ((area_in s).title e) (c.in-Ok.ensures.tells told sound) ∙ c.if-is_dead.true) in
    subst (λ (u : State). IsDatabaseState u → ((area_in u).title e).state ≡ 2 → IfErr c.empty_entry.result (λ (f : StoreFault). f ≡ Fault)) (c.in-Ok.ensures.leaves.logs told sound).now (c.empty_entry.ensures.refused told sound) database dead

pub returns-else-is_dead-clause-tries : goal.returns-else-is_dead-clause-tries
returns-else-is_dead-clause-tries g c = c.a_part_reads.ensures.nothing c.args.may.unlink g.O.Origin.first c.args.store.now c.title_at.new.store c.in-Ok.title c.in-Ok.ensures.leaves

pub returns-else-is_dead-clause-cleans : goal.returns-else-is_dead-clause-cleans
returns-else-is_dead-clause-cleans g c = λ h lets told sound database.
    let s = c.args.store.now.now in
    let e = c.args.entry in
    let isnt = c.is_dead.ensures ((area_in s).title e) (c.in-Ok.ensures.tells told sound) ∙ c.if-is_dead.false in
    ((c.in-Ok.ensures.leaves.logs told sound).now, λ all dead. absurd (false≢true (sym isnt ∙ eq-eqb ((area_in s).title e).state 2 dead)))
