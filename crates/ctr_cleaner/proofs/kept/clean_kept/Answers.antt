use Rattle.std.proofs.Common.{◌≡◌, true, sym, ◌∙◌, subst}
use Rattle.std.proofs.lemmas.Bool.{false≢true}
use Rattle.std.specs.Prelude.{IfOk, IfErr}
use Rattle.ctr_disk.specs.declared.fault.StoreFault.{StoreFault}
use Rattle.ctr_disk.specs.declared.fault.StoreFault.TheVariants.{Fault}
use Rattle.ctr_area.specs.Images.{is_live}
use Rattle.ctr_walk.specs.redo_States.{State}
use Rattle.ctr_walk.specs.record_effects_States.{area_in}
use Rattle.ctr_walk.specs.record_effects_Standing.{IsDatabaseState}
use Rattle.ctr_actions.specs.Sites.{site_of}
use Rattle.ctr_emptying.specs.cursor_Position.TheVariants.{Kept}
use Rattle.ctr_emptying.specs.cursor_Standing.{IsPosition}
use Rattle.ctr_cleaner.specs.Finding.{IsFreeRow, HasNothingAt}
use Rattle.ctr_cleaner.specs.Turning.{heeding}
use Rattle.ctr_cleaner.specs.Parts.{DidAt}
use Rattle.ctr_cleaner.proofs.kept.clean_kept.Goals as goal

pub returns-in-Err-clause-tries : goal.returns-in-Err-clause-tries
returns-in-Err-clause-tries g c = c.a_part_reads.ensures.unread _ g.O.Origin.first c.args.store.now c.title_at.new.store c.in-Err.fault c.title_at.result c.title_at.ensures.leaves c.in-Err.is

pub returns-then-is_live-clause-tries : goal.returns-then-is_live-clause-tries
returns-then-is_live-clause-tries g c = c.a_part_reads.ensures.behind _ g.O.Origin.first c.args.store.now c.title_at.new.store c.clean_older.new.store c.in-Ok.title c.clean_older.result c.in-Ok.ensures.leaves c.clean_older.ensures.tries

pub returns-then-is_live-clause-cleans : goal.returns-then-is_live-clause-cleans
returns-then-is_live-clause-cleans g c = λ spared may told sound database its.
    let s = c.args.store.now.now in
    let new = c.clean_older.new.store.now in
    let e = c.args.entry in
    let q = c.args.place in
    let locks = c.args.locks.now in
    subst (λ (u : State). IsDatabaseState u → IsPosition (Kept e q) (site_of u) → is_live ((area_in u).title e) ≡ true
    → IfOk c.clean_older.result (DidAt (heeding c.args.low locks spared may) (Kept e q) (HasNothingAt (IsFreeRow locks u) c.args.low (Kept e q) u) u new))
    (c.in-Ok.ensures.leaves.logs told sound).now (c.clean_older.ensures.cleans spared may told sound) database its (c.is_live.ensures ((area_in s).title e) (c.in-Ok.ensures.tells told sound) ∙ c.if-is_live.true)

pub returns-then-is_live-clause-refused : goal.returns-then-is_live-clause-refused
returns-then-is_live-clause-refused g c = λ told sound database its.
    let s = c.args.store.now.now in
    let e = c.args.entry in
    let q = c.args.place in
    subst (λ (u : State). IsDatabaseState u → IsPosition (Kept e q) (site_of u) → is_live ((area_in u).title e) ≡ true → IfErr c.clean_older.result (λ (f : StoreFault). f ≡ Fault))
    (c.in-Ok.ensures.leaves.logs told sound).now (c.clean_older.ensures.refused told sound) database its (c.is_live.ensures ((area_in s).title e) (c.in-Ok.ensures.tells told sound) ∙ c.if-is_live.true)

pub returns-else-is_live-clause-tries : goal.returns-else-is_live-clause-tries
returns-else-is_live-clause-tries g c = c.a_part_reads.ensures.nothing _ g.O.Origin.first c.args.store.now c.title_at.new.store c.in-Ok.title c.in-Ok.ensures.leaves

pub returns-else-is_live-clause-cleans : goal.returns-else-is_live-clause-cleans
returns-else-is_live-clause-cleans g c = λ spared may told sound database its.
    let s = c.args.store.now.now in
    let isnt = c.is_live.ensures ((area_in s).title c.args.entry) (c.in-Ok.ensures.tells told sound) ∙ c.if-is_live.false in
    ((c.in-Ok.ensures.leaves.logs told sound).now, λ live. absurd (false≢true (sym isnt ∙ live)))
