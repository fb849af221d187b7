use Rattle.std.proofs.Common.{◌≡◌, true, false, refl, sym, ◌∙◌, subst}
use Rattle.std.proofs.lemmas.Bool.{false≢true}
use Rattle.std.specs.Prelude.{IfOk, IfErr}
use Rattle.ctr_disk.specs.declared.fault.StoreFault.{StoreFault}
use Rattle.ctr_disk.specs.declared.fault.StoreFault.TheVariants.{Fault}
use Rattle.ctr_emptying.specs.cursor_Position.TheVariants.{Entry}
use Rattle.ctr_cleaner.specs.Parts.{DidAt, HasNoEntryToFree, done_freed}
use Rattle.ctr_cleaner.proofs.Joined.{part_told}
use Rattle.ctr_cleaner.proofs.Found.{freed_err, done_so, frees_entry}
use Rattle.ctr_cleaner.proofs.emptying.free_where_it_may.Goals as goal

pub returns-then-may_free-clause-tries : goal.returns-then-may_free-clause-tries
returns-then-may_free-clause-tries g c =
    let first = g.O.Origin.first in
    let old = c.args.store.now in
    let new = c.free_entry_at.new.store in
    let r = c.free_entry_at.result in
    let does = c.free_entry_at.ensures in
    part_told first g.D.Disk false old new (done_freed r) c.freed.result c.freed.result c.freed.ensures refl (c.a_step_is_a_part.ensures.freed first old new r does.turns does.numbers does.left does.counted)

pub returns-then-may_free-clause-cleans : goal.returns-then-may_free-clause-cleans
returns-then-may_free-clause-cleans g c = λ h lets told sound database.
    let s = c.args.store.now.now in
    let new = c.free_entry_at.new.store.now in
    let e = c.args.entry in
    let may = c.args.may_free in
    let r = c.free_entry_at.result in
    subst (λ a. IfOk a (DidAt h (Entry e) (may ≡ true → HasNoEntryToFree e s) s new)) (sym c.freed.ensures)
    (done_so h (Entry e) (HasNoEntryToFree e s) (may ≡ true → HasNoEntryToFree e s) s new (λ none is. none) (done_freed r)
    (frees_entry h e s new r (lets ∙ c.if-may_free.true) (c.free_entry_at.ensures.cleans told sound database)))

pub returns-then-may_free-clause-refused : goal.returns-then-may_free-clause-refused
returns-then-may_free-clause-refused g c = λ told sound database.
    subst (λ a. IfErr a (λ (f : StoreFault). f ≡ Fault)) (sym c.freed.ensures) (freed_err (λ (f : StoreFault). f ≡ Fault) c.free_entry_at.result (c.free_entry_at.ensures.refused told sound database))

pub returns-else-may_free-clause-cleans : goal.returns-else-may_free-clause-cleans
returns-else-may_free-clause-cleans g c = λ h lets told sound database. (refl, λ is. absurd (false≢true (sym c.if-may_free.false ∙ is)))
