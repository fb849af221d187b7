use Rattle.std.proofs.Common.{◌≡◌, true, sym, ◌∙◌, ap, subst}
use Rattle.std.proofs.lemmas.Bool.{false≢true}
use Rattle.ctr_emptying.specs.cursor_Position.TheVariants.{Entry}
use Rattle.ctr_cleaner.specs.declared.done.MayEmpty.{MayEmpty}
use Rattle.ctr_cleaner.specs.Finding.{HasNothingInDead}
use Rattle.ctr_cleaner.specs.Turning.{MayAll}
use Rattle.ctr_cleaner.specs.Parts.{Tries, HasNoEntryToFree}
use Rattle.ctr_cleaner.proofs.Found.{done_so}
use Rattle.ctr_cleaner.proofs.emptying.empty_entry.Goals as goal

pub returns-then-may-clause-tries : goal.returns-then-may-clause-tries
returns-then-may-clause-tries g c = subst (λ may. Tries may g.O.Origin.first g.D.Disk c.args.store.now c.unlink_or_free.new.store c.unlink_or_free.result) (sym c.if-may.true) c.unlink_or_free.ensures.tries

pub returns-then-may-clause-cleans : goal.returns-then-may-clause-cleans
returns-then-may-clause-cleans g c = λ h lets told sound database dead.
    let s = c.args.store.now.now in
    let e = c.args.entry in
    let may = c.args.may in
    done_so h (Entry e) (may.free ≡ true → HasNothingInDead e s) (MayAll may → HasNothingInDead e s) s c.unlink_or_free.new.store.now (λ none all. none all.1) c.unlink_or_free.result
    (c.unlink_or_free.ensures.cleans h (ap (λ (m : MayEmpty). m.free) lets) told sound database dead)

pub returns-else-may-clause-tries : goal.returns-else-may-clause-tries
returns-else-may-clause-tries g c =
    c.a_part_goes_on.ensures.may c.args.may.unlink g.O.Origin.first c.args.store.now c.free_where_it_may.new.store c.free_where_it_may.result c.free_where_it_may.ensures.tries

pub returns-else-may-clause-cleans : goal.returns-else-may-clause-cleans
returns-else-may-clause-cleans g c = λ h lets told sound database dead.
    let s = c.args.store.now.now in
    let e = c.args.entry in
    let may = c.args.may in
    done_so h (Entry e) (may.free ≡ true → HasNoEntryToFree e s) (MayAll may → HasNothingInDead e s) s c.free_where_it_may.new.store.now (λ none all. absurd (false≢true (sym c.if-may.false ∙ all.0))) c.free_where_it_may.result
    (c.free_where_it_may.ensures.cleans h (ap (λ (m : MayEmpty). m.free) lets) told sound database)

pub returns-else-may-clause-refused : goal.returns-else-may-clause-refused
returns-else-may-clause-refused g c = λ told sound database dead. c.free_where_it_may.ensures.refused told sound database
