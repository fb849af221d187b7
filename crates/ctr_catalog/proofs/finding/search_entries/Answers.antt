use Rattle.std.proofs.Common.{◌+◌, ◌/◌, ◌%◌, inr, Ok, refl, sym, ◌∙◌, ap, subst}
use Rattle.std.specs.Prelude.{IfOk}
use Rattle.std.proofs.lemmas.Result.{err_from_is_err_and}
use Rattle.ctr_alloc.specs.redo_States.{State}
use Rattle.ctr_names.specs.meta_Kept.{TablesKept}
use Rattle.ctr_alloc.specs.record_effects_States.{pages_in, area_in}
use Rattle.ctr_alloc.specs.walk_Damage.{searched, EndsOnPage}
use Rattle.ctr_alloc.proofs.walk_Joins.{answers_ok}
use Rattle.ctr_alloc.proofs.walk_PagesRead.{reads_on, still_goes, same_now, same_meta}
use Rattle.ctr_alloc.proofs.walk_Searches.{without, passed_page, leaves_without}
use Rattle.ctr_names.proofs.page_Searches.{passes_one}
use Rattle.ctr_catalog.specs.Finding.{NamedSaid, stands_seen, is_made_so, checks_at, entry_seen, EndsEntries}
use Rattle.ctr_catalog.proofs.Found.{seen_here}
use Rattle.ctr_catalog.proofs.finding.search_entries.Goals as goal

pub named_at-requires-clause-going : goal.named_at-requires-clause-going
named_at-requires-clause-going g c = still_goes g.O.Origin.first g.D.Disk _ c.args.store.now c.loop-entry.store c.loop-entry.invariant.0 c.requires.going

pub returns-in_err-found-clause-ends : goal.returns-in_err-found-clause-ends
returns-in_err-found-clause-ends g c =
    let p = err_from_is_err_and c.from_residual.result c.from_residual.ensures.1 in
    let n = c.counted-counted.result in
    let k = c.loop-entry.entry in
    let e = c.in_err-found.field-0.0 in
    let pages = pages_in c.args.store.now.now in
    let name = c.args.name.now in
    let seen = entry_seen c.args.store.now.meta.tables c.args.snapshot.now c.args.me name (area_in c.args.store.now.now) in
    rw (p.1, p.2) (λ told sound.
    let same = same_now g.O.Origin.first g.D.Disk _ c.args.store.now c.loop-entry.store c.loop-entry.invariant.0 told sound in
    subst (λ m. IfOk (searched (without _ e)) (EndsEntries (checks_at m pages) seen)) c.counted-counted.ensures
    (passed_page _ _ e (1 + k / 16) (NamedSaid n name (k % 16) (pages (1 + k / 16))) (EndsEntries (checks_at n pages) seen)
    (λ bad said. (k, c.loop-entry-test.true, c.loop-entry.invariant.1 told sound, said, refl))
    (subst (λ (st : State). IfOk (searched (without _ e)) (EndsOnPage (1 + k / 16) (NamedSaid n name (k % 16) (pages_in st (1 + k / 16))))) same (c.in_err-found.ensures.said told sound))))

pub returns-in_err-found-clause-leaves : goal.returns-in_err-found-clause-leaves
returns-in_err-found-clause-leaves g c =
    let p = err_from_is_err_and c.from_residual.result c.from_residual.ensures.1 in
    let e = c.in_err-found.field-0.0 in
    rw (p.1, p.2) (leaves_without g.O.Origin.first g.D.Disk _ _ e c.args.store.now c.named_at.new.store
    (reads_on g.O.Origin.first g.D.Disk _ c.args.store.now c.loop-entry.store c.named_at.new.store (searched (without _ e)) c.loop-entry.invariant.0 c.in_err-found.ensures.leaves))

pub returns-then-is_sought-clause-leaves : goal.returns-then-is_sought-clause-leaves
returns-then-is_sought-clause-leaves g c =
    answers_ok g.O.Origin.first g.D.Disk _ _ c.args.store.now c.named_at.new.store
    (reads_on g.O.Origin.first g.D.Disk _ c.args.store.now c.loop-entry.store c.named_at.new.store (searched (Ok c.in_ok-found.found)) c.loop-entry.invariant.0 c.in_ok-found.ensures.leaves)

pub loop-entry-preserved : goal.loop-entry-preserved
loop-entry-preserved g c = (
  inr (answers_ok g.O.Origin.first g.D.Disk _ tt c.args.store.now c.named_at.new.store
      (reads_on g.O.Origin.first g.D.Disk _ c.args.store.now c.loop-entry.store c.named_at.new.store (searched (Ok c.in_ok-found.found)) c.loop-entry.invariant.0 c.in_ok-found.ensures.leaves)),
  λ told sound.
      let n = c.counted-counted.result in
      let e = c.loop-entry.entry in
      let pages = pages_in c.args.store.now.now in
      let name = c.args.name.now in
      let same = same_now g.O.Origin.first g.D.Disk _ c.args.store.now c.loop-entry.store c.loop-entry.invariant.0 told sound in
      let said = subst (λ (st : State). NamedSaid n name (e % 16) (pages_in st (1 + e / 16)) (Ok c.in_ok-found.found)) same (c.in_ok-found.ensures.said told sound) in
      let meta = c.meta.ensures.tables ∙ c.in_ok-found.ensures.leaves.keeps.meta ∙ same_meta g.O.Origin.first g.D.Disk _ c.args.store.now c.loop-entry.store c.loop-entry.invariant.0 in
      let isnt = seen_here pages n c.args.store.now.meta.tables c.args.snapshot.now name e c.loop-entry-test.true c.in_ok-found.found said c.args.me
      ∙ sym (ap (λ (m : TablesKept). is_made_so (stands_seen m.tables c.args.snapshot.now c.args.me) c.in_ok-found.found) meta) ∙ sym c.if-is_sought.ensures in
      passes_one (checks_at n pages) (entry_seen c.args.store.now.meta.tables c.args.snapshot.now c.args.me name (area_in c.args.store.now.now)) 0 e (c.loop-entry.invariant.1 told sound) said.0 isnt,
)
