use Rattle.std.proofs.Common.{◌≡◌, subst}
use Rattle.ctr_actions.specs.ctr_redo.States.{page_at}
use Rattle.ctr_alloc.specs.Free.{IsNextFree, taken_in}
use Rattle.ctr_alloc.proofs.BitLaws.{may_be_next}
use Rattle.ctr_alloc.proofs.FirstPage.{first_page_there}
use Rattle.ctr_alloc.proofs.store.next_free.Goals as goal

pub returns-clause-next : goal.returns-clause-next
returns-clause-next g c = λ told sound.
    let shown : c.in_ok-page.page.now ≡ page_at 0 c.args.store.now.now.pages = c.in_ok-page.ensures.shown told sound first_page_there in
    subst (λ n. IsNextFree n (taken_in (page_at 0 c.args.store.now.now.pages)) c.next_free_on.result) c.counted-counted.ensures
    (subst (λ l. IsNextFree c.counted-counted.result (taken_in l) c.next_free_on.result) shown c.next_free_on.ensures)

pub returns-clause-inside : goal.returns-clause-inside
returns-clause-inside g c = may_be_next c.args.store.now.now.counted (taken_in c.in_ok-page.page.now) c.next_free_on.result
    (subst (λ n. IsNextFree n (taken_in c.in_ok-page.page.now) c.next_free_on.result) c.counted-counted.ensures c.next_free_on.ensures)
