use Rattle.std.proofs.Common.{◌≡◌, inr, ◌-◌, suc, None, Some, Ok, Err, subst, arith}
use Rattle.std.specs.Prelude.{IfOk}
use Rattle.std.proofs.lemmas.Result.{err_from_is_err_and}
use Rattle.ctr_record_effects.specs.ctr_redo.States.{State}
use Rattle.ctr_record_effects.specs.page_BadChain.TheVariants.{OnPage}
use Rattle.ctr_record_effects.specs.page_Place.{Place}
use Rattle.ctr_record_effects.specs.States.{pages_in}
use Rattle.ctr_walk.specs.Damage.{searched, EndsOnPage}
use Rattle.ctr_walk.specs.Along.{ChainSought, EndsPage, LooksAt, EndsAlong}
use Rattle.ctr_walk.proofs.Joins.{answers_ok}
use Rattle.ctr_walk.proofs.PagesRead.{reads_on, same_now}
use Rattle.ctr_walk.proofs.Searches.{without, passed_page, leaves_without}
use Rattle.ctr_walk.proofs.Ends.{found_here, bad_here, none_here, at_end}
use Rattle.ctr_walk.proofs.along.search_pages.Goals as goal

pub returns-in_err-found-clause-ends : goal.returns-in_err-found-clause-ends
returns-in_err-found-clause-ends g c =
    let p = err_from_is_err_and c.from_residual.result c.from_residual.ensures.1 in
    let s : ChainSought = record { chain = c.args.chain; counted = c.args.counted; ends = g.S.PageSought.ends c.args.sought.now c.args.kinds.now c.args.counted } in
    let e = c.in_err-found.field-0.0 in
    let at = c.loop-at.at in
    let pages = pages_in c.args.store.now.now in
    let goes : c.loop-at.left ≡ suc (c.loop-at.left - 1) = omega (arith, c.if-left-eq0.false) in
    rw (p.1, p.2) (λ told sound.
    let same = same_now g.O.Origin.first g.D.Disk _ c.args.store.now c.loop-at.store c.loop-at.invariant.0 told sound in
    subst (λ n. IfOk (searched (without _ e)) (EndsAlong s pages n 0 c.args.first)) c.saturating_sub-most.ensures
    (passed_page _ _ e at (LooksAt s (pages at)) (EndsAlong s pages c.saturating_sub-most.result 0 c.args.first)
    (λ bad looks. c.loop-at.invariant.2 told sound (Err (OnPage at bad)) (bad_here s pages c.loop-at.left (c.loop-at.left - 1) c.loop-at.last at bad goes c.loop-at-test.true looks))
    (subst (λ (st : State). IfOk (searched (without _ e)) (EndsOnPage at (LooksAt s (pages_in st at)))) same (c.in_err-found.ensures.looks told sound))))

pub returns-in_err-found-clause-leaves : goal.returns-in_err-found-clause-leaves
returns-in_err-found-clause-leaves g c =
    let p = err_from_is_err_and c.from_residual.result c.from_residual.ensures.1 in
    let e = c.in_err-found.field-0.0 in
    rw (p.1, p.2) (leaves_without g.O.Origin.first g.D.Disk _ _ e c.args.store.now c.look.new.store
    (reads_on g.O.Origin.first g.D.Disk _ c.args.store.now c.loop-at.store c.look.new.store (searched (without _ e)) c.loop-at.invariant.0 c.in_err-found.ensures.leaves))

pub returns-in-Some-clause-ends : goal.returns-in-Some-clause-ends
returns-in-Some-clause-ends g c = λ told sound.
    let s : ChainSought = record { chain = c.args.chain; counted = c.args.counted; ends = g.S.PageSought.ends c.args.sought.now c.args.kinds.now c.args.counted } in
    let at = c.loop-at.at in
    let pages = pages_in c.args.store.now.now in
    let place : Place = record { page = at; slot = c.in-Some.slot } in
    let same = same_now g.O.Origin.first g.D.Disk _ c.args.store.now c.loop-at.store c.loop-at.invariant.0 told sound in
    let looks = subst (λ (st : State). LooksAt s (pages_in st at) (Ok (c.in_ok-found.found, c.in_ok-found.next))) same (c.in_ok-found.ensures.looks told sound) in
    let goes : c.loop-at.left ≡ suc (c.loop-at.left - 1) = omega (arith, c.if-left-eq0.false) in
    subst (λ n. EndsAlong s pages n 0 c.args.first (Ok (Some place))) c.saturating_sub-most.ensures
    (c.loop-at.invariant.2 told sound (Ok (Some place)) (found_here s pages c.loop-at.left (c.loop-at.left - 1) c.loop-at.last at c.in-Some.slot goes c.loop-at-test.true (subst (λ o. EndsPage s (pages at) (Ok o)) c.in-Some.is looks.0)))

pub returns-in-Some-clause-leaves : goal.returns-in-Some-clause-leaves
returns-in-Some-clause-leaves g c =
    answers_ok g.O.Origin.first g.D.Disk _ _ c.args.store.now c.look.new.store
    (reads_on g.O.Origin.first g.D.Disk _ c.args.store.now c.loop-at.store c.look.new.store (searched (Ok (c.in_ok-found.found, c.in_ok-found.next))) c.loop-at.invariant.0 c.in_ok-found.ensures.leaves)

pub loop-at-preserved : goal.loop-at-preserved
loop-at-preserved g c =
    let s : ChainSought = record { chain = c.args.chain; counted = c.args.counted; ends = g.S.PageSought.ends c.args.sought.now c.args.kinds.now c.args.counted } in
    let at = c.loop-at.at in
    let pages = pages_in c.args.store.now.now in
    let goes : c.loop-at.left ≡ suc (c.loop-at.left - 1) = omega (arith, c.if-left-eq0.false) in (
      inr (answers_ok g.O.Origin.first g.D.Disk _ tt c.args.store.now c.look.new.store
          (reads_on g.O.Origin.first g.D.Disk _ c.args.store.now c.loop-at.store c.look.new.store (searched (Ok (c.in_ok-found.found, c.in_ok-found.next))) c.loop-at.invariant.0 c.in_ok-found.ensures.leaves)),
      c.in_ok-found.ensures.next,
      λ told sound r ends.
          let same = same_now g.O.Origin.first g.D.Disk _ c.args.store.now c.loop-at.store c.loop-at.invariant.0 told sound in
          let looks = subst (λ (st : State). LooksAt s (pages_in st at) (Ok (c.in_ok-found.found, c.in_ok-found.next))) same (c.in_ok-found.ensures.looks told sound) in
          c.loop-at.invariant.2 told sound r (none_here s pages c.loop-at.left (c.loop-at.left - 1) c.loop-at.last at c.in_ok-found.next r goes c.loop-at-test.true
          (subst (λ o. EndsPage s (pages at) (Ok o)) c.in_default.is looks.0) looks.1 ends),
    )

pub returns-clause-ends : goal.returns-clause-ends
returns-clause-ends g c = λ told sound.
    let s : ChainSought = record { chain = c.args.chain; counted = c.args.counted; ends = g.S.PageSought.ends c.args.sought.now c.args.kinds.now c.args.counted } in
    subst (λ n. EndsAlong s (pages_in c.args.store.now.now) n 0 c.args.first (Ok None)) c.saturating_sub-most.ensures
    (c.loop-at.invariant.2 told sound (Ok None) (at_end s (pages_in c.args.store.now.now) c.loop-at.left c.loop-at.last c.loop-at.at c.loop-at-test.false))
