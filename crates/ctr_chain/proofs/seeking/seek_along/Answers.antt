use Rattle.std.proofs.Common.{◌≡◌, ◌-◌, inr, suc, Ok, sym, ◌∙◌, ap, subst, arith}
use Rattle.std.specs.Prelude.{IsTrue, IfOk}
use Rattle.std.proofs.lemmas.Result.{err_from_is_err_and}
use Rattle.ctr_pvs.specs.redo_States.{State}
use Rattle.ctr_pvs.specs.base_Base.{IsSoundImage}
use Rattle.ctr_pvs.specs.record_effects_States.{pages_in}
use Rattle.ctr_pvs.specs.walk_Damage.{searched, EndsOnPage}
use Rattle.ctr_pvs.proofs.walk_Joins.{answers_ok}
use Rattle.ctr_pvs.proofs.walk_PagesRead.{reads_on, same_now, same_meta, was_read}
use Rattle.ctr_pvs.proofs.walk_Searches.{without, passed_page, leaves_without}
use Rattle.ctr_chain.specs.Looking.{LooksAtEntry}
use Rattle.ctr_chain.specs.Seeing.{sought_by}
use Rattle.ctr_chain.specs.Seeking.{EntriesOf, sought_along}
use Rattle.ctr_chain.proofs.Steps.{bad_here, found_here, next_here, at_end}
use Rattle.ctr_chain.proofs.seeking.seek_along.Given.{Over}
use Rattle.ctr_chain.proofs.seeking.seek_along.Goals.{In_ok-look}
use Rattle.ctr_chain.proofs.seeking.seek_along.Goals as goal

-- Behind a look at the next version entry: one is left, and what the look says, by the pages of the beginning.
module _ (g : Over) (c : In_ok-look g) where
  goes : c.loop-at.left ≡ suc (c.loop-at.left - 1)
  goes = omega (arith, c.if-left-eq0.false)

  looks : IsTrue g.D.Disk.tells → IsSoundImage g.O.Origin.first → LooksAtEntry c.args.counted c.args.table.now c.loop-at.at (pages_in c.args.store.now.now c.loop-at.at.page) (Ok c.in_ok-look.look)
  looks told sound = subst (λ (st : State). LooksAtEntry c.args.counted c.args.table.now c.loop-at.at (pages_in st c.loop-at.at.page) (Ok c.in_ok-look.look))
      (same_now g.O.Origin.first g.D.Disk _ c.args.store.now c.loop-at.store c.loop-at.invariant.0 told sound) (c.in_ok-look.ensures.looks told sound)

pub returns-then-left-eq0-clause-leaves : goal.returns-then-left-eq0-clause-leaves
returns-then-left-eq0-clause-leaves g c =
    answers_ok g.O.Origin.first g.D.Disk tt _ c.args.store.now c.loop-at.store
    (was_read g.O.Origin.first g.D.Disk _ c.args.store.now c.loop-at.store c.loop-at.invariant.0
    (λ u. omega (arith, u.1, c.if-left-eq0.true, c.most_entries-most.ensures.some)))

pub returns-in_err-look-clause-ends : goal.returns-in_err-look-clause-ends
returns-in_err-look-clause-ends g c =
    let p = err_from_is_err_and c.from_residual.result c.from_residual.ensures.1 in
    let t = c.args.table.now in
    let at = c.loop-at.at in
    let e = c.in_err-look.field-0.0 in
    let pages = pages_in c.args.store.now.now in
    let test = sought_by c.args.store.now.meta.tables c.args.sought.now in
    let goes : c.loop-at.left ≡ suc (c.loop-at.left - 1) = omega (arith, c.if-left-eq0.false) in
    rw (p.1, p.2) (λ told sound kinds.
    let same = same_now g.O.Origin.first g.D.Disk _ c.args.store.now c.loop-at.store c.loop-at.invariant.0 told sound in
    let ends = ap (λ n. sought_along test (record { counted = c.args.counted; pages = pages; entry = t.entry }) n c.args.home c.args.from) (sym c.most_entries-most.ensures.value) ∙ c.loop-at.invariant.1 told sound kinds in
    passed_page _ _ e at.page (LooksAtEntry c.args.counted t at (pages at.page)) _
    (λ bad looks. sym (ends ∙ bad_here test c.args.counted pages t kinds c.loop-at.left (c.loop-at.left - 1) c.loop-at.last at bad goes c.loop-at-test.true looks))
    (subst (λ (st : State). IfOk (searched (without _ e)) (EndsOnPage at.page (LooksAtEntry c.args.counted t at (pages_in st at.page)))) same (c.in_err-look.ensures.looks told sound)))

pub returns-in_err-look-clause-leaves : goal.returns-in_err-look-clause-leaves
returns-in_err-look-clause-leaves g c =
    let p = err_from_is_err_and c.from_residual.result c.from_residual.ensures.1 in
    let e = c.in_err-look.field-0.0 in
    rw (p.1, p.2) (leaves_without g.O.Origin.first g.D.Disk _ _ e c.args.store.now c.look_at_entry.new.store
    (reads_on g.O.Origin.first g.D.Disk _ c.args.store.now c.loop-at.store c.look_at_entry.new.store (searched (without _ e)) c.loop-at.invariant.0 c.in_err-look.ensures.leaves))

pub returns-then-is-clause-ends : goal.returns-then-is-clause-ends
returns-then-is-clause-ends g c = λ told sound kinds.
    let k = (goal.at.returns-then-is-clause-ends g c).In_ok-look in
    let t = c.args.table.now in
    let at = c.loop-at.at in
    let l = c.in_ok-look.look in
    let pages = pages_in c.args.store.now.now in
    let test = sought_by c.args.store.now.meta.tables c.args.sought.now in
    let meta = c.meta.ensures.tables ∙ c.in_ok-look.ensures.leaves.keeps.meta ∙ same_meta g.O.Origin.first g.D.Disk _ c.args.store.now c.loop-at.store c.loop-at.invariant.0 in
    let is = ap (λ m. sought_by m.tables c.args.sought.now l.xid) (sym meta) ∙ sym c.is.ensures ∙ c.if-is.true in
    sym (ap (λ n. sought_along test (record { counted = c.args.counted; pages = pages; entry = t.entry }) n c.args.home c.args.from) (sym c.most_entries-most.ensures.value)
    ∙ c.loop-at.invariant.1 told sound kinds ∙ found_here test c.args.counted pages t kinds c.loop-at.left (c.loop-at.left - 1) c.loop-at.last at l (goes g k) c.loop-at-test.true (looks g k told sound) is)

pub returns-then-is-clause-leaves : goal.returns-then-is-clause-leaves
returns-then-is-clause-leaves g c =
    answers_ok g.O.Origin.first g.D.Disk _ _ c.args.store.now c.look_at_entry.new.store
    (reads_on g.O.Origin.first g.D.Disk _ c.args.store.now c.loop-at.store c.look_at_entry.new.store (searched (Ok c.in_ok-look.look)) c.loop-at.invariant.0 c.in_ok-look.ensures.leaves)

pub loop-at-preserved : goal.loop-at-preserved
loop-at-preserved g c =
    let k = (goal.at.loop-at-preserved g c).In_ok-look in
    let t = c.args.table.now in
    let at = c.loop-at.at in
    let l = c.in_ok-look.look in
    let pages = pages_in c.args.store.now.now in
    let test = sought_by c.args.store.now.meta.tables c.args.sought.now in
    let meta = c.meta.ensures.tables ∙ c.in_ok-look.ensures.leaves.keeps.meta ∙ same_meta g.O.Origin.first g.D.Disk _ c.args.store.now c.loop-at.store c.loop-at.invariant.0 in
    let isnt = ap (λ m. sought_by m.tables c.args.sought.now l.xid) (sym meta) ∙ sym c.is.ensures ∙ c.if-is.false in (
      inr (answers_ok g.O.Origin.first g.D.Disk _ tt c.args.store.now c.look_at_entry.new.store
          (reads_on g.O.Origin.first g.D.Disk _ c.args.store.now c.loop-at.store c.look_at_entry.new.store (searched (Ok c.in_ok-look.look)) c.loop-at.invariant.0 c.in_ok-look.ensures.leaves)),
      λ told sound kinds.
          c.loop-at.invariant.1 told sound kinds ∙ next_here test c.args.counted pages t kinds c.loop-at.left (c.loop-at.left - 1) c.loop-at.last at l (goes g k) c.loop-at-test.true (looks g k told sound) isnt,
    )

pub returns-clause-ends : goal.returns-clause-ends
returns-clause-ends g c = λ told sound kinds.
    let r : EntriesOf = record { counted = c.args.counted; pages = pages_in c.args.store.now.now; entry = c.args.table.now.entry } in
    let test = sought_by c.args.store.now.meta.tables c.args.sought.now in
    sym (ap (λ n. sought_along test r n c.args.home c.args.from) (sym c.most_entries-most.ensures.value)
    ∙ c.loop-at.invariant.1 told sound kinds ∙ at_end test r c.loop-at.left c.loop-at.last c.loop-at.at c.loop-at-test.false)
