use Rattle.std.proofs.Common.{◌≡◌, ℕ, ◌+◌, Option, inl, inr, Ok, refl, sym, ◌∙◌, ap, subst, arith}
use Rattle.ctr_disk.specs.declared.fault.StoreFault.TheVariants.{Fault}
use Rattle.ctr_redo.specs.States.{State}
use Rattle.ctr_record_effects.specs.Standing.{IsDatabaseState}
use Rattle.ctr_walk.proofs.Joins.{answers_ok}
use Rattle.ctr_walk.proofs.PagesRead.{reads_on, still_goes, same_now}
use Rattle.ctr_wishes.specs.actions_Sites.{site_of}
use Rattle.ctr_asking.specs.Causes.{later, last_change}
use Rattle.ctr_asking.proofs.Greatest.{last_zero}
use Rattle.ctr_asking.proofs.Reading.{read_on_failed}
use Rattle.ctr_asking.proofs.names.last_change.Goals as goal

pub loop-entry-init : goal.loop-entry-init
loop-entry-init g c = (inl (refl, refl), omega arith, λ told sound. sym (last_zero c.args.txns.now.numbers.commits (site_of c.args.store.now.now) c.args.snapshot.now c.args.name.now))

pub change_number-requires-clause-going : goal.change_number-requires-clause-going
change_number-requires-clause-going g c = still_goes g.O.Origin.first g.D.Disk _ c.args.store.now c.loop-entry.store c.loop-entry.invariant.0 c.requires.going

pub returns-in-Err-clause-refused : goal.returns-in-Err-clause-refused
returns-in-Err-clause-refused g c = λ told sound.
    let same = same_now g.O.Origin.first g.D.Disk _ c.args.store.now c.loop-entry.store c.loop-entry.invariant.0 told sound in
    subst (λ (u : State). IsDatabaseState u → c.in-Err.fault ≡ Fault) same (c.in-Err.ensures.refused told sound)

pub returns-in-Err-clause-leaves : goal.returns-in-Err-clause-leaves
returns-in-Err-clause-leaves g c = read_on_failed g.O.Origin.first g.D.Disk _ _ (Option ℕ) c.in-Err.fault c.args.store.now c.loop-entry.store c.change_number.new.store c.loop-entry.invariant.0 c.in-Err.ensures.leaves

pub loop-entry-preserved : goal.loop-entry-preserved
loop-entry-preserved g c = (
  inr (answers_ok g.O.Origin.first g.D.Disk c.in-Ok.at tt c.args.store.now c.change_number.new.store
      (reads_on g.O.Origin.first g.D.Disk _ c.args.store.now c.loop-entry.store c.change_number.new.store (Ok c.in-Ok.at) c.loop-entry.invariant.0 c.in-Ok.ensures.leaves)),
  (let lt = c.in-Ok.ensures.inside.1 in omega (arith, lt)),
  λ told sound.
      let commits = c.args.txns.now.numbers.commits in
      let snapshot = c.args.snapshot.now in
      let name = c.args.name.now in
      let entry = c.loop-entry.entry in
      let at = c.in-Ok.at in
      let same = same_now g.O.Origin.first g.D.Disk _ c.args.store.now c.loop-entry.store c.loop-entry.invariant.0 told sound in
      let here = subst (λ (u : State). last_change commits (site_of u) snapshot name (at.entry + 1) ≡ later (last_change commits (site_of u) snapshot name entry) at.number) same (c.in-Ok.ensures.tells told sound) in
      c.later-last.ensures ∙ ap (λ o. later o at.number) (c.loop-entry.invariant.2 told sound) ∙ sym here,
)

pub returns-clause-tells : goal.returns-clause-tells
returns-clause-tells g c = λ told sound.
    let most = c.loop-entry.invariant.1 in
    let least = c.loop-entry-test.false in
    let all : c.loop-entry.entry ≡ 32 = omega (arith, most, least) in
    subst (λ n. c.loop-entry.last ≡ last_change c.args.txns.now.numbers.commits (site_of c.args.store.now.now) c.args.snapshot.now c.args.name.now n) all (c.loop-entry.invariant.2 told sound)
