use Rattle.std.proofs.Common.{◌≡◌, ◌∙◌, false, Option, None, Some, sym, ap, subst}
use Rattle.std.specs.Prelude.{ℤ}
use Rattle.std.specs.Int.{w64}
use Rattle.std.proofs.lemmas.Int.{to_z-of_z}
use Rattle.ctr_base.specs.Base.{now_of}
use Rattle.ctr_base.specs.redo_States.{State, state_of, page_at}
use Rattle.ctr_directory.specs.Chains.{Knows}
use Rattle.ctr_directory.specs.page_Place.{Place}
use Rattle.ctr_directory.specs.page_Places.{bucket_of}
use Rattle.ctr_store.specs.Store.{View}
use Rattle.ctr_store.proofs.store.Store.recall.Goals as goal

pub returns-else-at-self-clause-knows : goal.returns-else-at-self-clause-knows
returns-else-at-self-clause-knows g c = λ told sound going.
    let a = c.self.inside in
    let x : State = state_of (now_of g.D.Disk a.parts.base) in
    let went : a.stopped ≡ false = ap (λ (v : View g.row.D.Denot). v.stopped) c.self.view_is ∙ going in
    let knows = subst (λ (z : ℤ). Knows x.counted (λ p. page_at p x.pages) c.args.entry (bucket_of z) z c.in_ok-found.found) (to_z-of_z w64 c.args.key c.ranges.key)
    (c.in_ok-found.ensures x.counted (λ p. page_at p x.pages) (c.self.invariant.recalls told sound went)) in
    subst (λ (v : View g.row.D.Denot). Knows v.now.counted (λ p. page_at p v.now.pages) c.args.entry (bucket_of c.args.key) c.args.key (Some c.in-Some.at)) c.self.view_is
    (subst (λ (f : Option Place). Knows x.counted (λ p. page_at p x.pages) c.args.entry (bucket_of c.args.key) c.args.key f) c.in-Some.is knows)

pub returns-in_default-clause-knows : goal.returns-in_default-clause-knows
returns-in_default-clause-knows g c = λ told sound going.
    let a = c.self.inside in
    let x : State = state_of (now_of g.D.Disk a.parts.base) in
    let went : a.stopped ≡ false = ap (λ (v : View g.row.D.Denot). v.stopped) c.self.view_is ∙ going in
    let knows = subst (λ (z : ℤ). Knows x.counted (λ p. page_at p x.pages) c.args.entry (bucket_of z) z c.in_ok-found.found) (to_z-of_z w64 c.args.key c.ranges.key)
    (c.in_ok-found.ensures x.counted (λ p. page_at p x.pages) (c.self.invariant.recalls told sound went)) in
    subst (λ (v : View g.row.D.Denot). Knows v.now.counted (λ p. page_at p v.now.pages) c.args.entry (bucket_of c.args.key) c.args.key c.in_ok-found.found) c.self.view_is knows
