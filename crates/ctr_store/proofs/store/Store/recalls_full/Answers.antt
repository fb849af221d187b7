use Rattle.std.proofs.Common.{◌≡◌, ◌∙◌, false, ap, subst}
use Rattle.ctr_base.specs.Base.{now_of}
use Rattle.ctr_base.specs.redo_States.{State, state_of, page_at}
use Rattle.ctr_directory.specs.Chains.{KnowsFull}
use Rattle.ctr_store.specs.Store.{View}
use Rattle.ctr_store.proofs.store.Store.recalls_full.Goals as goal

pub returns : goal.returns
returns g c = λ told sound going full.
    let a = c.self.inside in
    let x : State = state_of (now_of g.D.Disk a.parts.base) in
    let went : a.stopped ≡ false = ap (λ (v : View g.row.D.Denot). v.stopped) c.self.view_is ∙ going in
    subst (λ (v : View g.row.D.Denot). KnowsFull v.now.counted (λ p. page_at p v.now.pages) c.args.entry c.args.bucket) c.self.view_is
    (c.is_full.ensures x.counted (λ p. page_at p x.pages) (c.self.invariant.recalls told sound went) full)
