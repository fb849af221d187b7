use Rattle.std.proofs.Common.{◌∙◌, ap, subst}
use Rattle.ctr_store.specs.Store.{View, LeavesFront}
use Rattle.ctr_store.proofs.StoreLaws.{rests_seen}
use Rattle.ctr_store.proofs.store.Store.rests.Goals as goal

pub returns : goal.returns
returns g c told sound going =
    let d = g.D.Disk in
    let a = c.self.inside in
    let fold = c.self.invariant.fold told (ap (λ (v : View g.row.D.Denot). v.stopped) c.self.view_is ∙ going) in
    subst (λ (v : View g.row.D.Denot). LeavesFront d v v) c.self.view_is (rests_seen d g.O.Origin.first g.met.D.Disk.only_now a.parts a.stopped c.self.invariant.buffer fold sound)
