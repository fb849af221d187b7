use Rattle.std.proofs.Common.{sym, subst, Err}
use Rattle.std.specs.Prelude.{⊤}
use Rattle.ctr_disk.specs.declared.fault.StoreFault.{StoreFault}
use Rattle.ctr_walk.specs.Damage.{ReadsPages}
use Rattle.ctr_walk.proofs.Damages.{tells_bad, reads, reads_err}
use Rattle.ctr_walk.proofs.damage.damage.Goals as goal

pub returns-in-Ok-clause-leaves : goal.returns-in-Ok-clause-leaves
returns-in-Ok-clause-leaves g c =
    let o = g.O.Origin.first in
    let a = c.args.store.now in
    let b = c.home_of.new.self in
    subst (λ (e : StoreFault). ReadsPages {T = ⊤} o g.D.Disk a b (Err e)) (sym c.damage_at.ensures) (tells_bad o g.D.Disk c.in-Ok.home c.args.bad a b c.in-Ok.home c.in-Ok.ensures.leaves)

pub returns-in-Err-clause-leaves : goal.returns-in-Err-clause-leaves
returns-in-Err-clause-leaves g c =
    let o = g.O.Origin.first in
    let a = c.args.store.now in
    let b = c.home_of.new.self in
    reads_err o g.D.Disk _ ⊤ c.in-Err.fault a b (reads o g.D.Disk (Err c.in-Err.fault) a b c.in-Err.ensures.leaves)
