use Rattle.std.proofs.Common.{⊎_elim, inl, inr, ◌⊎◌, ℕ, Result, Ok, Err, sym, subst}
use Rattle.std.specs.Prelude.{IfOk}
use Rattle.ctr_disk.specs.Device.{IsDurable}
use Rattle.ctr_disk.specs.Image.{Image}
use Rattle.ctr_disk.specs.declared.disk.Disk.{Ghosts}
use Rattle.ctr_disk.proofs.Moments.{weaker}
use Rattle.ctr_store.specs.Creating.{IsEmptyStore, IsNoneOrEmptyStore, disk_made}
use Rattle.ctr_store.specs.declared.creating.CreateError.{CreateError}
use Rattle.ctr_database.specs.Database.{IsNewlyMade, IsNoneOrNewlyMade}
use Rattle.ctr_database.proofs.making.create.Goals as goal

-- what a crash leaves of a database that was made is the one that a read gives
made_left : {D : Type 0} (g : Ghosts D) (only_now : (d : D) (c : Image) → g.since d (g.moment_of d) c → g.images d c) (opens : (c : Image) → IsEmptyStore c → IsNewlyMade c) (r : Result D (CreateError × D))
    → IfOk r (λ d. IsEmptyStore (g.reads d)) → IfOk r (IsDurable g) → IfOk r (λ d. (c : Image) → g.since d (g.moment_of d) c → IsNewlyMade c)
made_left g only_now opens (Ok d) empty durable = λ c left. subst IsNewlyMade (sym (durable c (only_now d c left))) (opens (g.reads d) empty)
made_left g only_now opens (Err e) empty durable = tt

pub returns-clause-any_moment : goal.returns-clause-any_moment
returns-clause-any_moment g c = λ told none.
    let d = g.D.Disk in
    let old = c.args.disk in
    weaker d old (disk_made c.create.result) (λ i. d.images old i ⊎ IsNoneOrEmptyStore i) (λ i. d.images old i ⊎ IsNoneOrNewlyMade i) (c.create.ensures.any_moment told none)
    (λ i is. ⊎_elim (λ was. inl was) (λ here. inr (⊎_elim (λ no. inl no) (λ new. inr (c.a_new_database_is_empty.ensures.stands i new)) here)) is)

pub returns-clause-made : goal.returns-clause-made
returns-clause-made g c = λ told.
    made_left g.D.Disk g.met.D.Disk.only_now c.a_new_database_is_empty.ensures.stands c.create.result (c.create.ensures.made told) c.create.ensures.durable
