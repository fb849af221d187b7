use Rattle.std.proofs.Common.{false, Ok, Err, sym, subst}
use Rattle.ctr_walk.specs.redo_States.{State}
use Rattle.ctr_walk.specs.record_effects_Standing.{IsDatabaseState}
use Rattle.ctr_walk.proofs.Damages.{reads, reads_err}
use Rattle.ctr_walk.proofs.Joins.{answers_ok, pages_join}
use Rattle.ctr_actions.specs.Sites.{site_of}
use Rattle.ctr_cleaner.specs.cursor_Standing.{IsPosition}
use Rattle.ctr_cleaner.proofs.clean_Resting.{reads_on}
use Rattle.ctr_pass.proofs.reading.read_for.Goals as goal

pub returns-in-Err-clause-leaves : goal.returns-in-Err-clause-leaves
returns-in-Err-clause-leaves g c = reads_err g.O.Origin.first g.D.Disk _ _ c.in-Err.fault c.args.store.now c.place_for.new.store c.in-Err.ensures.leaves

pub returns-in-Err-bucket_at-clause-refused : goal.returns-in-Err-bucket_at-clause-refused
returns-in-Err-bucket_at-clause-refused g c = λ told sound database stands.
    let same = (c.in-Ok.ensures.leaves.logs told sound).now in
    c.in-Err-bucket_at.ensures.refused told sound (subst IsDatabaseState (sym same) database)
    (subst (λ (u : State). IsPosition c.in-Ok.from (site_of u)) (sym same) (c.in-Ok.ensures.there told sound database stands))

pub returns-in-Err-bucket_at-clause-leaves : goal.returns-in-Err-bucket_at-clause-leaves
returns-in-Err-bucket_at-clause-leaves g c =
    let first = g.O.Origin.first in
    let d = g.D.Disk in
    let a = c.args.store.now in
    let b = c.bucket_at.new.store in
    let fault = c.in-Err-bucket_at.fault in
    reads_err first d _ _ fault a b (reads_on first d c.in-Ok.from a c.place_for.new.store b (Err fault) c.in-Ok.ensures.leaves c.in-Err-bucket_at.ensures.leaves)

pub returns-in-Ok-None-clause-leaves : goal.returns-in-Ok-None-clause-leaves
returns-in-Ok-None-clause-leaves g c =
    let first = g.O.Origin.first in
    let d = g.D.Disk in
    let a = c.args.store.now in
    let b = c.bucket_at.new.store in
    answers_ok first d _ false a b (pages_join d a c.place_for.new.store b first _ _ c.in-Ok.from (Ok _) c.in-Ok.ensures.leaves c.in-Ok-None.ensures.leaves)

pub returns-in-Ok-Some-clause-leaves : goal.returns-in-Ok-Some-clause-leaves
returns-in-Ok-Some-clause-leaves g c =
    let first = g.O.Origin.first in
    let d = g.D.Disk in
    let a = c.args.store.now in
    let b = c.bucket_at.new.store in
    let t = c.read_bucket.new.store in
    let both = pages_join d a c.place_for.new.store b first _ _ c.in-Ok.from (Ok _) c.in-Ok.ensures.leaves c.in-Ok-Some.ensures.leaves in
    reads first d c.read_bucket.result a t (pages_join d a b t first _ _ _ c.read_bucket.result both c.read_bucket.ensures.leaves)
