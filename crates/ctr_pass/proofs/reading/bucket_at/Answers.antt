use Rattle.std.proofs.Common.{subst}
use Rattle.ctr_walk.specs.record_effects_States.{area_in}
use Rattle.ctr_walk.proofs.Damages.{reads_err}
use Rattle.ctr_actions.specs.Sites.{site_of}
use Rattle.ctr_cleaner.specs.cursor_Position.{Position}
use Rattle.ctr_cleaner.specs.cursor_Standing.{IsPosition}
use Rattle.ctr_cleaner.proofs.cursor_Leads.{older_place}
use Rattle.ctr_pass.proofs.reading.bucket_at.Goals as goal

pub returns-in-Err-clause-refused : goal.returns-in-Err-clause-refused
returns-in-Err-clause-refused g c = λ told sound database its.
    let s = c.args.store.now.now in
    let entry = c.in-Kept.entry in
    let is = subst (λ (x : Position). IsPosition x (site_of s)) c.in-Kept.is its in
    c.in-Err.ensures.refused entry told sound database (older_place (area_in s) entry c.in-Kept.place is.1)

pub returns-in-Err-clause-leaves : goal.returns-in-Err-clause-leaves
returns-in-Err-clause-leaves g c = reads_err g.O.Origin.first g.D.Disk _ _ c.in-Err.fault c.args.store.now c.look_older.new.store c.in-Err.ensures.leaves
