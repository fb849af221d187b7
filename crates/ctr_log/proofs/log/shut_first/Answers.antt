use Rattle.std.proofs.Common.{◌<◌, length, get_or, subst}
use Rattle.ctr_home.specs.disk_Image.{Image, content, TornImage}
use Rattle.ctr_home.specs.disk_TornLaws.{torn_nothing}
use Rattle.ctr_log.specs.Kept.{StaysDropped}
use Rattle.ctr_home.proofs.disk_Moments.{torn_from, read_then, still_only}
use Rattle.ctr_home.proofs.WriteLemmas.{gate_open}
use Rattle.ctr_log.proofs.StartLemmas.{stays_by_torn, stays_same}
use Rattle.ctr_log.proofs.log.shut_first.Goals as goal

pub returns-clause-any_moment : goal.returns-clause-any_moment
returns-clause-any_moment g c settled =
    let d = g.D.Disk in
    let old = d.reads c.args.disk.now in
    let mid = c.is_first_shut.new.disk in
    let file = c.args.file in
    let quiet = c.is_first_shut.ensures.quiet in
    let bytes = content file old in
    let open_ = gate_open c.in_ok-is_first_shut.field-0 (get_or bytes 0 0) (0 < length bytes) c.if-branch.false (c.in_ok-is_first_shut.ensures.told settled.told).1 in
    read_then d c.args.disk.now mid c.write_through.new.disk (StaysDropped file old) quiet (λ i is. stays_same file old i (torn_nothing file 0 1 old).others (settled.only i is))
    (torn_from d mid c.write_through.new.disk file 0 1 (StaysDropped file old)
    (still_only d c.args.disk.now mid quiet settled.only) c.write_through.ensures.any_moment (λ i t.
    stays_by_torn file old i open_ (subst (λ (o : Image). TornImage file 0 1 o i) quiet.same t)))
