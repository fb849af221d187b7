use Rattle.std.proofs.Common.{◌+◌, length}
use Rattle.ctr_home.specs.disk_Image.{Image}
use Rattle.ctr_log.specs.Logs.{IsBeforeOrAfter, IsAfter}
use Rattle.ctr_home.proofs.disk_Moments.{joined, on_ok}
use Rattle.ctr_home.proofs.disk_Moments.{torn_from}
use Rattle.ctr_log.proofs.LogLemmas.{behind_torn, gate_torn, gate_written}
use Rattle.ctr_log.proofs.log.write_batch.Goals as goal

pub returns-in_err-write_through-clause-any_moment : goal.returns-in_err-write_through-clause-any_moment
returns-in_err-write_through-clause-any_moment g c first bs rs settled ext =
    let d = g.D.Disk in
    let old = d.reads c.args.disk.now in
    torn_from d c.args.disk.now c.write_through.new.disk c.args.file (c.args.place + 1) (length c.args.body.now) (IsBeforeOrAfter c.args.file first bs rs old)
    settled.only c.write_through.ensures.any_moment (λ i t. behind_torn c.args.file first bs rs c.args.place c.args.body.now old ext i (length c.args.body.now) t)

pub returns-clause-any_moment : goal.returns-clause-any_moment
returns-clause-any_moment g c first bs rs settled ext =
    let d = g.D.Disk in
    let old = d.reads c.args.disk.now in
    let mid = c.write_through.new.disk in
    let new = c.write_through-2.new.disk in
    let P : Image → Type 0 = IsBeforeOrAfter c.args.file first bs rs old in
    let before =
    torn_from d c.args.disk.now mid c.args.file (c.args.place + 1) (length c.args.body.now) P settled.only c.write_through.ensures.any_moment (λ i t.
    behind_torn c.args.file first bs rs c.args.place c.args.body.now old ext i (length c.args.body.now) t) in
    let after =
    torn_from d mid new c.args.file c.args.place 1 P c.in_ok-write_through.ensures.durable c.write_through-2.ensures.any_moment (λ i t.
    gate_torn c.args.file first bs rs c.args.place c.args.body.now old ext (d.reads mid) (c.in_ok-write_through.ensures.told settled.told) i t) in
    joined d c.args.disk.now mid new P before after

pub returns-clause-added : goal.returns-clause-added
returns-clause-added g c first bs rs told ext =
    let d = g.D.Disk in
    let old = d.reads c.args.disk.now in
    let mid = d.reads c.write_through.new.disk in
    let new = d.reads c.write_through-2.new.disk in
    on_ok c.write_through-2.result _ (IsAfter c.args.file first bs rs old new) (λ is.
    gate_written c.args.file first bs rs c.args.place c.args.body.now old ext mid (c.in_ok-write_through.ensures.told told) new is) (c.write_through-2.ensures.told told)
