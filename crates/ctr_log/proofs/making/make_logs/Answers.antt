use Rattle.std.proofs.Common.{◌∷◌, [], refl}
use Rattle.ctr_home.specs.disk_Image.{Image}
use Rattle.ctr_types.specs.declared.file.File.TheVariants.{LogA}
use Rattle.ctr_home.specs.bytes_Fields.{spelled}
use Rattle.ctr_log.specs.Logs.{IsBeforeOrAfter}
use Rattle.ctr_log.specs.Fresh.{SameRoot, LogsAreReady, first_checkpoint}
use Rattle.ctr_home.proofs.disk_Moments.{weaker, joined, on_ok}
use Rattle.ctr_home.proofs.disk_Moments.{settled_by}
use Rattle.ctr_log.proofs.InitLemmas.{fresh_extends, log_step, log_ready}
use Rattle.ctr_log.proofs.making.make_logs.Goals as goal

pub returns-clause-any_moment : goal.returns-clause-any_moment
unfolding spelled
returns-clause-any_moment g c settled =
    let d = g.D.Disk in
    let old = d.reads c.args.disk.now in
    let mid = c.empty_logs.new.disk in
    let new = c.write_batch.new.disk in
    let empty = c.in_ok-empty_logs.ensures.made settled.told in
    let ext = fresh_extends _ (d.reads mid).log_a empty.log.0 refl empty.log.1 in
    let crash = c.write_batch.ensures.any_moment 1 [] (first_checkpoint ∷ []) (settled_by d mid settled.told c.in_ok-empty_logs.ensures.durable) ext in
    let P : Image → Type 0 = SameRoot old in
    joined d c.args.disk.now mid new P (c.empty_logs.ensures.any_moment settled)
    (weaker d mid new (IsBeforeOrAfter LogA 1 [] (first_checkpoint ∷ []) (d.reads mid)) P crash (λ i step. log_step old (d.reads mid) i empty step))

pub returns-clause-made : goal.returns-clause-made
unfolding spelled
returns-clause-made g c told =
    let d = g.D.Disk in
    let old = d.reads c.args.disk.now in
    let mid = d.reads c.empty_logs.new.disk in
    let new = d.reads c.write_batch.new.disk in
    let empty = c.in_ok-empty_logs.ensures.made told in
    let ext = fresh_extends _ mid.log_a empty.log.0 refl empty.log.1 in
    on_ok c.write_batch.result _ (LogsAreReady old new) (λ after. log_ready old mid new empty after) (c.write_batch.ensures.added 1 [] (first_checkpoint ∷ []) told ext)
