use Rattle.std.proofs.Common.{◌≡◌, ◌≤◌, ◌<◌, ◌+◌, ℕ, inl, inr, sym, ◌∙◌, ap, subst, arith}
use Rattle.ctr_disk.proofs.Moments.{on_ok}
use Rattle.ctr_pass.specs.declared.pass.Pass.{Pass}
use Rattle.ctr_pass.proofs.session_world_Disks.{disk_behind, disk_done, disk_failed}
use Rattle.ctr_world.specs.declared.engine.Engine.{Engine}
use Rattle.ctr_world.specs.Cleaning.{CleansOnward, CleansOrReads, noted_pass}
use Rattle.ctr_world.specs.Held.{running}
use Rattle.ctr_world.specs.Turns.{LogsOneAtMost}
use Rattle.ctr_world.proofs.Onward.{noted_read, onward_behind}
use Rattle.ctr_world.proofs.Reading.{as_read, log_none, reads_more, room_left}
use Rattle.ctr_world.proofs.engine.Engine.read_or_clean.Goals as goal

-- pages were read, and no more
pub returns-in-Ok-true-clause-kept : goal.returns-in-Ok-true-clause-kept
returns-in-Ok-true-clause-kept g c = λ s tells sound shows keeps. c.in-Ok-true.ensures.kept s tells sound shows keeps

pub returns-in-Ok-true-clause-cleans : goal.returns-in-Ok-true-clause-cleans
returns-in-Ok-true-clause-cleans g c =
    let old = running c.args.self.now in
    let new = running c.read_ahead.new.self in
    let e = c.in-Ok-true.ensures in
    let more = e.more c.in-Ok-true.field-0-test in
    inr (reads_more old new c.reads_left-most.result (λ i. (e.same i).pass) e.page.keeps.next more.1 more.0
    (λ some. subst (λ n. old.read < n) c.counted.ensures (c.reads_left-most.ensures.few some)) c.reads_left-most.ensures.most)

pub returns-in-Ok-true-clause-one : goal.returns-in-Ok-true-clause-one
returns-in-Ok-true-clause-one g c = log_none c.args.self.now.store.next c.read_ahead.new.self.store.next c.in-Ok-true.ensures.page.keeps.next

pub returns-in-Ok-true-clause-same : goal.returns-in-Ok-true-clause-same
returns-in-Ok-true-clause-same g c = as_read c.args.self.now c.read_ahead.new.self c.in-Ok-true.ensures.same

pub returns-in-Ok-true-clause-disk : goal.returns-in-Ok-true-clause-disk
returns-in-Ok-true-clause-disk g c = disk_done g.B.Origin.first g.D.Disk c.args.self.now.store c.read_ahead.new.self.store _ tt c.in-Ok-true.ensures.disk

-- the disk failed
pub returns-in-Err-clause-kept : goal.returns-in-Err-clause-kept
returns-in-Err-clause-kept g c = λ s tells sound shows keeps. c.in-Err.ensures.kept s tells sound shows keeps

pub returns-in-Err-clause-same : goal.returns-in-Err-clause-same
returns-in-Err-clause-same g c = as_read c.args.self.now c.read_ahead.new.self c.in-Err.ensures.same

pub returns-in-Err-clause-disk : goal.returns-in-Err-clause-disk
returns-in-Err-clause-disk g c = disk_failed g.B.Origin.first g.D.Disk c.args.self.now.store c.read_ahead.new.self.store c.in-Err.fault c.in-Err.ensures.disk

-- steps are taken
pub returns-in-Ok-false-clause-kept : goal.returns-in-Ok-false-clause-kept
returns-in-Ok-false-clause-kept g c = λ s tells sound shows keeps.
    let both = c.in-Ok-false.ensures.kept s tells sound shows keeps in
    c.clean_onward.ensures.kept s tells sound both.0 both.1

pub returns-in-Ok-false-clause-cleans : goal.returns-in-Ok-false-clause-cleans
returns-in-Ok-false-clause-cleans g c =
    let old = running c.args.self.now in
    let mid = running c.read_ahead.new.self in
    let new = running c.clean_onward.new.self in
    let e = c.in-Ok-false.ensures in
    on_ok c.clean_onward.result (CleansOnward mid new × (new.read ≤ 1)) (CleansOrReads old new)
    (λ steps. inl (onward_behind old mid new (λ i. (e.same i).pass) e.page.keeps.next (λ i. (e.same i).sessions) steps.0, steps.1)) c.clean_onward.ensures.cleans

pub returns-in-Ok-false-clause-one : goal.returns-in-Ok-false-clause-one
returns-in-Ok-false-clause-one g c =
    let old = running c.args.self.now in
    let mid = running c.read_ahead.new.self in
    let new = running c.clean_onward.new.self in
    on_ok c.clean_onward.result (LogsOneAtMost mid new) (LogsOneAtMost old new) (λ one. subst (λ n. new.store.next ≤ n + 1) c.in-Ok-false.ensures.page.keeps.next one) c.clean_onward.ensures.one

pub returns-in-Ok-false-clause-same : goal.returns-in-Ok-false-clause-same
returns-in-Ok-false-clause-same g c =
    let new = c.clean_onward.new.self in
    c.clean_onward.ensures.same
    ∙ ap (λ (x : Engine g.row.D.Denot g.row.B.Denot). record x { store = new.store; sessions = record x.sessions { txns = new.sessions.txns }; pass = new.pass; read = new.read }) c.in-Ok-false.ensures.same

pub returns-in-Ok-false-clause-disk : goal.returns-in-Ok-false-clause-disk
returns-in-Ok-false-clause-disk g c = disk_behind g.B.Origin.first g.D.Disk c.args.self.now.store c.read_ahead.new.self.store c.clean_onward.new.self.store tt c.clean_onward.result c.in-Ok-false.ensures.page c.clean_onward.ensures.disk
