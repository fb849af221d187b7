use Rattle.std.proofs.Common.{◌≡◌, ◌∙◌}
use Rattle.ctr_home.specs.disk_Image.{Image}
use Rattle.ctr_home.specs.disk_Crash.{Within}
use Rattle.ctr_log.specs.Fresh.{SameRoot, AreEmptied}
use Rattle.ctr_home.specs.disk_Device.{LeavesOnly, IsSettled}
use Rattle.ctr_home.proofs.disk_Moments.{joined, on_ok, one_call}
use Rattle.ctr_log.proofs.InitLemmas.{same_root, same_root_by_log_a, same_root_by_log_b, emptied}
use Rattle.ctr_log.proofs.making.empty_logs.Given.{Over}
use Rattle.ctr_log.proofs.making.empty_logs.Goals.{After-write-2}
use Rattle.ctr_log.proofs.making.empty_logs.Goals as goal

-- the root says after the first write what it said before
same_after_one : (g : Over) (c : After-write-2 g) → IsSettled g.D.Disk c.args.disk.now → Within (g.D.Disk.images c.write.new.self) (SameRoot (g.D.Disk.reads c.args.disk.now))
same_after_one g c settled i is =
    let old = g.D.Disk.reads c.args.disk.now in
    let t = c.write.ensures.crash i is in
    same_root_by_log_a 0 1 old t.0 i (same_root old t.0 (settled.only t.0 t.1)) t.2

-- and after the second
same_after_two : (g : Over) (c : After-write-2 g) → IsSettled g.D.Disk c.args.disk.now → Within (g.D.Disk.images c.write-2.new.self) (SameRoot (g.D.Disk.reads c.args.disk.now))
same_after_two g c settled i is =
    let t = c.write-2.ensures.crash i is in
    same_root_by_log_b 0 1 (g.D.Disk.reads c.args.disk.now) t.0 i (same_after_one g c settled t.0 t.1) t.2

-- and at each moment of both
after_two : (g : Over) (c : After-write-2 g) → IsSettled g.D.Disk c.args.disk.now → LeavesOnly g.D.Disk c.args.disk.now c.write-2.new.self (SameRoot (g.D.Disk.reads c.args.disk.now))
after_two g c settled =
    let d = g.D.Disk in
    let only_now = g.met.D.Disk.only_now in
    let old = c.args.disk.now in
    let one = c.write.new.self in
    let two = c.write-2.new.self in
    let same : Image → Type 0 = SameRoot (d.reads old) in
    joined d old one two same
    (one_call d old one same (d.images one) (λ i left. same_root (d.reads old) i (settled.only i (only_now old i left))) c.write.ensures.time (same_after_one g c settled))
    (one_call d one two same (d.images two) (λ i left. same_after_one g c settled i (only_now one i left)) c.write-2.ensures.time (same_after_two g c settled))

pub returns-in_err-write-2-clause-any_moment : goal.returns-in_err-write-2-clause-any_moment
returns-in_err-write-2-clause-any_moment g c = after_two g (goal.at.returns-in_err-write-2-clause-any_moment g c).After-write-2

pub returns-clause-any_moment : goal.returns-clause-any_moment
returns-clause-any_moment g c settled =
    let at = (goal.at.returns-clause-any_moment g c).After-write-2 in
    let images = g.D.Disk.images in
    let there = c.write-2.new.self in
    joined g.D.Disk c.args.disk.now there c.sync.new.self (SameRoot (g.D.Disk.reads c.args.disk.now)) (after_two g at settled)
    (one_call g.D.Disk there c.sync.new.self (SameRoot (g.D.Disk.reads c.args.disk.now)) (images c.sync.new.self) (λ i left. same_after_two g at settled i (g.met.D.Disk.only_now there i left)) c.sync.ensures.time (λ i is. same_after_two g at settled i (c.sync.ensures.crash i is)))

pub returns-clause-made : goal.returns-clause-made
returns-clause-made g c told =
    let d = g.D.Disk in
    let old = d.reads c.args.disk.now in
    let two = d.reads c.write-2.new.self in
    let last = d.reads c.sync.new.self in
    let same : last ≡ two = c.sync.ensures.same in
    let made : AreEmptied old last = emptied old (d.reads c.write.new.self) last (c.in_ok-write.ensures.told told) (same ∙ c.in_ok-write-2.ensures.told told) in
    on_ok c.sync.result _ (AreEmptied old last) (λ _. made) c.sync.ensures.durable
