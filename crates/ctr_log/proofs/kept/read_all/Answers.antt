use Rattle.std.proofs.Common.{sym}
use Rattle.ctr_log.proofs.SoundLaws.{kept_all}
use Rattle.ctr_log.proofs.VisitLemmas.{given_same}
use Rattle.ctr_log.proofs.kept.read_all.Goals as goal

pub returns-in-Ok-clause-visited : goal.returns-in-Ok-clause-visited
returns-in-Ok-clause-visited g c told =
    let root = c.args.root.now in
    let passed = c.in-Ok.ensures.damage told in
    (given_same g.V.Visitor.has_seen c.args.visitor.now c.read_kept.new.visitor (sym (kept_all root.file root.first (g.D.Disk.reads c.args.disk.now) passed)) (c.in-Ok.ensures.visits told), passed)
