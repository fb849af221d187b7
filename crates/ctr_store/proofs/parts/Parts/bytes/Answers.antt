use Rattle.std.proofs.Common.{◌∙◌, sym, ap}
use Rattle.ctr_base.specs.pool_Frames.{kept_or}
use Rattle.ctr_base.specs.Base.{home_of}
use Rattle.ctr_store.proofs.RecordLaws.{frame_there}
use Rattle.ctr_store.proofs.PartsLaws.{page_is_shown}
use Rattle.ctr_store.proofs.parts.Parts.bytes.Goals as goal

pub returns-clause-shown : goal.returns-clause-shown
returns-clause-shown g c told sound fold has inside =
    let d = g.D.Disk in
    let s = c.args.self.now in
    let p = c.args.page in
    let frame = frame_there p s.pool.frames has in
    c.bytes.ensures.shown frame.0 frame.1 ∙ ap (λ x. (kept_or (home_of d s.base p) x).body) (sym frame.1) ∙ page_is_shown g.O.Origin.first d s p sound fold inside
