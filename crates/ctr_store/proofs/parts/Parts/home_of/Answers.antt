use Rattle.std.proofs.Common.{◌∙◌, sym}
use Rattle.ctr_store.proofs.RecordLaws.{frame_there}
use Rattle.ctr_store.proofs.PlaceLaws.{changed_first, unchanged_home}
use Rattle.ctr_store.proofs.parts.Parts.home_of.Goals as goal

pub returns-then-lsn-stamp-clause-place : goal.returns-then-lsn-stamp-clause-place
returns-then-lsn-stamp-clause-place g c told =
    let s = c.args.self.now in
    let f = frame_there c.args.page s.pool.frames c.requires.there in
    c.at-first.ensures.place ∙ changed_first g.O.Origin.first g.D.Disk c.args.page s f.0 f.1 (c.requires.over told) c.if-page-self.false (c.in_ok-home.home, c.in_ok-home.stamp) (c.in_ok-home.ensures.told told)
    (λ same. c.if-lsn-stamp.true (c.lsn.ensures f.0 f.1 ∙ same))

pub returns-clause-place : goal.returns-clause-place
returns-clause-place g c told =
    let s = c.args.self.now in
    let f = frame_there c.args.page s.pool.frames c.requires.there in
    unchanged_home g.O.Origin.first g.D.Disk c.args.page s f.0 f.1 (c.requires.over told) c.if-page-self.false (c.in_ok-home.home, c.in_ok-home.stamp) (c.in_ok-home.ensures.told told)
    (sym (c.lsn.ensures f.0 f.1) ∙ c.if-lsn-stamp.false)
