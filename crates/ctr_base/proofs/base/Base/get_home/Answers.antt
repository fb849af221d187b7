use Rattle.std.proofs.Common.{refl}
use Rattle.ctr_base.specs.declared.base.Base.{Base}
use Rattle.ctr_base.proofs.ReadLaws.{read_faults}
use Rattle.ctr_base.proofs.HomeLaws.{found_number}
use Rattle.ctr_base.specs.BaseLaws.{read_leaves, read_moves, read_rests, read_holds, holds_if}
use Rattle.ctr_base.proofs.base.Base.get_home.Goals as goal

pub returns-clause-holds : goal.returns-clause-holds
returns-clause-holds g c told =
    let a = c.args.self.now in
    let d = c.read_numbered.new.disk in
    let b : Base g.row.D.Denot g.row.O.Denot = record a { disk = d } in
    let holds = read_holds g.D.Disk a d c.read_numbered.ensures.quiet in
    holds_if g.D.Disk g.O.Origin.first a b refl holds.same (λ sound. holds)

pub returns-clause-rests : goal.returns-clause-rests
returns-clause-rests g c told rests =
    let d = g.D.Disk in
    let a = c.args.self.now in
    let new = c.read_numbered.new.disk in
    let quiet = c.read_numbered.ensures.quiet in (
      λ sound. read_leaves d a new (rests.quiet sound) quiet,
      λ sound. read_moves d a new quiet,
      read_rests d g.O.Origin.first a new quiet rests,
    )

pub returns-clause-finds : goal.returns-clause-finds
returns-clause-finds g c told rests =
    let d = g.D.Disk in
    let o = g.O.Origin.first in
    let a = c.args.self.now in
    let new = c.read_numbered.new.disk in
    let e = c.read_numbered.ensures in
    let b : Base g.row.D.Denot g.row.O.Denot = record a { disk = new } in
    found_number o d b c.args.page (d.reads a.disk) e.quiet.same (read_rests d o a new e.quiet rests) c.read_numbered.result (e.numbered told) (e.refused told)

pub returns-clause-refused : goal.returns-clause-refused
returns-clause-refused g c told rests =
    let a = c.args.self.now in
    read_faults a.root c.args.page (g.D.Disk.reads a.disk) c.read_numbered.result (λ (sound : _). (rests.quiet sound).sound) (c.read_numbered.ensures.refused told) c.read_numbered.ensures.uncounted
