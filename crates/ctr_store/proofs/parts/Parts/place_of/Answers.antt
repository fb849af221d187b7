use Rattle.std.proofs.Common.{ap, sym, subst}
use Rattle.std.specs.Prelude.{IsTrue}
use Rattle.std.proofs.lemmas.Result.{err_from_is_err_and}
use Rattle.ctr_base.specs.Base.{LeavesIf, MovesIf}
use Rattle.ctr_store.specs.declared.parts.Parts.{Parts}
use Rattle.ctr_store.specs.Parts.{IsFold}
use Rattle.ctr_store.proofs.PartsLaws.{fold_low, fold_moved}
use Rattle.ctr_store.proofs.PlaceLaws.{read_fold, behind_goes, behind_moves}
use Rattle.ctr_store.proofs.parts.Parts.place_of.Given.{Over}
use Rattle.ctr_store.proofs.parts.Parts.place_of.Goals.{After-home_of}
use Rattle.ctr_store.proofs.parts.Parts.place_of.Goals as goal

pub returns-in_err-bring-clause-refused : goal.returns-in_err-bring-clause-refused
returns-in_err-bring-clause-refused g c told =
    let p = err_from_is_err_and c.from_residual.result c.from_residual.ensures.1 in
    rw (p.1, p.2) (c.in_err-bring.ensures.refused told (fold_low g.O.Origin.first g.D.Disk c.args.self.now (c.requires told)))

-- however the reading of the home ended, a crash leaves what it did
leaves : (g : Over) (c : After-home_of g) → IsTrue g.D.Disk.tells → LeavesIf g.O.Origin.first g.D.Disk c.args.self.now.base c.home_of.new.self.base
leaves g c told =
    let d = g.D.Disk in
    let o = g.O.Origin.first in
    let s = c.args.self.now in
    let m = c.bring.new.self in
    let e = c.in_ok-bring.ensures in
    subst (λ (t : Parts g.row.D.Denot g.row.O.Denot). LeavesIf o d s.base t.base) (sym c.home_of.ensures.same)
    (behind_goes o d m c.home_of.new.self.base.disk c.home_of.ensures.read s (e.stays told).moves (e.goes told) (e.stays told).over.at_rest)

pub returns-in_err-home-clause-goes : goal.returns-in_err-home-clause-goes
returns-in_err-home-clause-goes g c told = leaves g (goal.at.returns-in_err-home-clause-goes g c).After-home_of told

pub returns-clause-goes : goal.returns-clause-goes
returns-clause-goes g c told = leaves g (goal.at.returns-clause-goes g c).After-home_of told

pub returns-clause-fold : goal.returns-clause-fold
returns-clause-fold g c told =
    let d = g.D.Disk in
    let o = g.O.Origin.first in
    let s = c.args.self.now in
    let m = c.bring.new.self in
    let e = c.in_ok-bring.ensures in
    let stays = e.stays told in
    let tables = ap (λ k. k.tables) e.keeps.1 in
    let disk = c.home_of.new.self.base.disk in
    let read = c.home_of.ensures.read in
    subst (λ (t : Parts g.row.D.Denot g.row.O.Denot). IsFold o d t × MovesIf o d s.base t.base) (sym c.home_of.ensures.same)
    (read_fold o d m disk read (fold_moved o d s m (c.requires told) stays.moves tables stays.shows stays.over), behind_moves o d m disk read s stays.moves)
