use Rattle.std.specs.Prelude.{IsTrue}
use Rattle.std.proofs.Common.{◌≡◌, sym, subst}
use Rattle.ctr_redo.specs.States.{state_of}
use Rattle.ctr_redo.specs.Images.{FoldsGrown}
use Rattle.ctr_base.specs.Base.{IsSoundImage, stored_of}
use Rattle.ctr_redo.specs.home_Root.{Root}
use Rattle.ctr_disk.specs.Device.{LeavesOnly}
use Rattle.ctr_base.specs.declared.base.Base.{Base}
use Rattle.ctr_base.specs.Growth.{IsGrowing, HasGrown, GrowsOver, grown_root}
use Rattle.ctr_base.proofs.GrowLaws.{is_grown_root, growing_leaves, growth_blank, grows_over}
use Rattle.ctr_base.proofs.base.Base.grow.Given.{Over}
use Rattle.ctr_base.proofs.base.Base.grow.Goals.{After-count_pages}
use Rattle.ctr_base.proofs.base.Base.grow.Goals as goal

-- the root that the pages are counted by is the grown one
grows_to : (g : Over) (c : After-count_pages g) → IsTrue g.D.Disk.tells → record c.args.self.now.root { stamp = c.saturating_add.result; pages = c.min.result } ≡ grown_root c.args.self.now.root
grows_to g c told = is_grown_root c.args.self.now.root c.saturating_add.result c.min.result (c.requires.rests told).stands.says.1 c.saturating_add.ensures c.min.ensures

-- however the counting ended, a crash leaves the old count or the new one
growing : (g : Over) (c : After-count_pages g) → IsTrue g.D.Disk.tells → IsSoundImage g.O.Origin.first → LeavesOnly g.D.Disk c.args.self.now.disk c.count_pages.new.disk (FoldsGrown (state_of (stored_of g.D.Disk c.args.self.now)))
growing g c told sound =
    let d = g.D.Disk in
    let a = c.args.self.now in
    let quiet = (c.requires.rests told).quiet sound in
    growing_leaves d a c.count_pages.new.disk quiet c.requires.few
    (subst (λ (r : Root). LeavesOnly d a.disk c.count_pages.new.disk (IsGrowing a.root.pages r (d.reads a.disk))) (grows_to g c told) (c.count_pages.ensures.any_moment (record { told = told; only = quiet.only })))

pub returns-in_err-count_pages-clause-any_moment : goal.returns-in_err-count_pages-clause-any_moment
returns-in_err-count_pages-clause-any_moment g c told sound = growing g (goal.at.returns-in_err-count_pages-clause-any_moment g c).After-count_pages told sound

pub returns-in_err-count_pages-clause-blank : goal.returns-in_err-count_pages-clause-blank
returns-in_err-count_pages-clause-blank g c told sound = growth_blank g.D.Disk c.args.self.now ((c.requires.rests told).quiet sound)

pub returns-clause-any_moment : goal.returns-clause-any_moment
returns-clause-any_moment g c told sound = growing g (goal.at.returns-clause-any_moment g c).After-count_pages told sound

pub returns-clause-blank : goal.returns-clause-blank
returns-clause-blank g c told sound = growth_blank g.D.Disk c.args.self.now ((c.requires.rests told).quiet sound)

pub returns-clause-grows : goal.returns-clause-grows
returns-clause-grows g c told =
    let d = g.D.Disk in
    let o = g.O.Origin.first in
    let a = c.args.self.now in
    let rests = c.requires.rests told in
    let new = c.count_pages.new.disk in
    let e = c.in_ok-count_pages.ensures in
    let same = grows_to g (goal.at.returns-clause-grows g c).After-count_pages told in
    let has = subst (λ (r : Root). HasGrown a.root.pages r (d.reads a.disk) (d.reads new)) same (e.grown told) in
    let b : Root → Base g.row.D.Denot g.row.O.Denot = λ r. record a { disk = new; root = r } in
    subst (λ (r : Root). GrowsOver o d a (b r)) (sym same) (grows_over d a new rests.stands c.requires.few has o rests e.durable)
