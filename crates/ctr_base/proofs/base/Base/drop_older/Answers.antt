use Rattle.std.specs.Prelude.{IsTrue}
use Rattle.std.proofs.Common.{◌≡◌, ◌∙◌, ◌-◌, ℕ, false, List, drop, refl, sym, ap, subst}
use Rattle.ctr_disk.specs.Image.{Image}
use Rattle.ctr_disk.specs.Device.{LeavesOnly}
use Rattle.ctr_redo.specs.home_Root.{Root}
use Rattle.ctr_redo.specs.home_Block_TheVariants.{Root as RootBlock}
use Rattle.ctr_redo.specs.home_Roots.{root_block}
use Rattle.ctr_redo.specs.home_Writing.{IsOldOrNewValue, IsNewValue}
use Rattle.ctr_redo.specs.log_Logs.{Log}
use Rattle.ctr_redo.specs.rec_Record.{Record}
use Rattle.ctr_redo.specs.Images.{stored_in, newer_root}
use Rattle.ctr_redo.proofs.GrowthLaws.{pages_file, home_old}
use Rattle.ctr_base.specs.declared.base.Base.{Base}
use Rattle.ctr_base.specs.Base.{stored_of, IsSoundImage, LeavesBase}
use Rattle.ctr_base.specs.BaseLaws.{holds_if}
use Rattle.ctr_base.specs.Generations.{SwitchesOver}
use Rattle.ctr_base.proofs.HomeLaws.{since_still}
use Rattle.ctr_base.proofs.SwitchLaws.{drop_leaves, drop_fold, drop_quiet, drop_holds, records_left, stands_dropped, is_newer}
use Rattle.ctr_base.proofs.base.Base.drop_older.Given.{Over}
use Rattle.ctr_base.proofs.base.Base.drop_older.Goals.{After-write_root}
use Rattle.ctr_base.proofs.base.Base.drop_older.Goals as goal

-- the root that is written names the newer generation
names : (g : Over) (c : After-write_root g) → IsTrue g.D.Disk.tells → c.newer_root-newer.result ≡ newer_root c.args.self.now.log.start c.args.self.now.root
names g c told =
    let a = c.args.self.now in
    is_newer g.D.Disk a c.newer_root-newer.result (c.requires.rests told).stands (λ low. c.newer_root-newer.ensures.is low ∙ ap (λ (n : ℕ). newer_root n a.root) c.start.ensures)

-- however the writing ended, a crash leaves what was hardened
leaves : (g : Over) (c : After-write_root g) (b : Base g.row.D.Denot g.row.O.Denot) → b.disk ≡ c.write_root.new.disk → IsTrue g.D.Disk.tells → IsSoundImage g.O.Origin.first → LeavesBase g.D.Disk c.args.self.now b
leaves g c b disk told sound =
    let d = g.D.Disk in
    let a = c.args.self.now in
    let quiet = (c.requires.rests told).quiet sound in
    let Front : Root → Image → Type 0 = λ r. IsOldOrNewValue RootBlock (root_block r) (d.reads a.disk) in
    drop_leaves d a quiet c.requires.two c.requires.high (c.requires.home told sound) b
    (subst (λ (n : g.row.D.Denot). LeavesOnly d a.disk n (Front (newer_root a.log.start a.root))) (sym disk)
    (subst (λ (r : Root). LeavesOnly d a.disk c.write_root.new.disk (Front r)) (names g c told) (c.write_root.ensures.any_moment (record { told = told; only = quiet.only }))))

pub returns-in_err-write_root-clause-any_moment : goal.returns-in_err-write_root-clause-any_moment
returns-in_err-write_root-clause-any_moment g c told sound = leaves g (goal.at.returns-in_err-write_root-clause-any_moment g c).After-write_root _ refl told sound

pub returns-clause-any_moment : goal.returns-clause-any_moment
returns-clause-any_moment g c told sound = leaves g (goal.at.returns-clause-any_moment g c).After-write_root _ refl told sound

pub returns-in_err-write_root-clause-once : goal.returns-in_err-write_root-clause-once
returns-in_err-write_root-clause-once g c settled =
    let d = g.D.Disk in
    let a = c.args.self.now in
    subst (λ (r : Root). LeavesOnly d a.disk c.write_root.new.disk (IsOldOrNewValue RootBlock (root_block r) (d.reads a.disk))) (names g (goal.at.returns-in_err-write_root-clause-once g c).After-write_root settled.told) (c.write_root.ensures.any_moment settled)

pub returns-clause-once : goal.returns-clause-once
returns-clause-once g c settled =
    let d = g.D.Disk in
    let a = c.args.self.now in
    subst (λ (r : Root). LeavesOnly d a.disk c.write_root.new.disk (IsOldOrNewValue RootBlock (root_block r) (d.reads a.disk))) (names g (goal.at.returns-clause-once g c).After-write_root settled.told) (c.write_root.ensures.any_moment settled)

pub returns-clause-switches : goal.returns-clause-switches
returns-clause-switches g c told =
    let d = g.D.Disk in
    let o = g.O.Origin.first in
    let a = c.args.self.now in
    let new = c.write_root.new.disk in
    let same = names g (goal.at.returns-clause-switches g c).After-write_root told in
    let newer = newer_root a.log.start a.root in
    let rests = c.requires.rests told in
    let written : IsNewValue RootBlock (root_block newer) (d.reads a.disk) (d.reads new) = subst (λ (r : Root). IsNewValue RootBlock (root_block r) (d.reads a.disk) (d.reads new)) same (c.in_ok-write_root.ensures.written told) in
    let some = c.requires.two in
    let high = c.requires.high in
    let b : Root → Log → Base g.row.D.Denot g.row.O.Denot = λ r l. record a { disk = new; log = l; root = r } in
    let log : Log = record a.log { older = false } in
    let made : SwitchesOver o d a (b newer log) = record {
      base = λ sound. drop_fold d a (rests.quiet sound) some high (c.requires.home told sound) new written.0 written.1;
      rests = record {
        stands = stands_dropped d a new rests.stands some high written.0 written.1;
        since = since_still o a.root.pages (d.reads a.disk) (d.reads new) (pages_file a.root (d.reads a.disk) (d.reads new) written.0) rests.since;
        quiet = λ sound. drop_quiet d a (rests.quiet sound) some high (c.requires.home told sound) new written.0 written.1 c.in_ok-write_root.ensures.durable;
      };
      holds = holds_if d o a (b newer log) refl (home_old a.root (d.reads a.disk) (d.reads new) written.0) (λ sound. drop_holds d a (rests.quiet sound) some high (c.requires.home told sound) new written.0 written.1);
    } in
    subst (λ (l : Log). SwitchesOver o d a (b c.newer_root-newer.result l)) (sym c.forget_older.ensures) (subst (λ (r : Root). SwitchesOver o d a (b r log)) (sym same) made)

pub returns-clause-records : goal.returns-clause-records
returns-clause-records g c told sound =
    let d = g.D.Disk in
    let a = c.args.self.now in
    let new = c.write_root.new.disk in
    let same = names g (goal.at.returns-clause-records g c).After-write_root told in
    let newer = newer_root a.log.start a.root in
    let quiet = (c.requires.rests told).quiet sound in
    let written : IsNewValue RootBlock (root_block newer) (d.reads a.disk) (d.reads new) = subst (λ (r : Root). IsNewValue RootBlock (root_block r) (d.reads a.disk) (d.reads new)) same (c.in_ok-write_root.ensures.written told) in
    let rest : List Record = drop (a.log.start - a.root.first) (stored_of d a).records in
    let Left : Root → Type 0 = λ r. (stored_in r (d.reads new)).records ≡ rest in
    subst Left (sym same) (records_left d a quiet c.requires.two c.requires.high (c.requires.home told sound) new written.0 written.1)
