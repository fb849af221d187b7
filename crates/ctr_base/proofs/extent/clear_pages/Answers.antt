use Rattle.std.proofs.Common.{◌≡◌, ◌∙◌, ◌*◌, ℕ, replicate, refl, ap, arith}
use Rattle.ctr_types.specs.declared.file.File.TheVariants.{Pages}
use Rattle.ctr_disk.specs.Image.{Image, write_of}
use Rattle.ctr_disk.specs.Crash.{Within}
use Rattle.ctr_disk.specs.Device.{LeavesOnly, IsSettled}
use Rattle.ctr_disk.proofs.Moments.{starts, goes_on}
use Rattle.ctr_redo.specs.home_Blocks.{zero_bytes}
use Rattle.ctr_base.specs.Extent.{KeepsPageBytes}
use Rattle.ctr_base.proofs.ExtentLaws.{keeps_start, keeps_torn, cleared_start, cleared_more}
use Rattle.ctr_base.proofs.extent.clear_pages.Given.{Over}
use Rattle.ctr_base.proofs.extent.clear_pages.Goals.{After-write}
use Rattle.ctr_base.proofs.extent.clear_pages.Goals as goal

pub loop-page-init : goal.loop-page-init
loop-page-init g c =
    let d = g.D.Disk in
    let old = c.args.disk.now in
    let n = 8256 * c.args.from in
    let P : Image → Type 0 = KeepsPageBytes n (d.reads old) in
    record {
      behind = omega arith;
      at_most = c.requires.order;
      goes = λ s. starts d old P (d.images old) (g.met.D.Disk.only_now old) (λ i is. keeps_start n (d.reads old) i (s.only i is));
      now = λ s i is. keeps_start n (d.reads old) i (s.only i is);
      cleared = λ told. cleared_start c.args.from (d.reads old);
      later = omega arith;
      faults = refl;
      strays = refl;
    }

-- what a write of zeros may leave
now_after : (g : Over) (c : After-write g) → IsSettled g.D.Disk c.args.disk.now → Within (g.D.Disk.images c.write.new.self) (KeepsPageBytes (8256 * c.args.from) (g.D.Disk.reads c.args.disk.now))
now_after g c s i is =
    let d = g.D.Disk in
    let t = c.write.ensures.crash i is in
    let before = c.loop-page.invariant in
    let behind = before.behind in
    keeps_torn (8256 * c.args.from) (c.loop-page.page * 8256) _ (d.reads c.args.disk.now) t.0 i (c.requires.long s.told) (omega (arith, behind)) (before.now s t.0 t.1) t.2

goes_after : (g : Over) (c : After-write g) → IsSettled g.D.Disk c.args.disk.now → LeavesOnly g.D.Disk c.args.disk.now c.write.new.self (KeepsPageBytes (8256 * c.args.from) (g.D.Disk.reads c.args.disk.now))
goes_after g c s =
    let d = g.D.Disk in
    goes_on d c.args.disk.now c.loop-page.disk c.write.new.self (KeepsPageBytes (8256 * c.args.from) (d.reads c.args.disk.now)) (d.images c.write.new.self) (c.loop-page.invariant.goes s) c.write.ensures.time (now_after g c s)

pub returns-in_err-write-clause-any_moment : goal.returns-in_err-write-clause-any_moment
returns-in_err-write-clause-any_moment g c = goes_after g (goal.at.returns-in_err-write-clause-any_moment g c).After-write

pub loop-page-preserved : goal.loop-page-preserved
unfolding zero_bytes
loop-page-preserved g c =
    let d = g.D.Disk in
    let at = (goal.at.loop-page-preserved g c).After-write in
    let before = c.loop-page.invariant in
    let p = c.loop-page.page in
    let behind = before.behind in
    let later = before.later in
    let on = c.write.ensures.time.later in
    record {
      behind = omega (arith, behind);
      at_most = omega (arith, c.loop-page-test.true);
      goes = goes_after g at;
      now = now_after g at;
      cleared = λ told.
          let here = d.reads c.loop-page.disk in
          let is : d.reads c.write.new.self ≡ write_of Pages (8256 * p) (replicate 8256 0) here =
          c.in_ok-write.ensures.told told ∙ ap (λ (n : ℕ). write_of Pages n (replicate 8256 0) here) (let e : p * 8256 ≡ 8256 * p = omega arith in e) in
          cleared_more c.args.from p (d.reads c.args.disk.now) here (d.reads c.write.new.self) behind (c.requires.long told) (before.cleared told) is;
      later = omega (arith, later, on);
      faults = c.in_ok-write.ensures.cause.fine ∙ before.faults;
      strays = c.in_ok-write.ensures.stray.below (omega (arith, c.requires.low, c.loop-page-test.true)) ∙ before.strays;
    }
