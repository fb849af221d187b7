use Rattle.std.proofs.Common.{◌*◌, inl, inr, ap, sym, subst}
use Rattle.ctr_disk.specs.Image.{Image}
use Rattle.ctr_disk.proofs.Moments.{weaker, joined, on_ok, settled_by}
use Rattle.ctr_redo.specs.home_Block_TheVariants.{Root as RootBlock}
use Rattle.ctr_redo.specs.home_Roots.{root_block, root_value}
use Rattle.ctr_redo.specs.home_Writing.{IsAbove, IsOldOrNewValue}
use Rattle.ctr_base.specs.Extent.{KeepsPageBytes}
use Rattle.ctr_base.specs.Growth.{IsGrowing, HasGrown}
use Rattle.ctr_base.proofs.growing.count_pages.Goals as goal

pub write_root-requires : goal.write_root-requires
write_root-requires g c told =
    let cleared = c.in_ok-clear_pages.ensures.cleared told in
    subst (IsAbove c.args.more.now.stamp) (sym (ap (λ (i : Image). root_value i.root) cleared.others)) (c.requires.above told)

pub returns-in_err-clear_pages-clause-any_moment : goal.returns-in_err-clear_pages-clause-any_moment
returns-in_err-clear_pages-clause-any_moment g c settled =
    let d = g.D.Disk in
    let old = c.args.disk.now in
    let P = IsGrowing c.args.from c.args.more.now (d.reads old) in
    weaker d old c.clear_pages.new.disk (KeepsPageBytes (8256 * c.args.from) (d.reads old)) P (c.clear_pages.ensures.any_moment settled) (λ i is. inl is)

pub returns-clause-any_moment : goal.returns-clause-any_moment
returns-clause-any_moment g c settled =
    let d = g.D.Disk in
    let old = c.args.disk.now in
    let mid = c.clear_pages.new.disk in
    let new = c.write_root.new.disk in
    let told = settled.told in
    let P = IsGrowing c.args.from c.args.more.now (d.reads old) in
    let cleared = c.in_ok-clear_pages.ensures.cleared told in
    let pages = weaker d old mid (KeepsPageBytes (8256 * c.args.from) (d.reads old)) P (c.clear_pages.ensures.any_moment settled) (λ i is. inl is) in
    let root = weaker d mid new (IsOldOrNewValue RootBlock (root_block c.args.more.now) (d.reads mid)) P (c.write_root.ensures.any_moment (settled_by d mid told c.in_ok-clear_pages.ensures.durable)) (λ i is. inr (d.reads mid, cleared, is)) in
    joined d old mid new P pages root

pub returns-clause-grown : goal.returns-clause-grown
returns-clause-grown g c told =
    let d = g.D.Disk in
    let mid = c.clear_pages.new.disk in
    on_ok c.write_root.result _ (HasGrown c.args.from c.args.more.now (d.reads c.args.disk.now) (d.reads c.write_root.new.disk)) (λ is. (d.reads mid, c.in_ok-clear_pages.ensures.cleared told, is)) (c.write_root.ensures.written told)
