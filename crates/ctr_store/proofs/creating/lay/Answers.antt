use Rattle.ctr_base.specs.ctr_home.declared.block.Block.TheVariants.{Root as RootBlock}
use Rattle.ctr_base.specs.ctr_home.Roots.{root_block}
use Rattle.ctr_base.specs.ctr_home.Writing.{IsOldOrNewValue}
use Rattle.ctr_disk.proofs.Moments.{weaker, joined, on_ok, settled_by}
use Rattle.ctr_base.specs.log_Fresh.{SameRoot}
use Rattle.ctr_base.specs.redo_Images.{new_root, IsNewDatabase}
use Rattle.ctr_base.specs.Extent.{KeepsPageBytes}
use Rattle.ctr_store.specs.Creating.{IsNoneOrNew}
use Rattle.ctr_store.proofs.CreateLaws.{none_logs, none_cleared, none_one, new_made, new_step}
use Rattle.ctr_store.proofs.creating.lay.Goals as goal

pub returns-clause-any_moment : goal.returns-clause-any_moment
returns-clause-any_moment g c settled =
    let d = g.D.Disk in
    let zero = c.args.disk.now in
    let one = c.make_logs.new.disk in
    let two = c.clear_pages.new.disk in
    let new = c.write_root.new.disk in
    let told = settled.told in
    let none = c.requires told in
    let ready = c.in_ok-make_logs.ensures.made told in
    let cleared = c.in_ok-clear_pages.ensures.cleared told in
    let logs = weaker d zero one (SameRoot (d.reads zero)) IsNoneOrNew (c.make_logs.ensures.any_moment settled) (λ i is. none_logs (d.reads zero) i none is) in
    let pages = weaker d one two (KeepsPageBytes 0 (d.reads one)) IsNoneOrNew (c.clear_pages.ensures.any_moment (settled_by d one told c.in_ok-make_logs.ensures.durable))
    (λ i is. none_cleared 0 (d.reads one) i (none_one (d.reads zero) (d.reads one) none ready) is) in
    let root = weaker d two new (IsOldOrNewValue RootBlock (root_block new_root) (d.reads two)) IsNoneOrNew (c.write_root.ensures.any_moment (settled_by d two told c.in_ok-clear_pages.ensures.durable))
    (λ i is. new_step (d.reads zero) (d.reads one) (d.reads two) none ready cleared i is) in
    joined d zero two new IsNoneOrNew (joined d zero one two IsNoneOrNew logs pages) root

pub returns-clause-made : goal.returns-clause-made
returns-clause-made g c told =
    let d = g.D.Disk in
    let ready = c.in_ok-make_logs.ensures.made told in
    let cleared = c.in_ok-clear_pages.ensures.cleared told in
    on_ok c.write_root.result _ (IsNewDatabase (d.reads c.write_root.new.disk)) (new_made (d.reads c.args.disk.now) (d.reads c.make_logs.new.disk) (d.reads c.clear_pages.new.disk) (c.requires told) ready cleared (d.reads c.write_root.new.disk)) (c.write_root.ensures.written told)
