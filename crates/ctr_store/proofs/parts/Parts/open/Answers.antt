use Rattle.std.proofs.Common.{inl, inr, [], subst}
use Rattle.ctr_disk.proofs.Moments.{read_then, weaker}
use Rattle.ctr_base.specs.ctr_home.declared.block.Block.TheVariants.{Root as RootBlock}
use Rattle.ctr_base.specs.ctr_home.Blocks.{value_of}
use Rattle.ctr_base.specs.ctr_home.Roots.{SaysRoot}
use Rattle.ctr_base.specs.redo_States.{state_of}
use Rattle.ctr_base.specs.redo_Images.{stored_in, FoldsFront}
use Rattle.ctr_store.specs.Opening.{disk_left, LeavesFirst}
use Rattle.ctr_store.proofs.parts.Parts.open.Goals as goal

pub returns-in-Ok-clause-any_moment : goal.returns-in-Ok-clause-any_moment
returns-in-Ok-clause-any_moment g c told sound =
    let d = g.D.Disk in
    let o = g.O.Origin.first in
    let old = c.args.disk in
    let mid = c.read_front.new.disk in
    let new = disk_left c.finish.result in
    let root = c.in-Ok.root in
    let says : SaysRoot (value_of RootBlock o) root = subst (SaysRoot (value_of RootBlock o)) c.in-Ok.root-is (c.in-Ok.ensures.found told).stands.0 in
    let P = LeavesFirst o (d.images old) in
    read_then d old mid new P c.read_front.ensures.quiet (λ i is. inl is) (weaker d mid new (FoldsFront (state_of (stored_in root o)) []) P (c.finish.ensures.goes told sound) (λ i is. inr (root, says, is)))
