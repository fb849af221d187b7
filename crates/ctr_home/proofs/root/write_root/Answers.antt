use Rattle.std.specs.Prelude.{IsTrue, OnOk}
use Rattle.std.proofs.Common.{List, ℕ, subst}
use Rattle.ctr_home.specs.declared.block.Block.TheVariants.{Root as RootBlock}
use Rattle.ctr_home.specs.Writing.{IsNewValue, with_body}
use Rattle.ctr_home.proofs.root.write_root.Goals as goal

pub returns-clause-written : goal.returns-clause-written
returns-clause-written g c =
    let d = g.D.Disk in
    subst (λ (l : List ℕ). IsTrue d.tells → OnOk c.write_home.result (IsNewValue RootBlock (with_body RootBlock c.args.root.now.stamp l) (d.reads c.args.disk.now) (d.reads c.write_home.new.disk))) c.spell_root-body.ensures c.write_home.ensures.written
