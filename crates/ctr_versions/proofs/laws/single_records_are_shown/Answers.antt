use Rattle.ctr_versions.proofs.Dead.{emptied_step}
use Rattle.ctr_versions.proofs.Undoing.{chain_step, head_goes, head_changes, orphan_step}
use Rattle.ctr_versions.proofs.laws.single_records_are_shown.Goals as goal

pub returns-clause-chains : goal.returns-clause-chains
returns-clause-chains c = λ low engine state new name chain shows set same. chain_step low engine state shows new name chain set same

pub returns-clause-heads : goal.returns-clause-heads
returns-clause-heads c = λ low engine state new name x v rest shows head set. head_goes low engine state shows new name x v rest head set

pub returns-clause-changes : goal.returns-clause-changes
returns-clause-changes c = λ low engine state new name x v w rest shows head set. head_changes low engine state shows new name x v rest head w set

pub returns-clause-orphans : goal.returns-clause-orphans
returns-clause-orphans c = orphan_step

pub returns-clause-rows : goal.returns-clause-rows
returns-clause-rows c = λ low engine state new id shows unnamed loses. emptied_step low engine state shows new id unnamed loses
