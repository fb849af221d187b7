use Rattle.ctr_redo.proofs.DropLaws.{later, newer_passes, folds_dropped}
use Rattle.ctr_redo.proofs.images.an_older_generation_can_go.Goals as goal

pub returns-clause-leaves : goal.returns-clause-leaves
returns-clause-leaves c root start old new sound can which = folds_dropped root start old new sound can which

pub returns-clause-passes : goal.returns-clause-passes
returns-clause-passes c root start image sound can = newer_passes root start sound.says.1 (later root start image sound can) can.high
