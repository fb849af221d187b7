use Rattle.ctr_record_laws.proofs.Create.{create_sound}
use Rattle.ctr_record_laws.proofs.sound.a_create_stays_sound.Goals as goal

pub returns : goal.returns
returns c = λ counted tables old new x e name columns bounds sound owed changes. create_sound counted tables old x e name columns sound owed bounds new changes
