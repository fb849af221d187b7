use Rattle.ctr_record_laws.proofs.Links.{bucket_inside}
use Rattle.ctr_record_laws.proofs.Unlinks.{unlink_sound, older_unlink_sound, older_inside, above_zero}
use Rattle.ctr_record_laws.proofs.sound.an_unlink_stays_sound.Goals as goal

pub returns-clause-bucket : goal.returns-clause-bucket
returns-clause-bucket c = λ counted tables area p e bucket bounds sound owed.
    unlink_sound counted tables area p e sound (above_zero p owed.some) (bucket_inside area bounds e bucket owed.there) bucket owed.there owed.first owed.heads

pub returns-clause-versions : goal.returns-clause-versions
returns-clause-versions c = λ counted tables area p e bounds sound owed.
    older_unlink_sound counted tables area p e sound (above_zero p owed.some) (older_inside area bounds p e owed.first owed.some) owed.first owed.none
