use Rattle.ctr_record_laws.proofs.Links.{bucket_inside, bucket_sound, older_sound}
use Rattle.ctr_record_laws.proofs.sound.a_link_stays_sound.Goals as goal

pub returns-clause-bucket : goal.returns-clause-bucket
returns-clause-bucket c = λ counted tables area x p e bucket few bounds sound owed.
    bucket_sound counted tables area x p e few bounds sound owed.item owed.empty (bucket_inside area bounds e bucket owed.there) bucket owed.header owed.there

pub returns-clause-versions : goal.returns-clause-versions
returns-clause-versions c = λ counted tables area x p e few bounds sound owed.
    older_sound counted tables area x p e few bounds sound owed.item owed.empty owed.there owed.header
