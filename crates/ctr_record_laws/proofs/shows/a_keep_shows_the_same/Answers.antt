use Rattle.ctr_record_laws.proofs.Kept.{versions_stay, image_stays, kept_chains}
use Rattle.ctr_record_laws.proofs.EntryLaws.{keep_sound}
use Rattle.ctr_record_laws.proofs.shows.a_keep_shows_the_same.Goals as goal

pub returns-clause-versions : goal.returns-clause-versions
returns-clause-versions c = λ counted tables area e at older committed sound owed.
    versions_stay area at older (kept_chains area at older owed.free sound.pointers) committed

pub returns-clause-rows : goal.returns-clause-rows
returns-clause-rows c = λ counted tables area e at older committed sound owed.
    image_stays area at older (kept_chains area at older owed.free sound.pointers) committed

pub returns-clause-sound : goal.returns-clause-sound
returns-clause-sound c = keep_sound
