use Rattle.ctr_area.specs.Areas.{free_older}
use Rattle.ctr_record_laws.proofs.Kept.{versions_stay, image_stays}
use Rattle.ctr_record_laws.proofs.EntryLaws.{freed_chains, freed_sound}
use Rattle.ctr_record_laws.proofs.shows.a_free_entry_shows_the_same.Goals as goal

pub returns-clause-versions : goal.returns-clause-versions
returns-clause-versions c = λ area q committed none. versions_stay area q free_older (freed_chains area q none) committed

pub returns-clause-rows : goal.returns-clause-rows
returns-clause-rows c = λ area q committed none. image_stays area q free_older (freed_chains area q none) committed

pub returns-clause-sound : goal.returns-clause-sound
returns-clause-sound c = λ counted tables area q sound none. freed_sound area q none counted tables sound
