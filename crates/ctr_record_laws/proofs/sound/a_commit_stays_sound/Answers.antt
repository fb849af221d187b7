use Rattle.ctr_record_laws.proofs.Commit.{commit_sound}
use Rattle.ctr_record_laws.proofs.sound.a_commit_stays_sound.Goals as goal

pub returns : goal.returns
returns c = commit_sound
