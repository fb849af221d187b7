use Rattle.ctr_pass.proofs.exec_Going.{sound_in}
use Rattle.ctr_world.proofs.Beside.{shows_kept, shows_released}
use Rattle.ctr_world.proofs.laws.undo_leaves_the_sessions.Goals as goal

pub returns-clause-kept : goal.returns-clause-kept
returns-clause-kept g c = λ run opened a b h w v before does keeps.
    shows_kept g.D.Disk run opened a b h w v before does (sound_in g.D.Disk run opened a h w c.legal_states_are_sound.ensures before) c.what_a_write_counts_on_stays.ensures c.snapshots_stay.ensures keeps

pub returns-clause-released : goal.returns-clause-released
returns-clause-released g c = λ run opened a b h now w v moment before does released keeps.
    shows_released g.D.Disk run opened a b h w v before does (sound_in g.D.Disk run opened a h w c.legal_states_are_sound.ensures before) c.what_a_write_counts_on_stays.ensures c.snapshots_stay.ensures moment now released keeps
