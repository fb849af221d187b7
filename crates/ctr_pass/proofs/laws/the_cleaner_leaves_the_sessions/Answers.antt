use Rattle.ctr_pass.proofs.Beside.{shows_cleaned}
use Rattle.ctr_pass.proofs.laws.the_cleaner_leaves_the_sessions.Goals as goal

pub returns : goal.returns
returns g c = λ run opened a b h w low does before may spares acts logs.
    shows_cleaned g.D.Disk run opened a b h w before (c.a_cleaned_world_is_kept.ensures run opened a b w low does before.world.keeps may acts logs) a.now.tables.next _ does may.cleans acts spares
