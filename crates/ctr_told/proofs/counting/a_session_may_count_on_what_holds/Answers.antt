use Rattle.std.proofs.Common.{refl}
use Rattle.ctr_views.specs.actions_Sites.{site_of}
use Rattle.ctr_rollback.specs.kept_Turns.{carrying}
use Rattle.ctr_rollback.proofs.stops_Blanks.{silent_pages}
use Rattle.ctr_told.proofs.Facts.{counts_now, no_more}
use Rattle.ctr_told.proofs.counting.a_session_may_count_on_what_holds.Goals as goal

pub returns : goal.returns
returns g c = λ run opened a w s seat mine world carries blank. record {
  walks = counts_now run (g.D.Disk.moment_of a.disk) s (site_of a.now) w world.walks seat mine carries;
  pages = silent_pages a.now w (carrying s mine w) world.pages (no_more s w (carrying s mine w) mine refl refl blank);
  commits = world.commits;
  rests = world.rests;
}
