use Rattle.std.proofs.Common.{◌∙◌, ap}
use Rattle.std.specs.Ordering.{int_cmp}
use Rattle.std.specs.FinMap.Entries.{put}
use Rattle.ctr_reading.proofs.Putting.{insert_is_put}
use Rattle.ctr_reading.proofs.gathered.Gathered.put.Goals as goal

pub returns : goal.returns
returns c = c.in_ok-insert.ensures.entries ∙ insert_is_put c.args.key c.args.row c.self.inside.rows.entries ∙ ap (put int_cmp c.args.key c.args.row) c.self.view_is
