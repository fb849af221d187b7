use Rattle.std.proofs.Common.{[]}
use Rattle.ctr_print.proofs.Joins.{put_as}
use Rattle.ctr_print.proofs.Lists.{joined_is}
use Rattle.ctr_print.proofs.pieces.put_pieces.Goals as goal

pub returns : goal.returns
returns g c = put_as (joined_is [] c.args.pieces.now) c.put_each.ensures
