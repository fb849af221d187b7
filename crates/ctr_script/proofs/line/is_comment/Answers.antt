use Rattle.ctr_script.proofs.LineLemmas.{comment_is}
use Rattle.ctr_script.proofs.line.is_comment.Goals as goal

pub returns : goal.returns
returns c = comment_is c.args.line.now c.split_at.result.1.now c.blanks_len.result c.are_dashes.result c.blanks_len.ensures.within c.blanks_len.ensures.all c.blanks_len.ensures.stops c.split_at.ensures.back c.are_dashes.ensures
