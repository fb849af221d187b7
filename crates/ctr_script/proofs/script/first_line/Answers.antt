use Rattle.std.proofs.Common.{sym, subst}
use Rattle.ctr_model.specs.Grammar.{HasNoEnd}
use Rattle.ctr_script.proofs.LineLemmas.{first_cut, last_cut, behind_end}
use Rattle.ctr_script.proofs.script.first_line.Goals as goal

pub returns-in_default-clause-lines : goal.returns-in_default-clause-lines
returns-in_default-clause-lines c =
    let none = c.in_default.ensures in
    last_cut c.args.bytes.now c.split_at.result.0.now c.split_at.result.1.now none.none c.requires c.split_at.ensures.front c.split_at.ensures.back_len

pub returns-clause-lines : goal.returns-clause-lines
returns-clause-lines c =
    let is = c.in-Some.ensures.some in
    first_cut c.args.bytes.now c.split_at-2.result.0.now c.before_end.result.now c.split_at-3.result.1.now
    (behind_end c.args.bytes.now c.split_at-2.result.0.now c.split_at-2.result.1.now c.split_at-3.result.1.now c.in-Some.len is c.split_at-2.ensures.front c.split_at-2.ensures.back c.split_at-3.ensures.back)
    (subst HasNoEnd (sym c.split_at-2.ensures.front) is.1) c.before_end.ensures.same
