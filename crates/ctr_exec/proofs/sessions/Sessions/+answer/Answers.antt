use Rattle.std.proofs.Common.{inr}
use Rattle.ctr_exec.proofs.Answering.{goes_then}
use Rattle.ctr_exec.proofs.Fewer.{fewer_then}
use Rattle.ctr_exec.proofs.Ordered.{adds_then, at_once}
use Rattle.ctr_exec.proofs.sessions.Sessions.+answer.Goals as goal

pub returns-then-answer_next-clause-told : goal.returns-then-answer_next-clause-told
returns-then-answer_next-clause-told g t c = λ run opened w tells sound going before.
    let first = c.answer_next.ensures.told run opened w tells sound going before in
    goes_then g.D.Disk run opened c.args.store.now c.args.self.now c.answer_next.new.self c.answer.new.self w before first (c.answer.ensures.told run opened first.mind tells sound going first.shows)

pub returns-then-answer_next-clause-adds : goal.returns-then-answer_next-clause-adds
returns-then-answer_next-clause-adds g t c = λ before le.
    let now = g.D.Disk.moment_of c.args.store.now.disk in
    adds_then before now c.args.self.now c.answer_next.new.self c.answer.new.self (c.answer_next.ensures.adds before le) (c.answer.ensures.adds now (at_once now))

pub returns-then-answer_next-clause-fewer : goal.returns-then-answer_next-clause-fewer
returns-then-answer_next-clause-fewer g t c = inr (fewer_then c.args.self.now c.answer_next.new.self c.answer.new.self (c.answer_next.ensures.fewer c.if-answer_next.true) c.answer.ensures.fewer)
