use Rattle.ctr_rec.proofs.MemberLaws.{members_pass}
use Rattle.ctr_rec.proofs.lists.encode_checkpoint.Goals as goal

pub returns-clause-record : goal.returns-clause-record
returns-clause-record c = members_pass c.args.next c.args.opens.now c.args.aborted.now c.args.items.now c.requires
