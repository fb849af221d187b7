use Rattle.std.proofs.Common.{arith}
use Rattle.ctr_parse.proofs.Quotes.{plain}
use Rattle.ctr_parse.proofs.quoted.go_on.Goals as goal

pub returns-clause-found : goal.returns-clause-found
returns-clause-found c = plain c.args.text.now c.push-2.new.self c.args.closed c.args.byte c.if-closed.false c.if-byte-eq39.false (omega arith) (omega arith) c.in_ok-push-2.ensures.ok
