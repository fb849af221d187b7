use Rattle.ctr_parse.proofs.Quotes.{fails_at}
use Rattle.ctr_parse.proofs.quoted.unquoted.Goals as goal

pub returns-in_default : goal.returns-in_default
returns-in_default c = fails_at c.args.bytes.now c.loop-byte.text c.loop-byte.closed c.loop-byte.byte-index c.loop-byte-test.true c.loop-byte.invariant (c.in_ok-now.ensures.refused c.in_default.is)
