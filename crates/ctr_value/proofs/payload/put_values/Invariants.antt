use Rattle.ctr_value.proofs.PayloadLoops.{HasPut}
use Rattle.ctr_value.proofs.payload.put_values.Given as goal

abbrev pub invariant-loop-i : goal.invariant-loop-i
invariant-loop-i l = HasPut l.columns l.values l.into l.i l.at
