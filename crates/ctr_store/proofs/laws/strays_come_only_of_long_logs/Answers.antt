use Rattle.std.proofs.Common.{inl, arith}
use Rattle.ctr_store.proofs.RecordLaws.{record_short}
use Rattle.ctr_store.proofs.StoreLaws.{strays_long}
use Rattle.ctr_store.proofs.laws.strays_come_only_of_long_logs.Goals as goal

pub returns-clause-call : goal.returns-clause-call
returns-clause-call g c a b front moves same = strays_long g.D.Disk a b 0 (omega arith) front moves (omega (arith, same))

pub returns-clause-logged : goal.returns-clause-logged
returns-clause-logged g c r lsn a b may front moves takes = strays_long g.D.Disk a b 5029 (omega arith) front moves (omega (arith, takes.gate, record_short r may.logged.record_is may.change))

pub returns-clause-growth : goal.returns-clause-growth
returns-clause-growth g c a b result counts = inl counts.strays
