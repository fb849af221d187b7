use Rattle.ctr_log.proofs.batches.check_head.Goals as goal

pub returns-clause-bytes : goal.returns-clause-bytes
returns-clause-bytes c k = (c.type_inv.head k).fits
