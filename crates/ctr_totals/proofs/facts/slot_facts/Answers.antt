use Rattle.ctr_totals.proofs.Known.{slot_known}
use Rattle.ctr_totals.proofs.facts.slot_facts.Goals as goal

pub returns : goal.returns
returns c = λ counted made. slot_known counted c.args.slot.now c.facts_of.result c.facts_if_any.result made (c.facts_of.ensures c.args.slot.now.key) (c.facts_if_any.ensures c.args.slot.now.key)
