use Rattle.ctr_totals.proofs.Known.{older_known}
use Rattle.ctr_totals.proofs.facts.older_facts.Goals as goal

pub returns : goal.returns
returns c = λ counted made. older_known counted c.args.entry.now c.facts_of.result c.if-entry-ne1.false made (c.facts_of.ensures c.args.entry.now.key)
