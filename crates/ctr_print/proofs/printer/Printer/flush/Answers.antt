use Rattle.std.proofs.Common.{◌∙◌, sym, refl}
use Rattle.std.proofs.lemmas.List.{append-nil}
use Rattle.ctr_print.proofs.Joins.{sent}
use Rattle.ctr_print.proofs.printer.Printer.flush.Goals as goal

pub returns-clause-adds : goal.returns-clause-adds
returns-clause-adds g c = sent c.send-self.ensures (c.as_slice.ensures.value ∙ sym (append-nil c.args.self.now.waiting.items)) c.clear.ensures refl
