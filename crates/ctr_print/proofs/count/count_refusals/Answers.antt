use Rattle.std.proofs.Common.{◌≡◌, ◌∙◌, rules}
use Rattle.std.specs.List.{count_by}
use Rattle.ctr_model.specs.types_Entry.{Entry}
use Rattle.ctr_model.specs.Tape.{is_refused}
use Rattle.ctr_print.proofs.Lists.{count_refusals}
use Rattle.ctr_print.proofs.count.count_refusals.Goals as goal

pub returns : goal.returns
returns c = let counted : c.count.result ≡ count_by (λ (e : Entry). is_refused e.reply) c.args.tape.now.entries = search rules in counted ∙ count_refusals c.args.tape.now.entries
