use Rattle.std.proofs.Common.{◌≡◌, ◌∙◌, rules}
use Rattle.std.specs.List.{count_by}
use Rattle.ctr_model.specs.types_Entry.{Entry}
use Rattle.ctr_model.specs.Tape.{is_answer}
use Rattle.ctr_print.proofs.Lists.{count_answers}
use Rattle.ctr_print.proofs.count.count_answers.Goals as goal

pub returns : goal.returns
returns c = let counted : c.count.result ≡ count_by (λ (e : Entry). is_answer e.reply) c.args.tape.now.entries = search rules in counted ∙ count_answers c.args.tape.now.entries
