use Rattle.std.proofs.Common.{◌∙◌, map, sym}
use Rattle.std.specs.String.{string_bytes}
use Rattle.ctr_words.proofs.WordLemmas.{fits}
use Rattle.ctr_words.proofs.words.command.Goals as goal

pub returns-in-Ok-Some-clause-fits : goal.returns-in-Ok-Some-clause-fits
returns-in-Ok-Some-clause-fits c = fits (map string_bytes c.args.words.now) c.in-Ok-Some.subcommand (sym c.in-Ok-Some.ensures ∙ c.in-Ok-Some.field-0-is)
