use Rattle.std.proofs.Common.{◌∙◌}
use Rattle.clap.specs.Words.{found_of, rows_of}
use Rattle.clap.proofs.WalkLemmas.{one_text-rows}
use Rattle.ctr_words.proofs.WordLemmas.{number_read}
use Rattle.ctr_words.proofs.words.number.Goals as goal

pub returns : goal.returns
returns c =
    let rows = rows_of (found_of c.args.matches.now) in
    let text = one_text-rows (found_of c.args.matches.now) c.args.name.now in
    c.within.ensures ∙ number_read c.args.least c.args.most _ rows c.args.name.now c.get_one.result text c.get_one.ensures.none c.get_one.ensures.value
