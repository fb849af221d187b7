use Rattle.std.proofs.Common.{◌∙◌, codes}
use Rattle.clap.specs.Words.{found_of, rows_of}
use Rattle.clap.proofs.WalkLemmas.{one_text-rows}
use Rattle.ctr_words.proofs.WordLemmas.{threads_read}
use Rattle.ctr_words.proofs.words.threads.Goals as goal

pub returns : goal.returns
returns c =
    let text = one_text-rows (found_of c.args.matches.now) (codes "threads") in
    c.unwrap_or.ensures ∙ threads_read _ _ (rows_of (found_of c.args.matches.now)) c.get_one.result text c.get_one.ensures.none c.get_one.ensures.value
