use Rattle.std.proofs.Common.{◌∙◌, codes}
use Rattle.clap.specs.Words.{found_of, rows_of}
use Rattle.clap.proofs.WalkLemmas.{one_text-rows}
use Rattle.ctr_words.proofs.WordLemmas.{frames_read}
use Rattle.ctr_words.proofs.words.frames.Goals as goal

pub returns : goal.returns
returns c = λ told.
    let text = one_text-rows (found_of c.args.matches.now) (codes "frames") in
    c.unwrap_or.ensures ∙ frames_read _ (rows_of (found_of c.args.matches.now)) c.get_one.result text c.get_one.ensures.none c.get_one.ensures.value told
