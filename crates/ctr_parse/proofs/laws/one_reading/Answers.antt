use Rattle.ctr_parse.specs.Trees.{whole_line, alone}
use Rattle.ctr_parse.proofs.PlaceLemmas.{alone_decides, line_decides}
use Rattle.ctr_parse.proofs.OnePlace.{Facts, reads_one, one_line_said, one_statement_said}
use Rattle.ctr_parse.proofs.laws.one_reading.Goals as goal

pub returns : goal.returns
returns c =
    let facts : Facts = record {
      one_lexing = c.one_lexing.ensures;
      one_bad = c.one_bad_byte.ensures.one;
      no_bad = c.one_bad_byte.ensures.none;
      lexed = c.tokens_stand.ensures.lexed;
      before_bad = c.tokens_stand.ensures.before_bad;
      ordered = c.tokens_stand.ensures.ordered;
      taken = c.each_line_is_taken.ensures;
    } in
    record { statement = reads_one facts alone alone_decides (one_statement_said facts); line = reads_one facts whole_line line_decides (one_line_said facts) }
