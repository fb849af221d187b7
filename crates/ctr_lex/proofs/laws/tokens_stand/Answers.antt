use Rattle.ctr_lex.proofs.Standing.{token_before, token_before_bad, tokens_ordered}
use Rattle.ctr_lex.proofs.laws.tokens_stand.Goals as goal

pub returns : goal.returns
returns c = record { lexed = token_before; before_bad = token_before_bad; ordered = tokens_ordered }
