use Rattle.std.proofs.Common.{sym, subst}
use Rattle.ctr_record_laws.specs.versions_Chains.{Behind}
use Rattle.ctr_record_laws.specs.area_Images.{is_committed_in}
use Rattle.ctr_names.proofs.Names.{names_here}
use Rattle.ctr_names.proofs.Whole.{all_drawn, chain_behind, rows_behind}
use Rattle.ctr_names.proofs.owners.only_heads_are_open.Goals as goal

pub returns-clause-drawn : goal.returns-clause-drawn
returns-clause-drawn c = λ counted tables area test sound some. all_drawn counted tables area sound some test

pub returns-clause-heads : goal.returns-clause-heads
returns-clause-heads c = λ number counted tables area sound some agree. record {
  names = λ name. subst (Behind number) (sym (names_here (is_committed_in tables) area name)) (chain_behind counted tables area sound some number agree name);
  rows = λ id key. rows_behind counted tables area sound some number agree (is_committed_in tables) id key;
}
