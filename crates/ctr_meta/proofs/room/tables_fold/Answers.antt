use Rattle.std.proofs.Common.{◌∷◌, []}
use Rattle.std.proofs.lemmas.List.Sums.{fold-append}
use Rattle.ctr_meta.specs.Tables.{Tables, no_tables}
use Rattle.ctr_meta.specs.Effects.{effect}
use Rattle.ctr_rec.specs.declared.record.Record.{Record}
use Rattle.ctr_meta.proofs.room.tables_fold.Goals as goal

pub returns-clause-more : goal.returns-clause-more
returns-clause-more c rs r = fold-append (λ (t : Tables) (r : Record). effect r t) no_tables rs (r ∷ [])
