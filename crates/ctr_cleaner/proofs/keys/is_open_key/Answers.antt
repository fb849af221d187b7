use Rattle.std.proofs.Common.{sym, ◌∙◌}
use Rattle.ctr_cleaner.proofs.Found.{locked_here}
use Rattle.ctr_cleaner.proofs.keys.is_open_key.Goals as goal

pub returns-then-is_some-clause-tells : goal.returns-then-is_some-clause-tells
returns-then-is_some-clause-tells g c = λ told sound taken. locked_here c.args.locks.now c.args.store.now.now c.args.entry c.args.key c.locked.result c.requires.there c.locked.ensures.holder (sym c.is_some.ensures ∙ c.if-is_some.true)
