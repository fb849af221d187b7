use Rattle.std.proofs.Common.{true, sym, ◌∙◌, ap}
use Rattle.std.specs.Prelude.{is_some}
use Rattle.std.proofs.lemmas.Bool.{false≢true}
use Rattle.ctr_looks.proofs.taking.take_name.Goals as goal

pub returns-in-Err-clause-free : goal.returns-in-Err-clause-free
returns-in-Err-clause-free c = λ names state shows sorted idle.
    absurd (false≢true (ap is_some (sym (c.in-Err.ensures.held ∙ c.key_locks_are_the_models.ensures.busy names c.args.s true c.args.name.now c.args.locks.now state c.stands_in_order.ensures sorted shows ∙ idle))))
