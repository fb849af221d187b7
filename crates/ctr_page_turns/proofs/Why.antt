-- Why a record of a turn isn't logged.
use Rattle.std.proofs.Common.{◌≡◌, inl, inr, Result, Ok, Err, sym, ◌∙◌, ap}
use Rattle.std.proofs.lemmas.Bool.{false≢true}
use Rattle.std.specs.Prelude.{IfErr, is_ok}
use Rattle.ctr_disk.specs.declared.fault.StoreFault.{StoreFault}
use Rattle.ctr_disk.specs.declared.fault.StoreFault.TheVariants.{Fault}
use Rattle.ctr_rec.specs.declared.record.Record.{Record}
use Rattle.ctr_walk.specs.store_Store.{View, unmet_need}
use Rattle.ctr_walk.specs.OneRecord.{WhyNotLogged}

pub by_disk : {D T : Type 0} (r : Record) (v w : View D) (result : Result T StoreFault) → unmet_need r v ≡ Ok tt → IfErr result (WhyNotLogged r v w) → IfErr result (λ e. e ≡ Fault)
by_disk r v w (Ok y) fits why = tt
by_disk r v w (Err e) fits (inl unfit) = absurd (false≢true (ap is_ok (sym unfit.unmet ∙ fits)))
by_disk r v w (Err e) fits (inr failed) = failed.0
