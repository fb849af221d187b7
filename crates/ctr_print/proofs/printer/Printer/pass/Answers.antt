use Rattle.std.proofs.Common.{◌++◌, List, ℕ, sym, ap, refl}
use Rattle.ctr_print.proofs.Joins.{sent}
use Rattle.ctr_print.proofs.printer.Printer.pass.Goals as goal

pub returns : goal.returns
returns g c = record { adds = sent c.send-self.ensures (sym (ap (λ (l : List ℕ). l ++ c.args.bytes.now) c.requires.none)) c.requires.none refl }
