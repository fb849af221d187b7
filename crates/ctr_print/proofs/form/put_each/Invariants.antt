use Rattle.std.proofs.Common.{take}
use Rattle.std.specs.List.{flat_map}
use Rattle.ctr_print.specs.Prints.{PrintsMore}
use Rattle.ctr_print.proofs.form.put_each.Given as goal

abbrev pub invariant-loop-item : goal.invariant-loop-item
invariant-loop-item g l = PrintsMore g.K.Sink (flat_map g.F.Form.text (take l.item-index l.items)) l.fn.out l.out
