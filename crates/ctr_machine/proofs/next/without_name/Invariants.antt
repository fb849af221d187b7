use Rattle.std.proofs.Common.{◌≡◌, take}
use Rattle.ctr_model.specs.Reply.{without_name}
use Rattle.ctr_machine.proofs.next.without_name.Given as goal

-- those so far
abbrev pub invariant-loop-n : goal.invariant-loop-n
invariant-loop-n l = l.left ≡ without_name l.name (take l.n-index l.names)
