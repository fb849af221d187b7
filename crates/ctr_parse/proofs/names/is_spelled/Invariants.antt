use Rattle.std.proofs.Common.{◌≡◌, map, drop}
use Rattle.ctr_model.specs.State.{same_name}
use Rattle.ctr_model.specs.Grammar.{capital}
use Rattle.ctr_parse.proofs.names.is_spelled.Given as goal

abbrev pub invariant-loop-i : goal.invariant-loop-i
invariant-loop-i l = same_name l.keyword (map capital l.word) ≡ same_name (drop l.i l.keyword) (map capital (drop l.i l.word))
