use Rattle.std.proofs.Common.{◌≡◌, ◌+◌, ◌*◌, drop}
use Rattle.ctr_store.specs.Checkpoints.{heads_need}
use Rattle.ctr_store.proofs.checkpoint.check_heads.Given as goal

-- the need from here on is that of all
abbrev pub invariant-loop-pair : goal.invariant-loop-pair
invariant-loop-pair l = record { place_is : l.place ≡ l.at + 16 * l.pair-index; same : heads_need l.at l.pairs ≡ heads_need l.place (drop l.pair-index l.pairs) }
