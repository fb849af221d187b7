use Rattle.std.proofs.Common.{◌≡◌, false, drop}
use Rattle.ctr_parse.specs.Spelled.{unquoted, with_bytes}
use Rattle.ctr_parse.proofs.quoted.unquoted.Given as goal

abbrev pub invariant-loop-byte : goal.invariant-loop-byte
invariant-loop-byte l = unquoted false l.bytes ≡ with_bytes l.text (unquoted l.closed (drop l.byte-index l.bytes))
