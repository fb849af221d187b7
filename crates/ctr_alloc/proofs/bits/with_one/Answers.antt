use Rattle.std.proofs.Common.{w8, true, ap}
use Rattle.std.specs.Prelude.{◌==◌}
use Rattle.std.proofs.lemmas.Nat.Bits.{bit_at_set_same, bit_at_set_other}
use Rattle.ctr_alloc.proofs.BitLaws.{bit_set}
use Rattle.ctr_alloc.proofs.bits.with_one.Goals as goal

pub returns : goal.returns
returns c = bit_set _ true _ _ (ap (λ n. n == 1) (bit_at_set_same w8 _ _ c.requires)) (λ i few apart. bit_at_set_other w8 _ _ c.requires i apart)
