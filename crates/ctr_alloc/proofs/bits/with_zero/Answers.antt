use Rattle.std.proofs.Common.{w8, false, ap}
use Rattle.std.specs.Prelude.{◌==◌}
use Rattle.std.proofs.lemmas.Nat.Bits.{bit_at_clear_same, bit_at_clear_other}
use Rattle.ctr_alloc.proofs.BitLaws.{bit_set}
use Rattle.ctr_alloc.proofs.bits.with_zero.Goals as goal

pub returns : goal.returns
returns c = bit_set _ false _ _ (ap (λ n. n == 1) (bit_at_clear_same w8 _ _ c.requires)) (λ i few apart. bit_at_clear_other w8 _ _ c.requires i few apart)
