use Rattle.std.proofs.Common.{◌+◌, ◌/◌, ◌<◌, ◌≤◌, ◌∙◌, ⊎_elim, arith}
use Rattle.ctr_mem_disk.proofs.Places.{stays_below, gone_from, below_or_past}
use Rattle.ctr_mem_disk.proofs.blocks.cut_blocks.Goals as goal

pub returns-clause-below : goal.returns-clause-below
returns-clause-below c = λ i low.
    c.drop_zero.ensures i ∙ c.clear_piece.ensures.below i low
    ∙ stays_below c.args.blocks.now c.split_off.new.self ((c.args.len + 4095) / 4096) c.in_ok-split_off.ensures.below i (omega (arith, low))

pub returns-clause-behind : goal.returns-clause-behind
returns-clause-behind c = λ i past.
    c.drop_zero.ensures i
    ∙ ⊎_elim (λ (behind : c.args.len / 4096 < i / 4096).
    c.clear_piece.ensures.behind i behind
    ∙ gone_from c.args.blocks.now c.split_off.new.self ((c.args.len + 4095) / 4096) c.in_ok-split_off.ensures.below i (omega (arith, behind)))
    (λ (here : i / 4096 ≤ c.args.len / 4096). c.clear_piece.ensures.here i past (omega (arith, past, here)))
    (below_or_past (c.args.len / 4096) (i / 4096))
