use Rattle.std.proofs.Common.{◌≡◌, replicate, ◌∙◌, ap}
use Rattle.std.proofs.lemmas.List.{take-replicate}
use Rattle.ctr_page.specs.Making.{slot_bytes}
use Rattle.ctr_revert.proofs.Lost.{blank_by}
use Rattle.ctr_revert.proofs.slots.blank_bytes.Goals as goal

pub returns : goal.returns
returns c =
    let w = c.args.w in
    let payload : c.new.result ≡ replicate w 0 = c.new.ensures ∙ take-replicate w 2048 0 c.requires.width in
    c.bytes_of.ensures ∙ ap (λ l. slot_bytes w (blank_by l)) payload
