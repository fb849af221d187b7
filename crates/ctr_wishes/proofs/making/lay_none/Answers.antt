use Rattle.std.proofs.Common.{drop, replicate, refl, sym, ◌∙◌, ap}
use Rattle.ctr_value.proofs.PayloadLaws.{kinds_wide}
use Rattle.ctr_wishes.proofs.making.lay_none.Goals as goal

pub returns : goal.returns
returns c =
    let zeros = c.in_ok-zeros.ensures.items_if_clones_equal (λ y is. is) ∙ ap (λ n. replicate n 0) (c.width.ensures.value ∙ sym (kinds_wide (drop 1 c.args.schema.now.columns))) in
    (refl, tt, c.of_none.ensures ∙ (λ i. record { tombstone = 1; payload = zeros i }))
