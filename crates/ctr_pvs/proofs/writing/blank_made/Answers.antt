use Rattle.std.proofs.Common.{◌≡◌, length, replicate, sym, ◌∙◌, ap, subst, refl}
use Rattle.std.proofs.lemmas.List.{take-replicate, length-replicate}
use Rattle.ctr_page.specs.Places.{kept_size}
use Rattle.ctr_page.specs.Making.{kept_bytes, IsEntry}
use Rattle.ctr_pvs.specs.Writing.{blank_entry}
use Rattle.ctr_pvs.proofs.OneRecord.{blank_is, blank_by, entry_laid}
use Rattle.ctr_pvs.proofs.writing.blank_made.Goals as goal

pub returns : goal.returns
returns c =
    let w = c.args.w in
    let payload : c.new.result ≡ replicate w 0 = c.new.ensures ∙ take-replicate w 2048 0 c.requires in
    let wide : length c.new.result ≡ w = ap length payload ∙ length-replicate w 0 in
    let fits = subst (λ l. IsEntry (length l) (blank_by l)) (sym payload) (subst (λ n. IsEntry n (blank_entry w)) (sym (length-replicate w 0)) (blank_is w)) in
    entry_laid (blank_by c.new.result) c.new.result (kept_size w) c.make_version.new.into _ refl fits (ap kept_size (sym wide)) c.make_version.ensures.bytes
    ∙ ap (λ l. kept_bytes (blank_by l)) payload
