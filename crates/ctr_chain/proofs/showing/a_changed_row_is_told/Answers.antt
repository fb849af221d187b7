use Rattle.std.proofs.Common.{refl, sym, ◌∙◌, ap, subst}
use Rattle.std.specs.List.{AllByRecursion}
use Rattle.std.specs.Prelude.{is_some}
use Rattle.ctr_versions.specs.Chains.{above, newest}
use Rattle.ctr_versions.specs.Engine.{IsSeenIfOld}
use Rattle.ctr_versions.specs.Xids.{number_of}
use Rattle.ctr_names.specs.meta_Seen.{xid_is_changed}
use Rattle.ctr_names.specs.area_Areas.{RowVersion}
use Rattle.ctr_names.specs.area_Chains.{chain_of}
use Rattle.ctr_names.specs.area_Images.{is_committed_in}
use Rattle.ctr_names.proofs.Fates.{agrees, changed_same}
use Rattle.ctr_names.proofs.record_laws_Cleaned.{cleaned_was}
use Rattle.ctr_chain.specs.Seeing.{first_xid}
use Rattle.ctr_chain.proofs.Numbered.{first_by, first_newest, told_above}
use Rattle.ctr_chain.proofs.showing.a_changed_row_is_told.Goals as goal

pub returns : goal.returns
returns c = λ counted tables area xids snapshot n e at sound bounds used is stands old.
    let committed = is_committed_in tables in
    let chain = chain_of area.older (area.slot at) in
    let row = cleaned_was counted tables area e at (area.slot at) bounds sound used (λ u. refl) committed in
    let all = subst (AllByRecursion (λ (v : RowVersion). IsSeenIfOld xids snapshot v.0)) row (old.rows e (area.slot at).key) in
    told_above (xid_is_changed tables snapshot) (number_of xids) n (first_xid committed chain)
    (λ x first. changed_same counted tables area sound xids is snapshot n stands x (first_by (IsSeenIfOld xids snapshot) committed x chain all first))
    ∙ ap (λ o. is_some (above n o)) (first_newest (number_of xids) committed (agrees tables xids is) chain ∙ ap (newest (number_of xids)) (sym row))
