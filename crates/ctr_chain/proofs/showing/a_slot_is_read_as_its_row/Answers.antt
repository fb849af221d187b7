use Rattle.std.proofs.Common.{◌≡◌, refl, sym, ◌∙◌, ap}
use Rattle.std.specs.Prelude.{not, ◌&&◌}
use Rattle.std.proofs.lemmas.Bool.{ne_eqb}
use Rattle.ctr_versions.specs.Engine.{IsDrawn, session_sees}
use Rattle.ctr_versions.specs.Versions.{rows_of}
use Rattle.ctr_versions.proofs.By.{all_mapped_by}
use Rattle.ctr_versions.proofs.Chains.{seen_alike}
use Rattle.ctr_names.specs.meta_Seen.{xid_is_seen}
use Rattle.ctr_names.proofs.Fates.{found_same}
use Rattle.ctr_names.proofs.Whole.{all_drawn}
use Rattle.ctr_versions.specs.Chains.{value_seen, newest}
use Rattle.ctr_names.specs.area_Images.{is_committed_in, versions_in}
use Rattle.ctr_names.specs.area_Chains.{chain_of}
use Rattle.ctr_names.proofs.record_laws_Cleaned.{cleaned_was}
use Rattle.ctr_chain.proofs.Numbered.{above_none, first_drawn, first_newest}
use Rattle.ctr_chain.proofs.showing.a_slot_is_read_as_its_row.Goals as goal

pub returns-clause-visible : goal.returns-clause-visible
returns-clause-visible c = λ counted tables area test e at sound bounds used.
    ap (value_seen test) (sym (cleaned_was counted tables area e at (area.slot at) bounds sound used (λ u. refl) (is_committed_in tables)))

pub returns-clause-session : goal.returns-clause-session
unfolding returns-clause-visible
returns-clause-session c = λ counted tables area xids session me e at sound bounds used are is.
    let some = first_drawn (area.slot at).head.0 tables.next (sound.behind e at used).0 (sound.below.slots e at used).0 in
    let rows = rows_of (versions_in (is_committed_in tables) area) e (area.slot at).key in
    returns-clause-visible c counted tables area (xid_is_seen tables session.snapshot me) e at sound bounds used
    ∙ seen_alike (session_sees xids session) (xid_is_seen tables session.snapshot me) rows
    (all_mapped_by (IsDrawn tables.next) (λ x. xid_is_seen tables session.snapshot me x ≡ session_sees xids session x)
    (λ x drawn. found_same counted tables area sound xids are session me is x ∙ ap (λ b. not b && session_sees xids session x) (ne_eqb x 0 (above_none x drawn.0))) rows
    ((all_drawn counted tables area sound some (is_committed_in tables)).rows e (area.slot at).key))

pub returns-clause-newest : goal.returns-clause-newest
returns-clause-newest c = λ counted tables area number e at sound bounds used agree.
    first_newest number (is_committed_in tables) agree (chain_of area.older (area.slot at))
    ∙ ap (newest number) (sym (cleaned_was counted tables area e at (area.slot at) bounds sound used (λ u. refl) (is_committed_in tables)))
