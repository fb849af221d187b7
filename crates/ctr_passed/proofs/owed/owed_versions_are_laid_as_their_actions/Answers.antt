use Rattle.ctr_actions.specs.page_Making.{kept_bytes}
use Rattle.ctr_actions.specs.area_Chains.{older_bound}
use Rattle.ctr_actions.specs.area_Sound.{along}
use Rattle.ctr_actions.specs.ctr_record_effects.States.{area_in}
use Rattle.ctr_passed.proofs.Kept.{along_older, first_in}
use Rattle.ctr_passed.proofs.Putting.{older_put}
use Rattle.ctr_passed.proofs.owed.owed_versions_are_laid_as_their_actions.Goals as goal

pub returns-clause-keeps : goal.returns-clause-keeps
returns-clause-keeps c = λ s r e at older entry sound owed puts.
    let laid = older_put s sound e at owed.here r entry puts in (
      c.versions_lie_as_their_actions.ensures.keeps s r e at older (kept_bytes entry) laid.laid,
      c.versions_pass_their_checks.ensures.keeps s r e at older entry laid,
    )

pub returns-clause-cuts : goal.returns-clause-cuts
returns-clause-cuts c = λ s r passes e at q entry sound owed puts.
    let area = area_in s in
    let here = along_older area e (area.slot at).key older_bound (area.slot at).pointer q (sound.sound.pointers.lead e at owed.used) (first_in passes area.older q (along area at) owed.first) in
    let laid = older_put s sound e q here r entry puts in (
      c.versions_lie_as_their_actions.ensures.cuts s r passes e at q (kept_bytes entry) laid.laid,
      c.versions_pass_their_checks.ensures.cuts s r passes e at q entry laid,
    )

pub returns-clause-frees : goal.returns-clause-frees
returns-clause-frees c = λ s r e q entry sound owed puts.
    let laid = older_put s sound e q owed.here r entry puts in (
      c.versions_lie_as_their_actions.ensures.frees s r e q (kept_bytes entry) laid.laid,
      c.versions_pass_their_checks.ensures.frees s r e q entry laid,
    )
