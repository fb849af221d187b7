use Rattle.std.proofs.Common.{refl, subst}
use Rattle.ctr_area.specs.Changes.{with_taken, with_blank, with_firsts, with_bucket}
use Rattle.ctr_area.specs.Sound.{IsUsedSlot}
use Rattle.ctr_record_laws.specs.Owed.{older_copy}
use Rattle.ctr_record_laws.proofs.Chained.{link_loose, older_link_loose, unlink_loose, older_unlink_loose}
use Rattle.ctr_record_laws.proofs.Elsewhere.{format_loose, format_slot}
use Rattle.ctr_record_laws.proofs.Steady.{taken_loose, spare_stays}
use Rattle.ctr_record_laws.proofs.loose.records_on_pages_leave_a_copy_spare.Goals as goal

pub returns-clause-taken : goal.returns-clause-taken
returns-clause-taken c = λ area e at q version p taken. spare_stays area (with_taken p taken area) e at version q refl
    (λ loose. taken_loose area e q (older_copy (area.slot at) version) loose p taken)

pub returns-clause-format : goal.returns-clause-format
returns-clause-format c = λ counted tables area e at q version x p h bounds sound owed used.
    spare_stays area (with_blank p h area) e at version q (format_slot counted tables area x p h bounds sound owed e at used)
    (format_loose counted tables area x p h bounds sound owed e q (older_copy (area.slot at) version))

pub returns-clause-link : goal.returns-clause-link
returns-clause-link c = λ tables area e at q version x p f bucket owed.
    spare_stays area (with_firsts f (with_bucket bucket p (area.firsts f)) area) e at version q refl
    (λ loose. link_loose area e q (older_copy (area.slot at) version) loose tables x p f bucket owed)

pub returns-clause-older_link : goal.returns-clause-older_link
returns-clause-older_link c = λ counted tables area e at q version x p f few bounds sound owed.
    spare_stays area (with_firsts f (record (area.firsts f) { versions = p }) area) e at version q refl
    (λ loose. older_link_loose area e q (older_copy (area.slot at) version) loose counted tables x p f few bounds sound owed)

pub returns-clause-unlink : goal.returns-clause-unlink
returns-clause-unlink c = λ counted tables area e at q version p f bucket sound owed.
    spare_stays area (with_firsts f (with_bucket bucket (area.header p).next (area.firsts f)) area) e at version q refl
    (λ loose. unlink_loose area e q (older_copy (area.slot at) version) loose counted tables p f bucket sound owed)

pub returns-clause-older_unlink : goal.returns-clause-older_unlink
returns-clause-older_unlink c = λ area e at q version p f owed used.
    spare_stays area (with_firsts f (record (area.firsts f) { versions = (area.header p).next }) area) e at version q refl
    (λ loose. older_unlink_loose area e q (older_copy (area.slot at) version) loose p f (λ is. owed.none at (subst (λ e. IsUsedSlot area e at) is used)))
