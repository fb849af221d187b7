use Rattle.std.proofs.Common.{refl}
use Rattle.ctr_area.specs.Areas.{free_older}
use Rattle.ctr_area.specs.Changes.{with_older}
use Rattle.ctr_record_laws.proofs.OneSlot.{slot_apart}
use Rattle.ctr_record_laws.specs.Owed.{older_copy, reverted_slot, reverted_at, slot_by, row_moved, trimmed_slot, trimmed_at, cut_at}
use Rattle.ctr_record_laws.proofs.Unlinking.{row_unlinks}
use Rattle.ctr_record_laws.proofs.Steady.{keep_stays, row_stays, revert_stays, trim_stays, cut_stays, freed_stays, spare_stays}
use Rattle.ctr_record_laws.proofs.loose.a_spare_copy_stays_spare.Goals as goal

pub returns-clause-keep : goal.returns-clause-keep
returns-clause-keep c = λ counted tables area e f at q p version older sound owed. spare_stays area (with_older p older area) e at version q refl
    (λ loose. keep_stays area e q (older_copy (area.slot at) version) loose counted tables f p older sound owed)

pub returns-clause-row : goal.returns-clause-row
returns-clause-row c = λ counted tables area e at q version m sound owed used apart copy.
    spare_stays area (row_moved m area) e at version q (slot_apart area m.at (slot_by m area) at apart)
    (λ loose. row_stays area e q (older_copy (area.slot at) version) loose tables m owed (row_unlinks counted tables area sound e at q version used copy m owed apart)) copy

pub returns-clause-revert : goal.returns-clause-revert
returns-clause-revert c = λ counted tables area e f at q b version way sound owed apart.
    spare_stays area (reverted_at b way area) e at version q (slot_apart area b (reverted_slot way area.older (area.slot b)) at apart)
    (λ loose. revert_stays area e q (older_copy (area.slot at) version) loose counted tables f b way sound owed)

pub returns-clause-trim : goal.returns-clause-trim
returns-clause-trim c = λ area e at q b version way apart. spare_stays area (trimmed_at b way area) e at version q (slot_apart area b (trimmed_slot way (area.slot b)) at apart)
    (λ loose. trim_stays area e q (older_copy (area.slot at) version) loose b way)

pub returns-clause-cut : goal.returns-clause-cut
returns-clause-cut c = λ passes area e f at q b p version owed. spare_stays area (cut_at p area) e at version q refl
    (λ loose. cut_stays area e q (older_copy (area.slot at) version) loose passes f b p owed)

pub returns-clause-freed : goal.returns-clause-freed
returns-clause-freed c = λ area e at q p version none apart. spare_stays area (with_older p free_older area) e at version q refl
    (λ loose. freed_stays area e q (older_copy (area.slot at) version) loose p none apart)
