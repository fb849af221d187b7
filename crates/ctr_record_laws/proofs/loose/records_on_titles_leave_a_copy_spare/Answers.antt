use Rattle.std.proofs.Common.{refl, sym, subst}
use Rattle.ctr_area.specs.Areas.{no_pages}
use Rattle.ctr_area.specs.Changes.{with_title, new_title, empty_chains}
use Rattle.ctr_record_laws.specs.Owed.{older_copy}
use Rattle.ctr_record_laws.proofs.Fresh.{AreNoPages, empty_are_none}
use Rattle.ctr_record_laws.proofs.Elsewhere.{entry_loose, entry_slot}
use Rattle.ctr_record_laws.proofs.Steady.{title_loose, spare_stays}
use Rattle.ctr_record_laws.proofs.loose.records_on_titles_leave_a_copy_spare.Goals as goal

pub returns-clause-title : goal.returns-clause-title
returns-clause-title c = λ area e at q version f title. spare_stays area (with_title f title area) e at version q refl
    (λ loose. title_loose area e q (older_copy (area.slot at) version) loose f title)

pub returns-clause-create : goal.returns-clause-create
returns-clause-create c = λ counted tables old new e at q version x f name columns bounds sound owed changes used.
    let none : AreNoPages (old.firsts f) = subst AreNoPages (sym (bounds.free f owed.free)) (tt, refl) in
    spare_stays old new e at version q (entry_slot counted tables old f empty_chains sound owed.inside empty_are_none none (new_title x name columns) new changes e at used)
    (entry_loose counted tables old f empty_chains sound owed.inside empty_are_none none (new_title x name columns) new changes e q (older_copy (old.slot at) version))

pub returns-clause-free : goal.returns-clause-free
returns-clause-free c = λ counted tables old new e at q version f title sound owed changes used.
    spare_stays old new e at version q (entry_slot counted tables old f no_pages sound owed.inside (tt, refl) (owed.no_rows, owed.no_versions) title new changes e at used)
    (entry_loose counted tables old f no_pages sound owed.inside (tt, refl) (owed.no_rows, owed.no_versions) title new changes e q (older_copy (old.slot at) version))
