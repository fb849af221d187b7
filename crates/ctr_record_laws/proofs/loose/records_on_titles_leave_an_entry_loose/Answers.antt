use Rattle.std.proofs.Common.{refl, sym, subst}
use Rattle.ctr_area.specs.Areas.{no_pages}
use Rattle.ctr_area.specs.Changes.{new_title, empty_chains}
use Rattle.ctr_record_laws.proofs.Fresh.{AreNoPages, empty_are_none}
use Rattle.ctr_record_laws.proofs.Elsewhere.{entry_loose}
use Rattle.ctr_record_laws.proofs.Steady.{title_loose}
use Rattle.ctr_record_laws.proofs.loose.records_on_titles_leave_an_entry_loose.Goals as goal

pub returns-clause-title : goal.returns-clause-title
returns-clause-title c = λ area e q it f title loose. title_loose area e q it loose f title

pub returns-clause-create : goal.returns-clause-create
returns-clause-create c = λ counted tables old new e q it x f name columns bounds sound owed changes.
    entry_loose counted tables old f empty_chains sound owed.inside empty_are_none (subst AreNoPages (sym (bounds.free f owed.free)) (tt, refl)) (new_title x name columns) new changes e q it

pub returns-clause-free : goal.returns-clause-free
returns-clause-free c = λ counted tables old new e q it f title sound owed changes.
    entry_loose counted tables old f no_pages sound owed.inside (tt, refl) (owed.no_rows, owed.no_versions) title new changes e q it
