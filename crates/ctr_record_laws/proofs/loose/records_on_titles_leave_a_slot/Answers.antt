use Rattle.std.proofs.Common.{refl, sym, subst}
use Rattle.ctr_area.specs.Areas.{no_pages}
use Rattle.ctr_area.specs.Changes.{new_title, empty_chains}
use Rattle.ctr_record_laws.proofs.Fresh.{AreNoPages, empty_are_none}
use Rattle.ctr_record_laws.proofs.Still.{entry_same}
use Rattle.ctr_record_laws.proofs.loose.records_on_titles_leave_a_slot.Goals as goal

pub returns-clause-title : goal.returns-clause-title
returns-clause-title c = λ area e at f title used. record { used = used; same = refl }

pub returns-clause-create : goal.returns-clause-create
returns-clause-create c = λ counted tables old new e at x f name columns bounds sound owed changes used.
    entry_same old e at used counted tables f empty_chains sound owed.inside empty_are_none (subst AreNoPages (sym (bounds.free f owed.free)) (tt, refl)) (new_title x name columns) new changes

pub returns-clause-free : goal.returns-clause-free
returns-clause-free c = λ counted tables old new e at f title sound owed changes used.
    entry_same old e at used counted tables f no_pages sound owed.inside (tt, refl) (owed.no_rows, owed.no_versions) title new changes
