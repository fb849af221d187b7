use Rattle.std.proofs.Common.{refl, sym, subst}
use Rattle.ctr_types.specs.declared.statement.Statement.TheVariants as st
use Rattle.ctr_versions.proofs.Keys.{some_is}
use Rattle.ctr_looks.specs.ctr_ddl.Tables.{MayDrop, MayMake}
use Rattle.ctr_looks.specs.declared.tables.TableWrite.TheVariants.{Make, Drop}
use Rattle.ctr_writing.proofs.Tabling.{drops_it, is_at, its_number}
use Rattle.ctr_writing.proofs.laws.a_table_may_be_written.Goals as goal

pub returns-clause-made : goal.returns-clause-made
returns-clause-made g c = λ run opened a b h s name schema next one at.
    let D = g.D.Disk in
    let finds = c.the_run_is_of_the_sessions.ensures.found in
    let alone = c.who_rolls_back_is_at_its_rollback.ensures.next in
    let statement = st.Create name schema in
    subst (λ x. MayMake x name a.now) (sym (its_number D run opened a b h s statement next one finds Make at alone))
    (subst (λ n. MayMake (is_at D run opened a b h s statement next one finds Make at alone).seat.session.me n a.now) (sym (some_is name at.may.name at.may.named))
    (c.a_table_may_be_made_or_dropped.ensures.made run opened a next.mind (is_at D run opened a b h s statement next one finds Make at alone) (at.may.makes refl)))

pub returns-clause-dropped : goal.returns-clause-dropped
returns-clause-dropped g c = λ run opened a b h s statement next e one at inside.
    let D = g.D.Disk in
    let finds = c.the_run_is_of_the_sessions.ensures.found in
    let alone = c.who_rolls_back_is_at_its_rollback.ensures.next in
    subst (λ x. MayDrop x e a.now) (sym (its_number D run opened a b h s statement next one finds (Drop e) at alone))
    (c.a_table_may_be_made_or_dropped.ensures.dropped run opened a next.mind (is_at D run opened a b h s statement next one finds (Drop e) at alone) e (drops_it D run opened a b h s statement next one finds (Drop e) at alone e refl inside))
