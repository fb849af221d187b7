use Rattle.std.proofs.Common.{refl, ◌∙◌, ap, subst}
use Rattle.ctr_types.specs.declared.statement.Statement.TheVariants as st
use Rattle.ctr_versions.proofs.Keys.{some_is}
use Rattle.ctr_looks.specs.actions_Actions.{Drops}
use Rattle.ctr_looks.specs.page_turns_Acts.{ActsBy}
use Rattle.ctr_looks.specs.ctr_ddl.Tables.{IsMadeAt}
use Rattle.ctr_looks.specs.declared.tables.TableWrite.TheVariants.{Make, Drop}
use Rattle.ctr_writing.proofs.Tabling.{done_comes, dropped_told, drops_it, full_told, is_at, is_drop, its_number, made_told, others_of}
use Rattle.ctr_writing.proofs.laws.a_turn_of_a_table_is_told.Goals as goal

pub returns-clause-made : goal.returns-clause-made
returns-clause-made g c = λ run opened a b h s name schema next f one at made rested now run_now.
    let D = g.D.Disk in
    let finds = c.the_run_is_of_the_sessions.ensures.found in
    let alone = c.who_rolls_back_is_at_its_rollback.ensures.next in
    let statement = st.Create name schema in
    let its = is_at D run opened a b h s statement next one finds Make at alone in
    let named = some_is name at.may.name at.may.named in
    let number = its_number D run opened a b h s statement next one finds Make at alone in
    let keeps = c.a_table_that_is_made_or_dropped_is_told.ensures.made run opened a b next.mind its next.e schema f (next.is ∙ ap (λ n. st.Create n schema) named) (done_comes D run opened a b h s statement next one finds Make at alone) next.at_end
    (subst (λ n. IsMadeAt its.seat.session.me f n schema.columns a.now b.now) named (subst (λ x. IsMadeAt x f name schema.columns a.now b.now) number made)) rested in
    made_told D run opened a b h s statement next one finds Make at alone _ f name schema made keeps now run_now

pub returns-clause-full : goal.returns-clause-full
returns-clause-full g c = λ run opened a b h s name schema next one at none rested.
    let D = g.D.Disk in
    let finds = c.the_run_is_of_the_sessions.ensures.found in
    let alone = c.who_rolls_back_is_at_its_rollback.ensures.next in
    full_told D run opened a b h s (st.Create name schema) next one finds Make at alone c.a_refusal_is_told.ensures.inside none rested name schema refl

pub returns-clause-dropped : goal.returns-clause-dropped
returns-clause-dropped g c = λ run opened a b h s statement next e one at inside acts rested now run_now.
    let D = g.D.Disk in
    let finds = c.the_run_is_of_the_sessions.ensures.found in
    let alone = c.who_rolls_back_is_at_its_rollback.ensures.next in
    let its = is_at D run opened a b h s statement next one finds (Drop e) at alone in
    let number = its_number D run opened a b h s statement next one finds (Drop e) at alone in
    let keeps = c.a_table_that_is_made_or_dropped_is_told.ensures.dropped run opened a b next.mind its next.e e _ (next.is ∙ is_drop D run opened a b h s statement next one finds (Drop e) at alone e refl) (done_comes D run opened a b h s statement next one finds (Drop e) at alone) next.at_end
    (drops_it D run opened a b h s statement next one finds (Drop e) at alone e refl inside) (subst (λ x. ActsBy x (Drops e) a.now b.now) number acts) rested (others_of D run opened a b h s statement next one finds (Drop e) at alone e) in
    dropped_told D run opened a b h s statement next one finds (Drop e) at alone _ e refl acts keeps now run_now
