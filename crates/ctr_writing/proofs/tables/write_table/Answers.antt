use Rattle.std.proofs.Common.{◌≡◌, sym, subst}
use Rattle.std.specs.Prelude.{IfOk, IfErr}
use Rattle.ctr_disk.specs.declared.fault.StoreFault.TheVariants.{Fault}
use Rattle.ctr_types.specs.declared.statement.Statement.{Statement}
use Rattle.ctr_types.specs.declared.statement.Statement.TheVariants as st
use Rattle.ctr_looks.specs.ctr_session_world.Told.{IsNextOf}
use Rattle.ctr_looks.specs.ctr_session_world.World.{SessionsHeld}
use Rattle.ctr_writing.specs.Tables.{IsAtTableWrite, TurnOfTable}
use Rattle.ctr_writing.proofs.tables.write_table.Goals as goal

pub returns-in-Create-clause-told : goal.returns-in-Create-clause-told
returns-in-Create-clause-told g c = λ run opened locks tells sound next at.
    let a = c.args.store.now in
    let b = c.make.new.store in
    let s = c.args.s in
    let h : SessionsHeld = record { txns = c.args.txns.now; locks = locks } in
    let now : SessionsHeld = record { txns = c.make.new.txns; locks = locks } in
    subst (λ (q : Statement). (next : IsNextOf g.D.Disk run opened a b h s q 1) → IsAtTableWrite run s q next.mind c.args.what → IfOk c.make.result (TurnOfTable next now)) (sym c.in-Create.is)
    (λ next at. c.make.ensures.told run opened locks tells sound next (subst (λ v. IsAtTableWrite run s (st.Create c.in-Create.table c.in-Create.schema) next.mind v) c.in-Make.is at)) next at

pub returns-in-Create-clause-refused : goal.returns-in-Create-clause-refused
returns-in-Create-clause-refused g c = λ run opened locks tells sound next at.
    let a = c.args.store.now in
    let b = c.make.new.store in
    let s = c.args.s in
    let h : SessionsHeld = record { txns = c.args.txns.now; locks = locks } in
    subst (λ (q : Statement). (next : IsNextOf g.D.Disk run opened a b h s q 1) → IsAtTableWrite run s q next.mind c.args.what → IfErr c.make.result (λ e. e ≡ Fault)) (sym c.in-Create.is)
    (λ next at. c.make.ensures.refused run opened locks tells sound next (subst (λ v. IsAtTableWrite run s (st.Create c.in-Create.table c.in-Create.schema) next.mind v) c.in-Make.is at)) next at

pub returns-in-Drop-clause-told : goal.returns-in-Drop-clause-told
returns-in-Drop-clause-told g c = λ run opened locks tells sound next at.
    c.drop_one.ensures.told run opened locks c.args.statement.now tells sound next (subst (λ v. IsAtTableWrite run c.args.s c.args.statement.now next.mind v) c.in-Drop.is at)

pub returns-in-Drop-clause-refused : goal.returns-in-Drop-clause-refused
returns-in-Drop-clause-refused g c = λ run opened locks tells sound next at.
    c.drop_one.ensures.refused run opened locks c.args.statement.now tells sound next (subst (λ v. IsAtTableWrite run c.args.s c.args.statement.now next.mind v) c.in-Drop.is at)
