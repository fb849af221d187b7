use Rattle.std.proofs.Common.{◌≡◌, ⊎_elim, sym, ◌∙◌, subst}
use Rattle.std.specs.Prelude.{IfOk}
use Rattle.ctr_types.specs.declared.statement.Statement.{Statement}
use Rattle.ctr_types.specs.declared.statement.Statement.TheVariants as st
use Rattle.ctr_control.specs.kept_Turns.{state_now}
use Rattle.ctr_control.specs.ctr_session_world.Told.{IsIdleIn, IsNextOf}
use Rattle.ctr_control.specs.ctr_session_world.World.{SessionsHeld}
use Rattle.ctr_control.specs.txn_Held.{IsWriting, number_drawn}
use Rattle.ctr_exec.specs.Acting.{IsIdleFor, RollsAct, TurnOfAct}
use Rattle.ctr_exec.proofs.acting.first.Goals as goal

-- of a statement that is no ROLLBACK
idle_as : {X : Type 0} (statement as_ : Statement) → statement ≡ as_ → (IsIdleFor as_ X → X) → IsIdleFor statement X → X
idle_as {X} statement as_ is idle i = idle (subst (λ q. IsIdleFor q X) is i)

pub returns-in-Begin-clause-told : goal.returns-in-Begin-clause-told
returns-in-Begin-clause-told g c = λ run opened tells sound.
    let h : SessionsHeld = record { txns = c.args.txns.now; locks = c.args.locks.now } in
    let now : SessionsHeld = record { txns = c.begun.new.txns; locks = c.args.locks.now } in
    subst (λ (z : Statement). (next : IsNextOf g.D.Disk run opened c.args.store.now c.begun.new.store h c.args.s z 0) → c.args.stuck.now ≡ (state_now run next.mind).stuck → IsIdleFor z (IsIdleIn run next.mind c.args.s) → TurnOfAct next now c.begun.result) (sym c.in-Begin.is)
    (λ next stuck idle. c.begun.ensures.told run opened c.args.locks.now tells sound next idle)

pub returns-in-Commit-clause-told : goal.returns-in-Commit-clause-told
returns-in-Commit-clause-told g c = λ run opened tells sound.
    let h : SessionsHeld = record { txns = c.args.txns.now; locks = c.args.locks.now } in
    let now : SessionsHeld = record { txns = c.asked.new.txns; locks = c.asked.new.locks } in
    subst (λ (z : Statement). (next : IsNextOf g.D.Disk run opened c.args.store.now c.asked.new.store h c.args.s z 0) → c.args.stuck.now ≡ (state_now run next.mind).stuck → IsIdleFor z (IsIdleIn run next.mind c.args.s) → TurnOfAct next now c.asked.result) (sym c.in-Commit.is)
    (λ next stuck idle. c.asked.ensures.told run opened tells sound next idle)

pub returns-in-Rollback-clause-told : goal.returns-in-Rollback-clause-told
returns-in-Rollback-clause-told g c = λ run opened tells sound.
    let h : SessionsHeld = record { txns = c.args.txns.now; locks = c.args.locks.now } in
    let now : SessionsHeld = record { txns = c.rolled_back.new.txns; locks = c.rolled_back.new.locks } in
    subst (λ (z : Statement). (next : IsNextOf g.D.Disk run opened c.args.store.now c.rolled_back.new.store h c.args.s z 0) → c.args.stuck.now ≡ (state_now run next.mind).stuck → IsIdleFor z (IsIdleIn run next.mind c.args.s) → TurnOfAct next now c.rolled_back.result) (sym c.in-Rollback.is)
    (λ next stuck idle. c.rolled_back.ensures.told run opened tells sound next)

pub returns-in-Select-clause-told : goal.returns-in-Select-clause-told
returns-in-Select-clause-told g c = λ run opened tells sound next stuck idle.
    c.rows_read.ensures.told run opened tells sound next stuck (idle_as c.args.statement.now (st.Select c.in-Select.table c.in-Select.at) c.in-Select.is (λ i. i) idle)

pub returns-in-Insert-clause-told : goal.returns-in-Insert-clause-told
returns-in-Insert-clause-told g c = λ run opened tells sound next stuck idle.
    c.row_locked.ensures.told run opened tells sound next stuck
    (⊎_elim
    (λ l. idle_as c.args.statement.now (st.Insert l.0 l.1) l.2 (λ i. i) idle)
    (λ r. ⊎_elim
    (λ l. idle_as c.args.statement.now (st.Update l.0 l.1 l.2) l.3 (λ i. i) idle)
    (λ l. idle_as c.args.statement.now (st.Delete l.0 l.1) l.2 (λ i. i) idle)
    r)
    c.in-Insert.is)

pub returns-in-Create-clause-told : goal.returns-in-Create-clause-told
returns-in-Create-clause-told g c = λ run opened tells sound next stuck idle.
    c.table_locked.ensures.told run opened tells sound next stuck
    (⊎_elim
    (λ l. idle_as c.args.statement.now (st.Create l.0 l.1) l.2 (λ i. i) idle)
    (λ l. idle_as c.args.statement.now (st.DropTable l.0) l.1 (λ i. i) idle)
    c.in-Create.is)

-- ---- a ROLLBACK

pub returns-in-Rollback-clause-rolls : goal.returns-in-Rollback-clause-rolls
returns-in-Rollback-clause-rolls g c = λ run opened tells sound.
    let a = c.args.store.now in
    let b = c.rolled_back.new.store in
    let old = c.args.txns.now in
    let h : SessionsHeld = record { txns = old; locks = c.args.locks.now } in
    subst (λ (z : Statement). IsNextOf g.D.Disk run opened a b h c.args.s z 0 → z ≡ st.Rollback → IsWriting c.args.s old → IfOk c.rolled_back.result (RollsAct (number_drawn c.args.s old) a b)) (sym c.in-Rollback.is)
    (λ next is writing. c.rolled_back.ensures.rolls run opened tells sound next writing)

pub returns-in-Begin-clause-rolls : goal.returns-in-Begin-clause-rolls
returns-in-Begin-clause-rolls g c = λ run opened tells sound next is writing. absurd (let other = sym c.in-Begin.is ∙ is in cc other)

pub returns-in-Commit-clause-rolls : goal.returns-in-Commit-clause-rolls
returns-in-Commit-clause-rolls g c = λ run opened tells sound next is writing. absurd (let other = sym c.in-Commit.is ∙ is in cc other)

pub returns-in-Select-clause-rolls : goal.returns-in-Select-clause-rolls
returns-in-Select-clause-rolls g c = λ run opened tells sound next is writing. absurd (let other = sym c.in-Select.is ∙ is in cc other)

pub returns-in-Insert-clause-rolls : goal.returns-in-Insert-clause-rolls
returns-in-Insert-clause-rolls g c = λ run opened tells sound next is writing. absurd
    (⊎_elim
    (λ l. let other = sym l.2 ∙ is in cc other)
    (λ r. ⊎_elim
    (λ l. let other = sym l.3 ∙ is in cc other)
    (λ l. let other = sym l.2 ∙ is in cc other)
    r)
    c.in-Insert.is)

pub returns-in-Create-clause-rolls : goal.returns-in-Create-clause-rolls
returns-in-Create-clause-rolls g c = λ run opened tells sound next is writing. absurd
    (⊎_elim
    (λ l. let other = sym l.2 ∙ is in cc other)
    (λ l. let other = sym l.1 ∙ is in cc other)
    c.in-Create.is)
