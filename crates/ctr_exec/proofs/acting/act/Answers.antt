use Rattle.std.proofs.Common.{◌≡◌, true, sym, ◌∙◌, ap, subst}
use Rattle.std.specs.Prelude.{IfOk, is_some}
use Rattle.std.proofs.lemmas.Bool.{false≢true}
use Rattle.ctr_types.specs.declared.statement.Statement.TheVariants as st
use Rattle.ctr_model.specs.Refusals.{changes_schema, key_written}
use Rattle.ctr_control.specs.txn_Held.{IsWriting, number_drawn}
use Rattle.ctr_control.specs.kept_Turns.{state_now}
use Rattle.ctr_control.specs.ctr_session_world.Told.{IsNextOf}
use Rattle.ctr_control.specs.ctr_session_world.World.{SessionsHeld}
use Rattle.ctr_exec.specs.declared.runners.Stage.{Stage}
use Rattle.ctr_exec.specs.Acting.{IsMidway, MayAct, RollsAct, TurnOfAct}
use Rattle.ctr_exec.specs.Runners.{made_at}
use Rattle.ctr_exec.proofs.acting.act.Goals as goal

pub returns-in-Row-clause-told : goal.returns-in-Row-clause-told
returns-in-Row-clause-told g c = λ run opened tells sound.
    let h : SessionsHeld = record { txns = c.args.txns.now; locks = c.args.locks.now } in
    let now : SessionsHeld = record { txns = c.row_written.new.txns; locks = c.args.locks.now } in
    subst (λ (z : Stage). (next : IsNextOf g.D.Disk run opened c.args.store.now c.row_written.new.store h c.args.s c.args.statement.now (made_at z)) → c.args.stuck.now ≡ (state_now run next.mind).stuck → IsMidway run c.args.s c.args.statement.now next.mind z → TurnOfAct next now c.row_written.result) (sym c.in-Row.is)
    (λ next stuck at. c.row_written.ensures.told run opened c.args.locks.now tells sound next at)

pub returns-in-Table-clause-told : goal.returns-in-Table-clause-told
returns-in-Table-clause-told g c = λ run opened tells sound.
    let h : SessionsHeld = record { txns = c.args.txns.now; locks = c.args.locks.now } in
    let now : SessionsHeld = record { txns = c.table_written.new.txns; locks = c.args.locks.now } in
    subst (λ (z : Stage). (next : IsNextOf g.D.Disk run opened c.args.store.now c.table_written.new.store h c.args.s c.args.statement.now (made_at z)) → c.args.stuck.now ≡ (state_now run next.mind).stuck → IsMidway run c.args.s c.args.statement.now next.mind z → TurnOfAct next now c.table_written.result) (sym c.in-Table.is)
    (λ next stuck at. c.table_written.ensures.told run opened c.args.locks.now tells sound next at)

pub returns-in-Between-clause-told : goal.returns-in-Between-clause-told
returns-in-Between-clause-told g c = λ run opened tells sound.
    let h : SessionsHeld = record { txns = c.args.txns.now; locks = c.args.locks.now } in
    let now : SessionsHeld = record { txns = c.first.new.txns; locks = c.first.new.locks } in
    subst (λ (z : Stage). (next : IsNextOf g.D.Disk run opened c.args.store.now c.first.new.store h c.args.s c.args.statement.now (made_at z)) → c.args.stuck.now ≡ (state_now run next.mind).stuck → IsMidway run c.args.s c.args.statement.now next.mind z → TurnOfAct next now c.first.result) (sym c.in-Between.is)
    (λ next stuck at. c.first.ensures.told run opened tells sound next stuck at)

-- ---- a ROLLBACK, which is no Write

pub returns-in-Row-clause-rolls : goal.returns-in-Row-clause-rolls
returns-in-Row-clause-rolls g c = λ run opened tells sound next is writing.
    let may = subst (λ (z : Stage). MayAct z c.args.s c.args.statement.now c.args.txns.now c.args.store.now.now.counted) c.in-Row.is c.requires.at.0 in
    absurd (false≢true (ap (λ z. is_some (key_written z)) (sym is) ∙ may.0))

pub returns-in-Table-clause-rolls : goal.returns-in-Table-clause-rolls
returns-in-Table-clause-rolls g c = λ run opened tells sound next is writing.
    let may = subst (λ (z : Stage). MayAct z c.args.s c.args.statement.now c.args.txns.now c.args.store.now.now.counted) c.in-Table.is c.requires.at.0 in
    absurd (false≢true (ap changes_schema (sym is) ∙ may.0))

pub returns-in-Between-clause-rolls : goal.returns-in-Between-clause-rolls
returns-in-Between-clause-rolls g c = λ run opened tells sound.
    let a = c.args.store.now in
    let b = c.first.new.store in
    let old = c.args.txns.now in
    let h : SessionsHeld = record { txns = old; locks = c.args.locks.now } in
    subst (λ (z : Stage). IsNextOf g.D.Disk run opened a b h c.args.s c.args.statement.now (made_at z) → c.args.statement.now ≡ st.Rollback → IsWriting c.args.s old → IfOk c.first.result (RollsAct (number_drawn c.args.s old) a b)) (sym c.in-Between.is)
    (λ next is writing. c.first.ensures.rolls run opened tells sound next is writing)
