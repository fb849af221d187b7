-- Sessions in a World, once one of them has told an act, or none has.
use Rattle.std.proofs.Common.{◌≡◌, ℕ, ◌==◌, false, List, [], ◌∷◌, ◌++◌, Some, refl, sym, ◌∙◌, ap, subst}
use Rattle.ctr_types.specs.declared.statement.Statement.{Statement}
use Rattle.ctr_types.specs.declared.statement.Statement.TheVariants as st
use Rattle.ctr_types.specs.declared.tape.Entry.{Entry}
use Rattle.ctr_model.specs.declared.state.State.{State}
use Rattle.ctr_model.specs.declared.tape.Point.{Point}
use Rattle.ctr_model.specs.Database.{Database, table_at}
use Rattle.ctr_model.specs.Laws.{IsSoundState, OthersOnly, SnapshotsStay}
use Rattle.ctr_model.specs.State.{transaction_of, view}
use Rattle.ctr_model.specs.Tape.{progress_of, statement_of, passed, final}
use Rattle.ctr_legal.proofs.Reached.{final_push}
use Rattle.ctr_legal.proofs.Tapes.{final_append}
use Rattle.ctr_actions.specs.Facts.{Fact}
use Rattle.ctr_control.specs.kept_Turns.{Start, point_now, start_point, state_now}
use Rattle.ctr_control.specs.kept_Walk.{Mind}
use Rattle.ctr_control.specs.ctr_writing.ctr_looks.Locking.{IsCountedTable}
use Rattle.ctr_control.specs.ctr_session_world.Told.{CountsOnTables, IsIdleBy, IsIdleIn}
use Rattle.ctr_control.specs.ctr_writing.ctr_looks.ctr_write.declared.stages.Stage.{Stage as WriteStage}
use Rattle.ctr_control.specs.ctr_writing.ctr_looks.ctr_wishes.declared.making.Prepared.{Prepared}
use Rattle.ctr_control.specs.ctr_writing.ctr_looks.declared.tables.TableWrite.{TableWrite}
use Rattle.ctr_control.specs.ctr_writing.Rows.{IsAtRow}
use Rattle.ctr_control.specs.ctr_writing.Tables.{IsAtTableWrite}
use Rattle.ctr_exec.specs.declared.runners.Runner.{Runner}
use Rattle.ctr_exec.specs.declared.runners.Stage.{Stage}
use Rattle.ctr_exec.specs.declared.runners.Stage.TheVariants as stage
use Rattle.ctr_exec.specs.Acting.{IsMidway, IsIdleFor}
use Rattle.ctr_exec.specs.Sessions.{IsSeatedAt}
use Rattle.ctr_exec.proofs.Points.{others_stay, progress_other, state_is}

-- what a session counts on of its row's Write stays, whatever others do
abbrev pub RowsStay : Type 0
RowsStay = (c : Start) (s : ℕ) (statement : Statement) (w v : Mind) (e : ℕ) (p : Prepared) (at : WriteStage) (es : List Entry) → IsSoundState (state_now c w) → OthersOnly s es
    → v.tape ≡ w.tape ++ es → v.facts s ≡ w.facts s → IsAtRow c s statement w e p at → IsAtRow c s statement v e p at

-- what is idle for any statement is so for this one
pub idle_for : {X : Type 0} (statement : Statement) → X → IsIdleFor statement X
idle_for st.Begin x = x
idle_for st.Commit x = x
idle_for st.Rollback x = tt
idle_for (st.Create table schema) x = x
idle_for (st.DropTable table) x = x
idle_for (st.Insert table values) x = x
idle_for (st.Select table at) x = x
idle_for (st.Update table sets at) x = x
idle_for (st.Delete table at) x = x

pub idle_map : {X Y : Type 0} (statement : Statement) → (X → Y) → IsIdleFor statement X → IsIdleFor statement Y
idle_map st.Begin f x = f x
idle_map st.Commit f x = f x
idle_map st.Rollback f x = tt
idle_map (st.Create table schema) f x = f x
idle_map (st.DropTable table) f x = f x
idle_map (st.Insert table values) f x = f x
idle_map (st.Select table at) f x = f x
idle_map (st.Update table sets at) f x = f x
idle_map (st.Delete table at) f x = f x

module _ (c : Start) (q : ℕ) (w v : Mind) (es : List Entry) (longer : v.tape ≡ w.tape ++ es) (others : OthersOnly q es) (sound : IsSoundState (state_now c w)) (facts : v.facts q ≡ w.facts q)
    (same : transaction_of (state_now c v) q ≡ transaction_of (state_now c w) q) (rows : RowsStay) (views : SnapshotsStay) where
  now : point_now c v ≡ final c.lines (point_now c w) es
  now = ap (final c.lines (start_point c)) longer ∙ final_append c.lines (start_point c) w.tape es

  idle_still : IsIdleIn c w q → IsIdleIn c v q
  idle_still idle = subst (λ o. IsIdleBy o (v.facts q)) (sym same) (subst (IsIdleBy (transaction_of (state_now c w) q)) (sym facts) idle)

  table_still : (statement : Statement) (write : TableWrite) → IsAtTableWrite c q statement w write → IsAtTableWrite c q statement v write
  table_still statement write is =
      let may = is.may in
      let stays = views c.lines (point_now c w) es q may.t sound may.is_t others in
      record {
        may = record {
          t = may.t;
          is_t = same ∙ may.is_t;
          name = may.name;
          named = may.named;
          schema = may.schema;
          holds = may.holds;
          is = may.is;
          makes = λ make. ap (λ (p : Point). table_at (view p.state may.t) may.name) now ∙ ap (λ (d : Database). table_at d may.name) stays.sees ∙ may.makes make;
          drops = λ e drop. subst (λ (fs : List Fact). IsCountedTable e may.name fs) (sym facts) (may.drops e drop);
        };
        counts = subst CountsOnTables (sym facts) is.counts;
      }

  -- in the middle of its statement a session is where it was, whatever others tell
  pub stage_still : (statement : Statement) (g : Stage) → IsMidway c q statement w g → IsMidway c q statement v g
  stage_still statement stage.Between is = idle_map statement idle_still is
  stage_still statement (stage.Row e prepared at) is = rows c q statement w v e prepared at es sound others longer facts is
  stage_still statement (stage.Table write) is = table_still statement write is
  stage_still statement stage.Asked is = tt

  -- and so it is seated where it was
  pub seat_still : (r : Runner) → progress_of (point_now c v) q ≡ progress_of (point_now c w) q → IsSeatedAt c w q r → IsSeatedAt c v q r
  seat_still r progress is = record {
    progress = progress ∙ is.progress;
    at = λ statement there. stage_still statement r.stage (is.at statement there);
  }

-- ---- by what a turn adds to the tape

module _ (c : Start) (w v : Mind) (s : ℕ) (sound : IsSoundState (state_now c w)) (facts : (q : ℕ) → (q == s) ≡ false → v.facts q ≡ w.facts q) (rows : RowsStay) (views : SnapshotsStay) where
  -- nothing
  module _ (longer : v.tape ≡ w.tape) where
    pub same_point : point_now c v ≡ point_now c w
    same_point = ap (final c.lines (start_point c)) longer

    pub others_kept : (q : ℕ) (r : Runner) → (q == s) ≡ false → IsSeatedAt c w q r → IsSeatedAt c v q r
    others_kept q r two is =
        seat_still c q w v [] (longer ∙ sym (append_none w.tape)) tt sound (facts q two) (ap (λ (p : Point). transaction_of p.state q) same_point) rows views r (ap (λ (p : Point). progress_of p q) same_point) is
      where
        append_none : (es : List Entry) → es ++ [] ≡ es
        append_none [] = refl
        append_none (x ∷ xs) = ap (λ l. x ∷ l) (append_none xs)

  -- an entry of the session
  module _ (e : Entry) (longer : v.tape ≡ w.tape ++ e ∷ []) (its : e.session ≡ s) (statement : Statement) (is_it : statement_of c.lines e.session e.statement ≡ Some statement) where
    pub next_point : point_now c v ≡ passed c.lines (point_now c w) e
    next_point = ap (final c.lines (start_point c)) longer ∙ final_push c.lines (start_point c) w.tape e

    away : (q : ℕ) → (q == s) ≡ false → (q == e.session) ≡ false
    away q two = subst (λ n. (q == n) ≡ false) (sym its) two

    pub others_told : (q : ℕ) (r : Runner) → (q == s) ≡ false → IsSeatedAt c w q r → IsSeatedAt c v q r
    others_told q r two is =
        seat_still c q w v (e ∷ []) longer (away q two, tt) sound (facts q two)
        (ap (λ (p : Point). transaction_of p.state q) next_point ∙ ap (λ (z : State). transaction_of z q) (state_is c.lines (point_now c w) e statement is_it)
        ∙ others_stay (state_now c w) q e.session (away q two) e.act (Some statement) e.reply)
        rows views r
        (ap (λ (p : Point). progress_of p q) next_point ∙ progress_other c.lines (point_now c w) e statement is_it q (away q two)) is
