use Rattle.std.proofs.Common.{◌≡◌, Some, sym, ◌∙◌, ap, subst}
use Rattle.ctr_model.specs.declared.tape.Point.{Point}
use Rattle.ctr_model.specs.declared.state.State.{State}
use Rattle.ctr_model.specs.State.{transaction_of, view}
use Rattle.ctr_model.specs.Tape.{final}
use Rattle.ctr_legal.proofs.Tapes.{final_append}
use Rattle.ctr_area.specs.Sound.{IsAmong}
use Rattle.ctr_looks.specs.actions_Facts.{HasTable}
use Rattle.ctr_looks.specs.kept_Turns.{point_now, start_point}
use Rattle.ctr_looks.specs.ctr_wishes.Models.{IsModels}
use Rattle.ctr_writing.specs.Rows.{CountsAt}
use Rattle.ctr_writing.proofs.laws.what_a_write_counts_on_stays.Goals as goal

pub returns : goal.returns
returns c = λ run s statement w v e p stage es sound others longer facts at.
    let may = at.may in
    let now = ap (final run.lines (start_point run)) longer ∙ final_append run.lines (start_point run) w.tape es in
    let state = sym (ap (λ (q : Point). q.state) now) in
    let stays = c.snapshots_stay.ensures run.lines (point_now run w) es s may.t sound may.is_t others in
    let models = c.what_is_prepared_stays_the_models.ensures.others run.lines (point_now run w) es s may.t may.title.columns statement p sound may.is_t others may.models in
    record {
      may = record {
        t = may.t;
        is_t = subst (λ (q : State). transaction_of q s ≡ Some may.t) state stays.transaction;
        title = may.title;
        key = may.key;
        named = may.named;
        written = may.written;
        lock = may.lock;
        counts = subst (λ fs. IsAmong (HasTable e may.title) fs) (sym facts) may.counts;
        models = subst (λ (q : State). IsModels (view q may.t) may.title.columns statement p) state models;
      };
      so_far = subst (CountsAt may.title e may.key p stage) (sym facts) at.so_far;
    }
