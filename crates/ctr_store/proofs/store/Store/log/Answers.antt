use Rattle.std.proofs.Common.{◌≡◌, ◌∙◌, ◌<◌, ◌≤◌, ◌-◌, ◌^◌, [], ◌∷◌, false, sym, ap, subst}
use Rattle.std.specs.Prelude.{IfOk, OnErr}
use Rattle.std.proofs.lemmas.Result.{on_ok_weaker, on_err_weaker}
use Rattle.ctr_types.specs.Faults.{HasFault}
use Rattle.ctr_disk.specs.declared.fault.StoreFault.TheVariants.{Fault}
use Rattle.ctr_store.specs.Store.{View, MayLog, LeavesFront, MovesOn, Logs, TakesRecord}
use Rattle.ctr_store.specs.StoreInside.{view_of}
use Rattle.ctr_store.proofs.BufferLaws.{buffer_behind, count_behind}
use Rattle.ctr_store.proofs.NumberLaws.{numbers_behind}
use Rattle.ctr_store.proofs.StoreLaws.{can_of, of_ok, rests_seen, front_seen, time_logged, logs_seen, takes_seen}
use Rattle.ctr_store.proofs.store.Store.log.Goals as goal

pub log-logged-requires-clause-can : goal.log-logged-requires-clause-can
log-logged-requires-clause-can g c = can_of g.D.Disk c.args.rec.now c.self.inside.parts c.self.inside.stopped c.self.invariant.buffer c.self.invariant.counted c.self.invariant.numbers (subst (λ (v : View g.row.D.Denot). MayLog c.args.rec.now v) (sym c.self.view_is) c.requires.may) c.in-Ok.ensures

pub returns-in-Err-clause-any_moment : goal.returns-in-Err-clause-any_moment
returns-in-Err-clause-any_moment g c told sound =
    let d = g.D.Disk in
    let a = c.self.inside in
    let going : a.stopped ≡ false = ap (λ (v : View g.row.D.Denot). v.stopped) c.self.view_is ∙ c.requires.may.going in
    let fold = c.self.invariant.fold told going in
    subst (λ (v : View g.row.D.Denot). LeavesFront d v v) c.self.view_is (rests_seen d g.O.Origin.first g.met.D.Disk.only_now a.parts a.stopped c.self.invariant.buffer fold sound)

pub returns-clause-any_moment : goal.returns-clause-any_moment
returns-clause-any_moment g c told sound =
    let a = c.self.inside in
    let shown = view_of g.D.Disk c.log-logged.new.self c.is_err-self-inside.result in
    subst (λ (v : View g.row.D.Denot). LeavesFront g.D.Disk v shown) c.self.view_is
    (front_seen g.D.Disk a.parts c.log-logged.new.self a.stopped c.is_err-self-inside.result c.self.invariant.buffer (c.log-logged.ensures.goes told sound))

pub returns-clause-counts : goal.returns-clause-counts
returns-clause-counts g c =
    let shown = view_of g.D.Disk c.log-logged.new.self c.is_err-self-inside.result in
    let e = c.log-logged.ensures in
    let Q : View g.row.D.Denot → Type 0 = λ v. MovesOn g.D.Disk v shown × HasFault Fault (g.D.Disk.faults_of v.disk) (g.D.Disk.faults_of shown.disk) c.log-logged.result in
    subst Q c.self.view_is
    (time_logged g.D.Disk c.args.rec.now c.self.inside.parts c.log-logged.new.self c.self.inside.stopped c.is_err-self-inside.result c.log-logged.result e.takes (on_err_weaker c.log-logged.result (λ k. k.0) e.keeps), e.faults)

pub invariant_of-self : goal.invariant_of-self
invariant_of-self g c =
    let s = c.self.inside.parts in
    let may = c.requires.may in
    let room = subst (λ (v : View g.row.D.Denot). 5000 ≤ v.room) (sym c.self.view_is) may.room in
    let e = c.log-logged.ensures in
    let keeps = on_err_weaker c.log-logged.result (λ k. k.0) e.keeps in
    record {
      fold = λ told going. (of_ok c.log-logged.result (sym c.is_err-self-inside.ensures.value ∙ going) (e.logs told)).1;
      recalls = λ told sound going.
          let went : c.self.inside.stopped ≡ false = ap (λ (v : View g.row.D.Denot). v.stopped) c.self.view_is ∙ may.going in
          (of_ok c.log-logged.result (sym c.is_err-self-inside.ensures.value ∙ going) (e.logs told)).2 sound (c.self.invariant.recalls told sound went);
      buffer = buffer_behind g.D.Disk c.args.rec.now s c.log-logged.new.self c.log-logged.result may.logged.record_is may.change room c.self.invariant.buffer e.takes keeps;
      counted = count_behind g.D.Disk c.args.rec.now s c.log-logged.new.self c.log-logged.result c.self.invariant.counted e.takes keeps;
      numbers = numbers_behind g.D.Disk c.args.rec.now s c.log-logged.new.self c.log-logged.result may.logged may.change (subst (λ (v : View g.row.D.Denot). v.next < 2 ^ 63 - 1) (sym c.self.view_is) may.number) c.self.invariant.numbers e.takes e.keeps;
    }

pub returns-clause-takes : goal.returns-clause-takes
returns-clause-takes g c =
    let r = c.args.rec.now in
    let shown = view_of g.D.Disk c.log-logged.new.self c.is_err-self-inside.result in
    subst (λ (v : View g.row.D.Denot). IfOk c.log-logged.result (λ lsn. TakesRecord r lsn v shown)) c.self.view_is
    (takes_seen g.D.Disk r c.self.inside.parts c.log-logged.new.self c.self.inside.stopped c.is_err-self-inside.result c.log-logged.result c.log-logged.ensures.takes)

pub returns-clause-untaken : goal.returns-clause-untaken
returns-clause-untaken g c =
    let shown = view_of g.D.Disk c.log-logged.new.self c.is_err-self-inside.result in
    subst (λ (v : View g.row.D.Denot). OnErr c.log-logged.result (shown.gate ≡ v.gate)) c.self.view_is (on_err_weaker c.log-logged.result (λ kept. kept.0.ends) c.log-logged.ensures.keeps)

pub returns-clause-logs : goal.returns-clause-logs
returns-clause-logs g c told sound =
    let r = c.args.rec.now in
    let shown = view_of g.D.Disk c.log-logged.new.self c.is_err-self-inside.result in
    on_ok_weaker c.log-logged.result
    (λ both.
    subst (λ (v : View g.row.D.Denot). Logs (r ∷ []) v shown) c.self.view_is
    (logs_seen g.D.Disk r c.self.inside.parts c.log-logged.new.self c.self.inside.stopped c.is_err-self-inside.result (both.0 sound)))
    (c.log-logged.ensures.logs told)
