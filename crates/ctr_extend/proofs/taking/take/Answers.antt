use Rattle.std.proofs.Common.{◌/◌, ℕ, ◌<◌, [], ◌∷◌, Err, refl, sym, ap, subst}
use Rattle.ctr_meta.specs.Tables.{Tables}
use Rattle.ctr_undamaged.specs.record_effects_Changing.{alloc_record, laid_at}
use Rattle.ctr_page_turns.specs.actions_Sites.{site_of}
use Rattle.ctr_page_turns.specs.actions_Actions.{Allocates, site_after}
use Rattle.ctr_stops.specs.actions_Facts.{HasPage, HasNoPageBut}
use Rattle.ctr_page_turns.specs.Turns.{LogsARecord}
use Rattle.ctr_extend.specs.declared.ways.OnWay.TheVariants.{Taken}
use Rattle.ctr_extend.specs.declared.ways.Extended.TheVariants.{On}
use Rattle.ctr_extend.proofs.Steps.{moved}
use Rattle.ctr_extend.proofs.taking.take.Goals as goal

pub returns-in-Ok-clause-turns : goal.returns-in-Ok-clause-turns
returns-in-Ok-clause-turns g c =
    let one = c.in-Ok.ensures.one in
    c.a_turn_goes_on.ensures.answered g.O.Origin.first c.args.store.now c.alloc.new.store tt (On (Taken c.args.p)) (LogsARecord (alloc_record c.args.x c.args.p one.0, one.1))

pub returns-in-Err-clause-turns : goal.returns-in-Err-clause-turns
returns-in-Err-clause-turns g c =
    let one = c.in-Err.ensures.one in
    c.a_turn_goes_on.ensures.failed g.O.Origin.first c.args.store.now c.alloc.new.store c.in-Err.fault (Err c.in-Err.fault) (Err c.in-Err.fault) (LogsARecord (alloc_record c.args.x c.args.p one.0, one.1)) refl refl

pub returns-in-Ok-clause-inside : goal.returns-in-Ok-clause-inside
returns-in-Ok-clause-inside g c = (c.requires.counted.0, subst (λ (n : ℕ). c.args.p < n) (sym c.in-Ok.ensures.one.1.takes.counted) c.requires.counted.1)

pub returns-in-Ok-clause-left : goal.returns-in-Ok-clause-left
returns-in-Ok-clause-left g c =
    let takes = c.in-Ok.ensures.one.1.takes in
    (takes.left, ap (λ (t : Tables). t.next) takes.tables)

pub returns-in-Ok-clause-numbers : goal.returns-in-Ok-clause-numbers
returns-in-Ok-clause-numbers g c = c.in-Ok.ensures.one.1.takes.next

pub returns-in-Ok-clause-steps : goal.returns-in-Ok-clause-steps
returns-in-Ok-clause-steps g c = λ chain told sound may next.
    let x = c.args.x in
    let p = c.args.p in
    let v = c.args.store.now in
    let w = c.alloc.new.store in
    let one = c.in-Ok.ensures.one in
    let leaves = c.in-Ok.ensures.leaves told sound in
    let laws = c.an_action_gives_its_fact.ensures in
    record {
      acts = c.a_record_acts.ensures x (Allocates p) (alloc_record x p one.0) v w (one.1.logs told sound)
          (record { is_open = may.is_open; behind_catalog = next.0.0; inside = next.1; free = next.0.1 })
          leaves (c.pages_lie_as_their_actions.ensures.allocates v.now x p one.0 (c.in-Ok.ensures.whole told sound), tt);
      lowest = next.2;
      on_way = record {
        holds = (
          moved x (HasPage p) (site_after x (Allocates p) (site_of v.now)) (site_of w.now) leaves (laws.allocated x p (site_of v.now)),
          (
            moved x (HasNoPageBut (p ∷ [])) (site_after x (Allocates p) (site_of v.now)) (site_of w.now) leaves (laws.more x p [] (site_of v.now) may.on_way.holds.0),
            tt,
          ),
        );
        blank = tt;
      };
    }

pub returns-in-Err-clause-refused : goal.returns-in-Err-clause-refused
returns-in-Err-clause-refused g c = λ chain told sound may next.
    let v = c.args.store.now in
    c.a_record_is_refused_by_the_disk_alone.ensures c.args.x (Allocates c.args.p) (laid_at 0 (c.args.p / 8) (c.in-Err.ensures.one.0 ∷ [])) v c.alloc.new.store (Err c.in-Err.fault) may.sound (record { is_open = may.is_open; behind_catalog = next.0.0; inside = next.1; free = next.0.1 })
    (c.meta-tables.ensures.now told sound c.requires.room.going) (c.in-Err.ensures.one.1.refused told sound)
