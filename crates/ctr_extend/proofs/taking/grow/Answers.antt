use Rattle.std.proofs.Common.{◌<◌, [], Ok, Err, refl, sym, ap, subst}
use Rattle.ctr_base.specs.redo_States.{State, grown}
use Rattle.ctr_stops.specs.store_Store.{View}
use Rattle.ctr_page_turns.specs.actions_Sites.{site_of}
use Rattle.ctr_stops.specs.actions_Facts.{HasNoPageBut, HoldsFact}
use Rattle.ctr_extend.specs.declared.ways.Extended.TheVariants.{Grown}
use Rattle.ctr_extend.proofs.Steps.{counts_more}
use Rattle.ctr_extend.proofs.taking.grow.Goals as goal

pub returns-in-Ok-clause-turns : goal.returns-in-Ok-clause-turns
returns-in-Ok-clause-turns g c = λ a next read.
    let e = c.in-Ok.ensures in
    let w = c.grow_extent.new.self in
    c.a_turn_goes_on-2.ensures.answered g.O.Origin.first a w tt Grown
    (c.a_turn_goes_on.ensures.grown g.O.Origin.first a c.args.store.now w next (Ok tt) read
    (λ told sound. c.rests.ensures told sound c.requires.going) (record { few = c.requires.few; any_moment = e.any_moment; grows = e.grows; counts = e.counts; refused = e.refused; faults = e.faults }))

pub returns-in-Err-clause-turns : goal.returns-in-Err-clause-turns
returns-in-Err-clause-turns g c = λ a next read.
    let e = c.in-Err.ensures in
    let w = c.grow_extent.new.self in
    c.a_turn_goes_on-2.ensures.failed g.O.Origin.first a w c.in-Err.fault (Err c.in-Err.fault) (Err c.in-Err.fault)
    (c.a_turn_goes_on.ensures.grown g.O.Origin.first a c.args.store.now w next (Err c.in-Err.fault) read
    (λ told sound. c.rests.ensures told sound c.requires.going) (record { few = c.requires.few; any_moment = e.any_moment; grows = e.grows; counts = e.counts; refused = e.refused; faults = e.faults })) refl refl

pub returns-in-Ok-clause-left : goal.returns-in-Ok-clause-left
returns-in-Ok-clause-left g c = (refl, ap (λ (v : View g.row.D.Denot). v.meta) c.in-Ok.ensures.counts.same)

pub returns-in-Ok-clause-numbers : goal.returns-in-Ok-clause-numbers
returns-in-Ok-clause-numbers g c = (
  ap (λ (v : View g.row.D.Denot). v.next) c.in-Ok.ensures.counts.same,
  subst (λ n. c.args.store.now.now.counted < n) (sym c.in-Ok.ensures.counts.counted) (counts_more c.args.store.now.now.counted c.requires.few),
)

pub returns-in-Ok-clause-steps : goal.returns-in-Ok-clause-steps
returns-in-Ok-clause-steps g c = λ x chain told sound may next.
    let s = c.args.store.now.now in
    let now = (c.in-Ok.ensures.grows told sound).now in
    record {
      none = next.0;
      few = next.1;
      grows = now;
      on_way = record {
        holds = (subst (λ (t : State). HoldsFact x (HasNoPageBut []) (site_of t)) (sym now) (c.growth_keeps_a_site.ensures.held x (HasNoPageBut []) (site_of s) (grown s.counted) may.on_way.holds.0), tt);
        blank = tt;
      };
    }
