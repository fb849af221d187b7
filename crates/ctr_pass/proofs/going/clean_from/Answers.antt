use Rattle.std.proofs.Common.{Ok, Err, refl, sym, ◌∙◌, ap, subst}
use Rattle.ctr_walk.specs.redo_States.{State}
use Rattle.ctr_walk.specs.record_effects_Standing.{IsDatabaseState}
use Rattle.ctr_actions.specs.Sites.{site_of}
use Rattle.ctr_cleaner.specs.cursor_Standing.{IsPosition}
use Rattle.ctr_cleaner.specs.Turning.{heeding, TurnsAt, next_cleaned, LeavesRoomBy}
use Rattle.ctr_pass.proofs.going.clean_from.Goals as goal

pub returns-in-Err-clause-turns : goal.returns-in-Err-clause-turns
returns-in-Err-clause-turns g c = c.a_turn_goes_on.ensures.unread g.O.Origin.first c.args.store.now c.place_for.new.store c.in-Err.fault c.place_for.result (Err c.in-Err.fault) c.place_for.ensures.leaves c.in-Err.is refl

pub returns-in-Err-turn-clause-turns : goal.returns-in-Err-turn-clause-turns
returns-in-Err-turn-clause-turns g c =
    let first = g.O.Origin.first in
    let mid = c.place_for.new.store in
    let new = c.turn.new.store in
    let fault = c.in-Err-turn.fault in
    c.a_turn_goes_on.ensures.behind first c.args.store.now mid new c.in-Ok.from (Err fault) c.in-Ok.ensures.leaves
    (c.a_turn_goes_on-2.ensures.failed first mid new fault c.turn.result (Err fault) c.turn.ensures.turns c.in-Err-turn.is refl)

pub returns-in-Err-turn-clause-refused : goal.returns-in-Err-turn-clause-refused
returns-in-Err-turn-clause-refused g c = λ told sound database stands.
    let same = (c.in-Ok.ensures.leaves.logs told sound).now in
    c.in-Err-turn.ensures.refused told sound (subst IsDatabaseState (sym same) database)
    (subst (λ (u : State). IsPosition c.in-Ok.from (site_of u)) (sym same) (c.in-Ok.ensures.there told sound database stands))

pub returns-in-Ok-turn-clause-turns : goal.returns-in-Ok-turn-clause-turns
returns-in-Ok-turn-clause-turns g c =
    let first = g.O.Origin.first in
    let mid = c.place_for.new.store in
    let new = c.turn.new.store in
    c.a_turn_goes_on.ensures.behind first c.args.store.now mid new c.in-Ok.from (Ok _) c.in-Ok.ensures.leaves
    (c.a_turn_goes_on-2.ensures.answered first mid new c.in-Ok-turn.did _ c.in-Ok-turn.ensures.turns)

pub returns-in-Ok-turn-clause-cleans : goal.returns-in-Ok-turn-clause-cleans
returns-in-Ok-turn-clause-cleans g c = λ told sound database stands.
    let same = (c.in-Ok.ensures.leaves.logs told sound).now in
    let there = c.in-Ok.ensures.there told sound database stands in
    let a = c.args in (
      there,
      subst (λ (u : State). TurnsAt (heeding a.low a.locks.now a.spared a.may) c.in-Ok.from u c.turn.new.store.now c.in-Ok-turn.did) same
          (c.in-Ok-turn.ensures.cleans told sound (subst IsDatabaseState (sym same) database) (subst (λ (u : State). IsPosition c.in-Ok.from (site_of u)) (sym same) there)),
    )

pub returns-in-Ok-turn-clause-counts : goal.returns-in-Ok-turn-clause-counts
returns-in-Ok-turn-clause-counts g c =
    let does = c.in-Ok-turn.ensures.counts in
    let keeps = c.in-Ok.ensures.leaves.keeps in
    record {
      numbers = does.numbers ∙ ap (next_cleaned c.in-Ok-turn.did) keeps.next;
      room = subst (λ m. LeavesRoomBy c.in-Ok-turn.did m c.turn.new.store.meta) keeps.meta does.room;
      counted = does.counted ∙ keeps.counted;
      within = does.within;
    }
