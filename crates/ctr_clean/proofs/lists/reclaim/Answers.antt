use Rattle.std.proofs.Common.{◌+◌, Err, List, drop, length, refl, sym, ◌∙◌, ap, subst}
use Rattle.ctr_rec.specs.declared.record.SlogItem.{SlogItem}
use Rattle.ctr_rec.specs.declared.record.SlogItem.TheVariants.{FreeOf}
use Rattle.ctr_record_effects.specs.Changing.{free_record}
use Rattle.ctr_meta.specs.declared.items.Wanted.TheVariants.{OfPage}
use Rattle.ctr_meta.specs.Kept.{TablesKept}
use Rattle.ctr_meta.specs.Tables.{Tables}
use Rattle.ctr_area.specs.Sound.{IsAmong}
use Rattle.ctr_actions.specs.Actions.{Reclaims}
use Rattle.ctr_dead.specs.page_turns_Turns.{Reads, LogsARecord}
use Rattle.ctr_clean.specs.declared.steps.Step.TheVariants.{Nothing}
use Rattle.ctr_clean.proofs.Listed.{among_behind}
use Rattle.ctr_clean.proofs.Resting.{rests_read}
use Rattle.ctr_clean.proofs.lists.reclaim.Goals as goal

pub returns-in-None-clause-turns : goal.returns-in-None-clause-turns
returns-in-None-clause-turns g c = Reads (rests_read g.O.Origin.first g.D.Disk c.args.store.now Nothing (λ told sound. c.rests.ensures told sound c.requires.room.going) c.requires.room.going)

pub returns-in-None-clause-cleans : goal.returns-in-None-clause-cleans
returns-in-None-clause-cleans g c = λ low locks told sound database. (
  refl,
  λ p in_.
      c.in-None.ensures.none refl p
      (subst (λ (items : List SlogItem). IsAmong (FreeOf p) (drop c.args.spared items))
      (sym (c.items.ensures.items ∙ ap (λ (m : TablesKept). m.tables.items) c.meta.ensures.tables ∙ ap (λ (t : Tables). t.items) (c.meta.ensures.now told sound c.requires.room.going))) in_),
)

pub returns-in-Err-clause-turns : goal.returns-in-Err-clause-turns
returns-in-Err-clause-turns g c =
    let fault = c.in-Err.fault in
    c.a_turn_goes_on.ensures.failed g.O.Origin.first c.args.store.now c.give_back.new.store fault c.give_back.result (Err fault) (LogsARecord (free_record c.in-Some.p c.give_back.ensures.one.0, c.give_back.ensures.one.1)) c.in-Err.is refl

pub returns-in-Err-clause-refused : goal.returns-in-Err-clause-refused
returns-in-Err-clause-refused g c = λ told sound database.
    let s = c.args.store.now.now in
    let p = c.in-Some.p in
    let same = c.items.ensures.items ∙ ap (λ (m : TablesKept). m.tables.items) c.meta.ensures.tables ∙ ap (λ (t : Tables). t.items) (c.meta.ensures.now told sound c.requires.room.going) in
    c.in-Err.ensures.refused told sound database
    (among_behind (FreeOf p) c.args.spared s.tables.items (subst (λ (items : List SlogItem). IsAmong (FreeOf p) (drop c.args.spared items)) same c.in-Some.ensures.found))

pub returns-in-Ok-clause-takes : goal.returns-in-Ok-clause-takes
returns-in-Ok-clause-takes g c =
    let one = c.in-Ok.ensures.one.1 in
    ap (λ (t : Tables). length t.items + 1) one.takes.tables ∙ c.an_item_goes.ensures (OfPage c.in-Some.p) c.args.store.now.meta.tables one.fits

pub returns-in-Ok-clause-cleans : goal.returns-in-Ok-clause-cleans
returns-in-Ok-clause-cleans g c = λ low locks told sound database.
    let s = c.args.store.now.now in
    let p = c.in-Some.p in
    let same = c.items.ensures.items ∙ ap (λ (m : TablesKept). m.tables.items) c.meta.ensures.tables ∙ ap (λ (t : Tables). t.items) (c.meta.ensures.now told sound c.requires.room.going) in
    let behind : IsAmong (FreeOf p) (drop c.args.spared s.tables.items) = subst (λ (items : List SlogItem). IsAmong (FreeOf p) (drop c.args.spared items)) same c.in-Some.ensures.found in
    let among = among_behind (FreeOf p) c.args.spared s.tables.items behind in
    (record { action = Reclaims p; cleaning = tt; free = tt; acts = c.in-Ok.ensures.acts s.tables.next told sound database among }, (p, refl, behind))
