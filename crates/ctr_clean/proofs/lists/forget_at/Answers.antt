use Rattle.std.proofs.Common.{◌≡◌, Some, refl, ◌∙◌, ap, subst}
use Rattle.std.specs.Prelude.{slice_get}
use Rattle.ctr_meta.specs.Kept.{TablesKept}
use Rattle.ctr_meta.specs.Tables.{Tables}
use Rattle.ctr_record_laws.specs.Owed.{OwedByForget}
use Rattle.ctr_actions.specs.Actions.{Forgets}
use Rattle.ctr_dead.specs.page_turns_Turns.{Reads}
use Rattle.ctr_clean.specs.declared.steps.Step.TheVariants.{Nothing}
use Rattle.ctr_clean.proofs.Resting.{rests_read}
use Rattle.ctr_clean.proofs.lists.forget_at.Goals as goal

pub returns-in-None-clause-turns : goal.returns-in-None-clause-turns
returns-in-None-clause-turns g c = Reads (rests_read g.O.Origin.first g.D.Disk c.args.store.now Nothing (λ told sound. c.rests.ensures told sound c.requires.room.going) c.requires.room.going)

pub returns-in-Ok-clause-cleans : goal.returns-in-Ok-clause-cleans
returns-in-Ok-clause-cleans g c = λ low locks told sound.
    let s = c.args.store.now.now in
    let x = c.in-Some.x in
    let tables = ap (λ (m : TablesKept). m.tables) c.meta.ensures.tables ∙ c.meta.ensures.now told sound c.requires.room.going in
    let owed = subst (λ (t : Tables). (slice_get t.aborted c.args.place ≡ Some (x, 0)) × OwedByForget t x) tables c.in-Some.ensures in
    (record { action = Forgets x; cleaning = tt; free = tt; acts = c.in-Ok.ensures.acts s.tables.next told sound owed.1 }, (x, owed.0, refl))
