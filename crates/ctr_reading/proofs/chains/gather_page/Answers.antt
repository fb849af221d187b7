use Rattle.std.proofs.Common.{◌≡◌, ◌≤◌, ℕ, [], Result, Ok, Err, sym, ◌∙◌, ap, subst}
use Rattle.std.specs.Prelude.{IfOk, ⊤}
use Rattle.ctr_types.specs.declared.memory.OutOfMemory.{OutOfMemory}
use Rattle.ctr_disk.specs.declared.fault.StoreFault.TheVariants.{Fault}
use Rattle.ctr_redo.specs.States.{State}
use Rattle.ctr_area.specs.Chains.{places_on}
use Rattle.ctr_walk.specs.record_effects_States.{pages_in, area_in}
use Rattle.ctr_walk.proofs.Damages.{reads_err}
use Rattle.ctr_views.specs.chain_ReadRefusal.{ReadRefusal}
use Rattle.ctr_reading.specs.Reading.{as_told, sight_sees, IsDiskOrMemory}
use Rattle.ctr_reading.specs.Gathering.{gathered, ArePageSlots, Gathers, IsBucketPage}
use Rattle.ctr_reading.proofs.Gathers.{refused_further}
use Rattle.ctr_reading.proofs.Places.{behind_catalog, page_places}
use Rattle.ctr_reading.proofs.Told.{reads_behind, told_err, told_ok}
use Rattle.ctr_reading.proofs.chains.gather_page.Goals as goal

pub returns-in-Err-clause-leaves : goal.returns-in-Err-clause-leaves
returns-in-Err-clause-leaves g c = reads_err g.O.Origin.first g.D.Disk _ _ c.in-Err.fault c.args.store.now c.next_page.new.store c.in-Err.ensures.leaves

pub returns-in-Err-slots_on-clause-refused : goal.returns-in-Err-slots_on-clause-refused
returns-in-Err-slots_on-clause-refused g c = λ told sound page.
    subst (λ (t : State). IsBucketPage c.args.chain c.args.p t → c.in-Err-slots_on.fault ≡ Fault) (c.in-Ok.ensures.leaves.logs told sound).now (c.in-Err-slots_on.ensures.refused c.args.chain told sound) page

pub returns-in-Err-slots_on-clause-leaves : goal.returns-in-Err-slots_on-clause-leaves
returns-in-Err-slots_on-clause-leaves g c = reads_err g.O.Origin.first g.D.Disk _ _ c.in-Err-slots_on.fault c.args.store.now c.slots_on.new.store
    (reads_behind g.O.Origin.first g.D.Disk c.in-Ok.next (Err c.in-Err-slots_on.fault) c.args.store.now c.next_page.new.store c.slots_on.new.store c.in-Ok.ensures.leaves c.in-Err-slots_on.ensures.leaves)

pub returns-in-Err-gather_slots-clause-gathers : goal.returns-in-Err-gather_slots-clause-gathers
returns-in-Err-gather_slots-clause-gathers g c = λ told sound.
    let s = c.args.store.now.now in
    let p = c.args.p in
    let slots = c.in-Ok-slots_on.slots in
    let rows = c.args.rows.now in
    let r : Result ⊤ ReadRefusal = Err c.in-Err-gather_slots.refusal in
    let one = (c.in-Ok.ensures.leaves.logs told sound).now in
    let two = (c.in-Ok-slots_on.ensures.leaves.logs told sound).now ∙ one in
    let are = subst (λ (t : State). ArePageSlots t slots) one (c.in-Ok-slots_on.ensures.are told sound) in
    let here = subst (λ (t : State). ArePageSlots t slots → IfOk (as_told r) (Gathers (gathered (sight_sees t.tables c.args.sight.now) (area_in t) (places_on slots.page 0 slots.count) rows) c.gather_slots.new.rows)) two (c.in-Err-gather_slots.ensures.gathers told sound) are in
    let test = sight_sees s.tables c.args.sight.now in
    refused_further test (area_in s) ⊤ ℕ [] (gathered test (area_in s) (places_on slots.page 0 slots.count) rows) (gathered test (area_in s) (places_on p 0 ((area_in s).room p)) rows) c.gather_slots.new.rows c.gather_slots.new.rows c.in-Err-gather_slots.refusal
    (ap (λ places. gathered test (area_in s) places rows) (page_places s slots p are c.in-Ok-slots_on.ensures.fits.1)) here

pub returns-in-Err-gather_slots-clause-refused : goal.returns-in-Err-gather_slots-clause-refused
returns-in-Err-gather_slots-clause-refused g c = λ told sound page.
    let p = c.args.p in
    let slots = c.in-Ok-slots_on.slots in
    let one = (c.in-Ok.ensures.leaves.logs told sound).now in
    let two = (c.in-Ok-slots_on.ensures.leaves.logs told sound).now ∙ one in
    let are = subst (λ (t : State). ArePageSlots t slots) one (c.in-Ok-slots_on.ensures.are told sound) in
    subst (λ (t : State). ArePageSlots t slots → IsBucketPage c.args.chain slots.page t → IsDiskOrMemory c.in-Err-gather_slots.refusal) two (c.in-Err-gather_slots.ensures.refused c.args.chain told sound) are
    (subst (λ (q : ℕ). IsBucketPage c.args.chain q c.args.store.now.now) (sym c.in-Ok-slots_on.ensures.fits.1) page)

pub returns-in-Err-gather_slots-clause-leaves : goal.returns-in-Err-gather_slots-clause-leaves
returns-in-Err-gather_slots-clause-leaves g c =
    told_err g.O.Origin.first g.D.Disk ⊤ ℕ c.in-Err-gather_slots.refusal c.args.store.now c.gather_slots.new.store
    (reads_behind g.O.Origin.first g.D.Disk c.in-Ok.next (as_told {T = ⊤} (Err c.in-Err-gather_slots.refusal)) c.args.store.now c.next_page.new.store c.gather_slots.new.store c.in-Ok.ensures.leaves
    (c.in-Err-gather_slots.ensures.leaves c.next_page.new.store (told_ok g.O.Origin.first g.D.Disk c.in-Ok-slots_on.slots tt c.next_page.new.store c.slots_on.new.store c.in-Ok-slots_on.ensures.leaves)))

pub returns-in-Ok-gather_slots-clause-gathers : goal.returns-in-Ok-gather_slots-clause-gathers
returns-in-Ok-gather_slots-clause-gathers g c = λ told sound.
    let s = c.args.store.now.now in
    let p = c.args.p in
    let slots = c.in-Ok-slots_on.slots in
    let rows = c.args.rows.now in
    let one = (c.in-Ok.ensures.leaves.logs told sound).now in
    let two = (c.in-Ok-slots_on.ensures.leaves.logs told sound).now ∙ one in
    let are = subst (λ (t : State). ArePageSlots t slots) one (c.in-Ok-slots_on.ensures.are told sound) in
    subst (λ (t : State). ArePageSlots t slots → c.gather_slots.new.rows ≡ gathered (sight_sees t.tables c.args.sight.now) (area_in t) (places_on slots.page 0 slots.count) rows) two (c.in-Ok-gather_slots.ensures.gathers told sound) are
    ∙ ap (λ places. gathered (sight_sees s.tables c.args.sight.now) (area_in s) places rows) (page_places s slots p are c.in-Ok-slots_on.ensures.fits.1)

pub returns-in-Ok-gather_slots-clause-goes : goal.returns-in-Ok-gather_slots-clause-goes
returns-in-Ok-gather_slots-clause-goes g c = λ told sound.
    let s = c.args.store.now.now in
    let slots = c.in-Ok-slots_on.slots in
    let are = subst (λ (t : State). ArePageSlots t slots) (c.in-Ok.ensures.leaves.logs told sound).now (c.in-Ok-slots_on.ensures.are told sound) in
    c.in-Ok.ensures.tells told sound (subst (λ q. 3 ≤ q) c.in-Ok-slots_on.ensures.fits.1 (behind_catalog s.counted (pages_in s) slots.page slots.table are.table))

pub returns-in-Ok-gather_slots-clause-leaves : goal.returns-in-Ok-gather_slots-clause-leaves
returns-in-Ok-gather_slots-clause-leaves g c =
    let done : Result ⊤ OutOfMemory = Ok tt in
    let next : Result ℕ OutOfMemory = Ok c.in-Ok.next in
    told_ok g.O.Origin.first g.D.Disk done next c.args.store.now c.gather_slots.new.store
    (reads_behind g.O.Origin.first g.D.Disk c.in-Ok.next (as_told {T = ⊤} (Ok tt)) c.args.store.now c.next_page.new.store c.gather_slots.new.store c.in-Ok.ensures.leaves
    (c.in-Ok-gather_slots.ensures.leaves c.next_page.new.store (told_ok g.O.Origin.first g.D.Disk c.in-Ok-slots_on.slots tt c.next_page.new.store c.slots_on.new.store c.in-Ok-slots_on.ensures.leaves)))
