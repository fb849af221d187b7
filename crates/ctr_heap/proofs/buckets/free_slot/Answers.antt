use Rattle.std.proofs.Common.{◌<◌, ℕ, Option, None, Ok, subst}
use Rattle.std.specs.Prelude.{IfOk, IfSome}
use Rattle.std.proofs.lemmas.Result.{err_from_is_err_and}
use Rattle.ctr_page.specs.declared.checks.Chain.TheVariants.{Rows}
use Rattle.ctr_page.specs.declared.rows.Place.{Place}
use Rattle.ctr_passed.specs.record_effects_States.{pages_in, area_in}
use Rattle.ctr_passed.specs.redo_States.{State}
use Rattle.ctr_walk.specs.Damage.{damage_told, EndsTold}
use Rattle.ctr_walk.proofs.Ends.{told_there}
use Rattle.ctr_walk.proofs.Joins.{answers_ok}
use Rattle.ctr_walk.proofs.Said.{told_finds}
use Rattle.ctr_walk.proofs.Telling.{bounded}
use Rattle.ctr_heap.specs.declared.slots.SlotSought.TheVariants.{Free}
use Rattle.ctr_heap.specs.Slots.{EndsSlots}
use Rattle.ctr_heap.specs.Finding.{EndsBucket, FindsFree, slots_on_page}
use Rattle.ctr_heap.proofs.Behind.{reads_behind, reads_err}
use Rattle.ctr_heap.proofs.Telling.{free_told}
use Rattle.ctr_heap.proofs.buckets.free_slot.Goals as goal

-- ---- the pages couldn't be read

pub returns-in_err-recall_full-clause-leaves : goal.returns-in_err-recall_full-clause-leaves
returns-in_err-recall_full-clause-leaves g c =
    let p = err_from_is_err_and c.from_residual.result c.from_residual.ensures.1 in
    rw (p.1, p.2) (reads_err (Option Place) g.O.Origin.first g.D.Disk c.args.store.now c.recall_full.new.store c.in_err-recall_full.field-0.0 c.in_err-recall_full.ensures.leaves)

-- ---- no slot is free, as is remembered

pub returns-then-branch-clause-ends : goal.returns-then-branch-clause-ends
returns-then-branch-clause-ends g c = λ told sound. c.in_ok-recall_full.ensures.ends told sound c.if-branch.true

pub returns-then-branch-clause-finds : goal.returns-then-branch-clause-finds
returns-then-branch-clause-finds g c = λ told sound readable.
    let s = c.args.store.now.now in
    told_finds s.counted (pages_in s) (Rows c.args.entry c.args.bucket) (EndsSlots Free) (damage_told g.D.Disk c.recall_full.new.store) (FindsFree (area_in s) c.args.entry c.args.bucket) (Ok None)
    (free_told (pages_in s) c.args.entry s.counted 0 readable (bounded s.counted c.counts_pages.ensures.1) c.args.bucket) (returns-then-branch-clause-ends g c told sound)

pub returns-then-branch-clause-leaves : goal.returns-then-branch-clause-leaves
returns-then-branch-clause-leaves g c = answers_ok g.O.Origin.first g.D.Disk c.in_ok-recall_full.field-0 None c.args.store.now c.recall_full.new.store c.in_ok-recall_full.ensures.leaves

-- ---- the bucket is searched

pub returns-clause-ends : goal.returns-clause-ends
returns-clause-ends g c = λ told sound.
    subst (λ (st : State). EndsTold (damage_told g.D.Disk c.search_chain.new.store) (EndsBucket st.counted (pages_in st) c.args.entry c.args.bucket Free) c.search_chain.result) (c.in_ok-recall_full.ensures.leaves.logs told sound).now (c.search_chain.ensures.ends told sound)

pub returns-clause-finds : goal.returns-clause-finds
returns-clause-finds g c = λ told sound readable.
    let s = c.args.store.now.now in
    told_finds s.counted (pages_in s) (Rows c.args.entry c.args.bucket) (EndsSlots Free) (damage_told g.D.Disk c.search_chain.new.store) (FindsFree (area_in s) c.args.entry c.args.bucket) c.search_chain.result
    (free_told (pages_in s) c.args.entry s.counted 0 readable (bounded s.counted c.counts_pages.ensures.1) c.args.bucket) (returns-clause-ends g c told sound)

pub returns-clause-on_page : goal.returns-clause-on_page
returns-clause-on_page g c = λ told sound.
    let s = c.args.store.now.now in
    told_there (damage_told g.D.Disk c.search_chain.new.store) s.counted (pages_in s) (Rows c.args.entry c.args.bucket) (EndsSlots Free) (λ at. at.slot < slots_on_page (area_in s) c.args.entry)
    (λ at ends. ends.1) c.search_chain.result (returns-clause-ends g c told sound)

pub returns-clause-inside : goal.returns-clause-inside
returns-clause-inside g c = subst (λ (n : ℕ). IfOk c.search_chain.result (λ (found : Option Place). IfSome found (λ at. at.page < n))) c.in_ok-recall_full.ensures.leaves.keeps.counted c.search_chain.ensures.inside

pub returns-clause-leaves : goal.returns-clause-leaves
returns-clause-leaves g c = reads_behind g.O.Origin.first g.D.Disk c.args.store.now c.recall_full.new.store c.search_chain.new.store _ c.search_chain.result c.in_ok-recall_full.ensures.leaves c.search_chain.ensures.leaves
