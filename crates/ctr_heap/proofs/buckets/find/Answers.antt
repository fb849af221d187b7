use Rattle.std.proofs.Common.{◌≡◌, ◌<◌, ℕ, ℤ, Option, None, Some, Ok, Err, sym, ap, subst}
use Rattle.std.specs.Prelude.{IfOk, IfSome}
use Rattle.std.specs.Int.{w64}
use Rattle.std.proofs.lemmas.Int.{to_z-of_z}
use Rattle.std.proofs.lemmas.Result.{err_from_is_err_and}
use Rattle.ctr_page.specs.Places.{bucket_of}
use Rattle.ctr_page.specs.declared.checks.Chain.TheVariants.{Rows}
use Rattle.ctr_page.specs.declared.rows.Place.{Place}
use Rattle.ctr_passed.specs.record_effects_States.{pages_in, area_in}
use Rattle.ctr_passed.specs.redo_States.{State}
use Rattle.ctr_walk.specs.Damage.{damage_told, EndsTold}
use Rattle.ctr_walk.proofs.Ends.{told_there}
use Rattle.ctr_walk.proofs.Joins.{answers_ok}
use Rattle.ctr_walk.proofs.Said.{told_finds}
use Rattle.ctr_walk.proofs.Telling.{bounded}
use Rattle.ctr_heap.specs.declared.slots.SlotSought.TheVariants.{Key}
use Rattle.ctr_heap.specs.Slots.{EndsSlots}
use Rattle.ctr_heap.specs.Finding.{EndsBucket, FindsKey, slots_on_page}
use Rattle.ctr_heap.proofs.Behind.{reads_behind, reads_err}
use Rattle.ctr_heap.proofs.Telling.{key_told, key_ends}
use Rattle.ctr_heap.proofs.buckets.find.Goals as goal

-- ---- the pages couldn't be read

pub returns-in_err-found-clause-leaves : goal.returns-in_err-found-clause-leaves
returns-in_err-found-clause-leaves g c =
    let p = err_from_is_err_and c.from_residual.result c.from_residual.ensures.1 in
    rw (p.1, p.2) (reads_err (Option Place) g.O.Origin.first g.D.Disk c.args.store.now c.recall.new.store c.in_err-found.field-0.0 c.in_err-found.ensures.leaves)

-- ---- the key is recalled

pub returns-in-Some-clause-ends : goal.returns-in-Some-clause-ends
returns-in-Some-clause-ends g c = λ told sound.
    let s = c.args.store.now.now in
    let e = c.args.entry in
    let key = c.args.key in
    let ends = subst (λ (z : ℤ). IfSome c.in_ok-found.field-0 (λ (found : Option Place). EndsBucket s.counted (pages_in s) e (bucket_of z) (Key z) (Ok found))) (to_z-of_z w64 key c.ranges.key) (c.in_ok-found.ensures.ends told sound) in
    subst (λ (r : Option (Option Place)). IfSome r (λ (found : Option Place). EndsBucket s.counted (pages_in s) e (bucket_of key) (Key key) (Ok found))) c.in-Some.is ends

pub returns-in-Some-clause-finds : goal.returns-in-Some-clause-finds
returns-in-Some-clause-finds g c = λ told sound readable.
    let s = c.args.store.now.now in
    let key = c.args.key in
    told_finds s.counted (pages_in s) (Rows c.args.entry (bucket_of key)) (EndsSlots (Key key)) (damage_told g.D.Disk c.recall.new.store) (FindsKey (area_in s) c.args.entry key) (Ok c.in-Some.found)
    (key_told (pages_in s) c.args.entry s.counted 0 readable (bounded s.counted c.counts_pages.ensures.1) key) (returns-in-Some-clause-ends g c told sound)

pub returns-in-Some-clause-on_page : goal.returns-in-Some-clause-on_page
returns-in-Some-clause-on_page g c = λ told sound.
    let s = c.args.store.now.now in
    told_there (damage_told g.D.Disk c.recall.new.store) s.counted (pages_in s) (Rows c.args.entry (bucket_of c.args.key)) (EndsSlots (Key c.args.key)) (λ at. at.slot < slots_on_page (area_in s) c.args.entry)
    (λ at ends. ends.1) (Ok c.in-Some.found) (returns-in-Some-clause-ends g c told sound)

pub returns-in-Some-clause-inside : goal.returns-in-Some-clause-inside
returns-in-Some-clause-inside g c = subst (λ (r : Option (Option Place)). IfSome r (λ (found : Option Place). IfSome found (λ at. at.page < c.args.store.now.now.counted))) c.in-Some.is c.in_ok-found.ensures.inside

pub returns-in-Some-clause-leaves : goal.returns-in-Some-clause-leaves
returns-in-Some-clause-leaves g c = answers_ok g.O.Origin.first g.D.Disk c.in_ok-found.field-0 c.in-Some.found c.args.store.now c.recall.new.store c.in_ok-found.ensures.leaves

-- ---- the bucket is searched

pub returns-clause-ends : goal.returns-clause-ends
returns-clause-ends g c = λ told sound.
    let m = c.recall.new.store.now in
    let ends = key_ends (damage_told g.D.Disk c.search_chain.new.store) m.counted (pages_in m) c.args.entry c.args.key _ c.bucket_of-bucket.result c.search_chain.result
    (to_z-of_z w64 c.args.key c.ranges.key) c.bucket_of-bucket.ensures.value (c.search_chain.ensures.ends told sound) in
    subst (λ (st : State). EndsTold (damage_told g.D.Disk c.search_chain.new.store) (EndsBucket st.counted (pages_in st) c.args.entry (bucket_of c.args.key) (Key c.args.key)) c.search_chain.result) (c.in_ok-found.ensures.leaves.logs told sound).now ends

pub returns-clause-finds : goal.returns-clause-finds
returns-clause-finds g c = λ told sound readable.
    let s = c.args.store.now.now in
    let key = c.args.key in
    told_finds s.counted (pages_in s) (Rows c.args.entry (bucket_of key)) (EndsSlots (Key key)) (damage_told g.D.Disk c.search_chain.new.store) (FindsKey (area_in s) c.args.entry key) c.search_chain.result
    (key_told (pages_in s) c.args.entry s.counted 0 readable (bounded s.counted c.counts_pages.ensures.1) key) (returns-clause-ends g c told sound)

pub returns-clause-on_page : goal.returns-clause-on_page
returns-clause-on_page g c = λ told sound.
    let s = c.args.store.now.now in
    told_there (damage_told g.D.Disk c.search_chain.new.store) s.counted (pages_in s) (Rows c.args.entry (bucket_of c.args.key)) (EndsSlots (Key c.args.key)) (λ at. at.slot < slots_on_page (area_in s) c.args.entry)
    (λ at ends. ends.1) c.search_chain.result (returns-clause-ends g c told sound)

pub returns-clause-inside : goal.returns-clause-inside
returns-clause-inside g c = subst (λ (n : ℕ). IfOk c.search_chain.result (λ (found : Option Place). IfSome found (λ at. at.page < n))) c.in_ok-found.ensures.leaves.keeps.counted c.search_chain.ensures.inside

pub returns-clause-leaves : goal.returns-clause-leaves
returns-clause-leaves g c = reads_behind g.O.Origin.first g.D.Disk c.args.store.now c.recall.new.store c.search_chain.new.store _ c.search_chain.result c.in_ok-found.ensures.leaves c.search_chain.ensures.leaves
