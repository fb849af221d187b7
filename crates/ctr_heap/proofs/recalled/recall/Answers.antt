use Rattle.std.proofs.Common.{◌<◌, ℕ, ℤ, Option, subst}
use Rattle.std.specs.Prelude.{IfSome}
use Rattle.std.specs.Int.{w64}
use Rattle.std.proofs.lemmas.Int.{to_z-of_z}
use Rattle.std.proofs.lemmas.Result.{err_from_is_err_and}
use Rattle.ctr_page.specs.Places.{bucket_of}
use Rattle.ctr_page.specs.declared.rows.Place.{Place}
use Rattle.ctr_passed.specs.record_effects_States.{pages_in}
use Rattle.ctr_passed.specs.redo_States.{State}
use Rattle.ctr_walk.specs.directory_Chains.{Knows}
use Rattle.ctr_walk.proofs.Joins.{answers_ok, answers_err}
use Rattle.ctr_heap.proofs.Behind.{known_told}
use Rattle.ctr_heap.proofs.recalled.recall.Goals as goal

pub returns-in_err-read_bucket-clause-leaves : goal.returns-in_err-read_bucket-clause-leaves
returns-in_err-read_bucket-clause-leaves g c =
    let p = err_from_is_err_and c.from_residual.result c.from_residual.ensures.1 in
    rw (p.1, p.2) (answers_err g.O.Origin.first g.D.Disk {T = Option (Option Place)} c.in_err-read_bucket.field-0.0 c.args.store.now c.read_bucket.new.store c.in_err-read_bucket.ensures)

pub returns-clause-ends : goal.returns-clause-ends
returns-clause-ends g c = λ told sound.
    let e = c.args.entry in
    let key = c.args.key in
    let m = c.read_bucket.new.store.now in
    let r = c.recall.result in
    let knows = subst (λ (z : ℤ). IfSome r (Knows m.counted (pages_in m) e (bucket_of z) z)) (to_z-of_z w64 key c.ranges.key) (c.recall.ensures.knows told sound c.in_ok-read_bucket.ensures.going) in
    let s = c.args.store.now.now in
    known_told (pages_in s) s.counted e key r c.requires.there
    (subst (λ (st : State). IfSome r (Knows st.counted (pages_in st) e (bucket_of key) key)) (c.in_ok-read_bucket.ensures.logs told sound).now knows)

pub returns-clause-inside : goal.returns-clause-inside
returns-clause-inside g c = subst (λ (n : ℕ). IfSome c.recall.result (λ (found : Option Place). IfSome found (λ at. at.page < n))) c.in_ok-read_bucket.ensures.keeps.counted c.recall.ensures.inside

pub returns-clause-leaves : goal.returns-clause-leaves
returns-clause-leaves g c = answers_ok g.O.Origin.first g.D.Disk c.in_ok-read_bucket.field-0 c.recall.result c.args.store.now c.read_bucket.new.store c.in_ok-read_bucket.ensures
