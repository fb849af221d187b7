use Rattle.std.proofs.Common.{◌≡◌, true, Bool, None, Ok, subst}
use Rattle.std.proofs.lemmas.Result.{err_from_is_err_and}
use Rattle.ctr_passed.specs.record_effects_States.{pages_in}
use Rattle.ctr_passed.specs.redo_States.{State}
use Rattle.ctr_walk.specs.directory_Chains.{KnowsFull}
use Rattle.ctr_walk.proofs.Joins.{answers_ok, answers_err}
use Rattle.ctr_heap.proofs.Known.{full_ends}
use Rattle.ctr_heap.proofs.recalled.recall_full.Goals as goal

pub returns-in_err-read_bucket-clause-leaves : goal.returns-in_err-read_bucket-clause-leaves
returns-in_err-read_bucket-clause-leaves g c =
    let p = err_from_is_err_and c.from_residual.result c.from_residual.ensures.1 in
    rw (p.1, p.2) (answers_err g.O.Origin.first g.D.Disk {T = Bool} c.in_err-read_bucket.field-0.0 c.args.store.now c.read_bucket.new.store c.in_err-read_bucket.ensures)

pub returns-clause-ends : goal.returns-clause-ends
returns-clause-ends g c = λ told sound yes.
    let e = c.args.entry in
    let bucket = c.args.bucket in
    let s = c.args.store.now.now in
    full_ends (pages_in s) s.counted e bucket c.requires.there.0 c.requires.there.1
    (subst (λ (st : State). KnowsFull st.counted (pages_in st) e bucket) (c.in_ok-read_bucket.ensures.logs told sound).now (c.recalls_full.ensures told sound c.in_ok-read_bucket.ensures.going yes))

pub returns-clause-leaves : goal.returns-clause-leaves
returns-clause-leaves g c = answers_ok g.O.Origin.first g.D.Disk c.in_ok-read_bucket.field-0 c.recalls_full.result c.args.store.now c.read_bucket.new.store c.in_ok-read_bucket.ensures
