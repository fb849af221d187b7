use Rattle.std.proofs.Common.{◌≡◌, ℕ, ◌+◌, List, [], ◌∷◌, refl, ap, ◌∙◌}
use Rattle.ctr_rec.specs.declared.record.Record.TheVariants.{Forget}
use Rattle.ctr_walk.specs.redo_States.{State, step, pages_after}
use Rattle.ctr_meta.specs.Effects.{effect}
use Rattle.ctr_alloc.specs.actions_Sites.{site_of}
use Rattle.ctr_alloc.specs.actions_Actions.{Forgets, site_after}
use Rattle.ctr_txn.proofs.OneRecord.{logged_now, refused_now}
use Rattle.ctr_dead.proofs.forgetting.forget.Goals as goal

-- the record is on no page
same_pages : (x p : ℕ) (bs : List (List ℕ)) → pages_after p (Forget x) bs ≡ bs
same_pages x p [] = refl
same_pages x p (b ∷ bs) = ap (λ (cs : List (List ℕ)). b ∷ cs) (same_pages x (p + 1) bs)

forgotten : (x y : ℕ) (s : State) → site_of (step (Forget x) s) ≡ site_after y (Forgets x) (site_of s)
forgotten x y s = ap (λ (bs : List (List ℕ)). site_of (record { counted = s.counted; pages = bs; tables = effect (Forget x) s.tables })) (same_pages x 0 s.pages)

pub returns-in-Ok-clause-one : goal.returns-in-Ok-clause-one
returns-in-Ok-clause-one g c = logged_now g.O.Origin.first g.D.Disk (Forget c.args.x) c.args.store.now c.log_record.new.store c.in-Ok.field-0 tt c.in-Ok.ensures

pub returns-in-Err-clause-one : goal.returns-in-Err-clause-one
returns-in-Err-clause-one g c = refused_now g.O.Origin.first g.D.Disk (Forget c.args.x) c.args.store.now c.log_record.new.store c.in-Err.fault c.requires.room.going c.in-Err.ensures

pub returns-in-Ok-clause-leaves : goal.returns-in-Ok-clause-leaves
returns-in-Ok-clause-leaves g c = λ y told sound. ap site_of (c.in-Ok.ensures.logs told sound).now ∙ forgotten c.args.x y c.args.store.now.now

pub returns-in-Ok-clause-acts : goal.returns-in-Ok-clause-acts
returns-in-Ok-clause-acts g c = λ y told sound owed.
    let x = c.args.x in
    let a = c.args.store.now in
    let logs = c.in-Ok.ensures.logs told sound in
    c.a_record_acts.ensures y (Forgets x) (Forget x) a c.log_record.new.store logs owed (ap site_of logs.now ∙ forgotten x y a.now) (c.records_without_bytes_lie_as_their_actions.ensures.forgets a.now x, tt)
