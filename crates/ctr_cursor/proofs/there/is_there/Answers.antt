use Rattle.std.proofs.Common.{◌≡◌, false, Bool, Result, Ok, Err, subst}
use Rattle.std.specs.Prelude.{IfOk}
use Rattle.ctr_disk.specs.declared.fault.StoreFault.{StoreFault}
use Rattle.ctr_actions.specs.Sites.{site_of}
use Rattle.ctr_cursor.specs.declared.position.Position.{Position}
use Rattle.ctr_cursor.specs.Standing.{IsPosition}
use Rattle.ctr_cursor.proofs.there.is_there.Goals as goal

-- what is said of a place isn't there, if that isn't one of a chain
absent : {P Q : Type 0} (r : Result Bool StoreFault) → (Q → P) → IfOk r (λ is. is ≡ false → P → ⊥) → IfOk r (λ is. is ≡ false → Q → ⊥)
absent (Ok x) of says = λ isnt q. says isnt (of q)
absent (Err e) of says = tt

pub returns-in-Slot-clause-no : goal.returns-in-Slot-clause-no
returns-in-Slot-clause-no g c = λ told sound database.
    absent c.is_place.result (λ q. (subst (λ (x : Position). IsPosition x (site_of c.args.store.now.now)) c.in-Slot.is q).1) (c.is_place.ensures.no told sound database)

pub returns-in-Kept-clause-no : goal.returns-in-Kept-clause-no
returns-in-Kept-clause-no g c = λ told sound database.
    absent c.is_place-in-Kept.result (λ q. (subst (λ (x : Position). IsPosition x (site_of c.args.store.now.now)) c.in-Kept.is q).1) (c.is_place-in-Kept.ensures.no told sound database)
