use Rattle.std.proofs.Common.{◌<◌, Option, ℕ}
use Rattle.std.specs.Prelude.{IfSome}
use Rattle.ctr_alloc.specs.record_effects_States.{pages_in}
use Rattle.ctr_alloc.specs.walk_Damage.{damage_told}
use Rattle.ctr_alloc.proofs.walk_Damages.{told_ends, told_ok}
use Rattle.ctr_catalog.specs.Free.{EndsCatalog}
use Rattle.ctr_catalog.proofs.store.find_free_entry.Goals as goal

pub returns-clause-ends : goal.returns-clause-ends
returns-clause-ends g c = λ told sound.
    let s = c.args.store.now in
    let e = c.search_free-found.ensures in
    told_ends (damage_told g.D.Disk c.tell.new.store) (EndsCatalog s.now.counted (pages_in s.now)) c.search_free-found.result c.tell.result c.tell.ensures.told (told, sound) (e.leaves.refused told sound) (e.ends told sound)

pub returns-clause-few : goal.returns-clause-few
returns-clause-few g c =
    told_ok _ (damage_told g.D.Disk c.tell.new.store) (λ (found : Option ℕ). IfSome found (λ n. n < 32)) c.search_free-found.result c.tell.result c.tell.ensures.told c.search_free-found.ensures.few
