use Rattle.ctr_record_effects.specs.States.{pages_in}
use Rattle.ctr_walk.specs.Damage.{damage_told}
use Rattle.ctr_walk.proofs.Damages.{told_ends}
use Rattle.ctr_walk.specs.Tables.{EndsChain}
use Rattle.ctr_walk.proofs.table.search_chain.Goals as goal

pub returns-clause-ends : goal.returns-clause-ends
returns-clause-ends g c = λ told sound.
    let s = c.args.store.now.now in
    let e = c.search_table-found.ensures in
    told_ends (damage_told g.D.Disk c.tell.new.store) (EndsChain s.counted (pages_in s) c.args.chain (g.S.PageSought.ends c.args.sought.now)) c.search_table-found.result c.tell.result c.tell.ensures.told (told, sound) (e.leaves.refused told sound) (e.ends told sound)
