use Rattle.std.proofs.Common.{◌≡◌, subst}
use Rattle.std.specs.Prelude.{IfOk}
use Rattle.ctr_names.specs.meta_Tables.{Tables}
use Rattle.ctr_names.specs.area_Chains.{chain_of}
use Rattle.ctr_names.specs.area_Images.{is_committed_in}
use Rattle.ctr_pvs.specs.record_effects_States.{pages_in, area_in}
use Rattle.ctr_pvs.specs.walk_Damage.{damage_told, EndsTold}
use Rattle.ctr_pvs.proofs.walk_Damages.{told_ends, told_ok}
use Rattle.ctr_chain.specs.Seeing.{first_xid}
use Rattle.ctr_chain.specs.Seeking.{sought_at, xids_found}
use Rattle.ctr_chain.proofs.committed.newest.Goals as goal

pub returns-clause-ends : goal.returns-clause-ends
returns-clause-ends g c = λ told sound.
    let a = c.args.store.now in
    let e = c.newest_found-found.ensures in
    subst (λ (tables : Tables). EndsTold (damage_told g.D.Disk c.tell.new.store) (λ r. r ≡ xids_found (sought_at (is_committed_in tables) a.now.counted (pages_in a.now) c.args.place)) c.tell.result)
    (c.meta-tables.ensures.now told sound c.requires.going)
    (told_ends (damage_told g.D.Disk c.tell.new.store) (λ r. r ≡ xids_found (sought_at (is_committed_in a.meta.tables) a.now.counted (pages_in a.now) c.args.place)) c.newest_found-found.result c.tell.result c.tell.ensures.told (told, sound)
    (e.leaves.refused told sound) (e.ends told sound))

pub returns-clause-finds : goal.returns-clause-finds
returns-clause-finds g c = λ told sound.
    let a = c.args.store.now in
    subst (λ (tables : Tables). IfOk c.tell.result (λ x. x ≡ first_xid (is_committed_in tables) (chain_of (area_in a.now).older ((area_in a.now).slot c.args.place))))
    (c.meta-tables.ensures.now told sound c.requires.going)
    (told_ok _ (damage_told g.D.Disk c.tell.new.store) (λ x. x ≡ first_xid (is_committed_in a.meta.tables) (chain_of (area_in a.now).older ((area_in a.now).slot c.args.place))) c.newest_found-found.result c.tell.result c.tell.ensures.told
    (c.newest_found-found.ensures.finds told sound))
