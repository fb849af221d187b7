use Rattle.std.proofs.Common.{◌≡◌, Err, Option, ℕ, ◌∙◌, ap}
use Rattle.std.specs.Prelude.{option_and_then}
use Rattle.ctr_redo.specs.States.{State}
use Rattle.ctr_meta.specs.Tables.{Tables}
use Rattle.ctr_meta.specs.Kept.{TablesKept}
use Rattle.ctr_area.specs.Images.{is_committed_in}
use Rattle.ctr_record_effects.specs.States.{pages_in}
use Rattle.ctr_walk.specs.Damage.{damage_told}
use Rattle.ctr_wishes.specs.ctr_reading.chain_Seeking.{sought_at, xids_found}
use Rattle.ctr_asking.specs.Causes.{number_unseen}
use Rattle.ctr_asking.proofs.Reading.{read_answered, read_failed, undamaged}
use Rattle.ctr_asking.proofs.keys.newer.Goals as goal

pub returns-clause-tells : goal.returns-clause-tells
returns-clause-tells g c = λ told sound.
    let leaves = c.in-Ok.ensures.leaves in
    let commits = c.args.txns.now.numbers.commits in
    let tables = ap (λ (k : TablesKept). k.tables) c.meta.ensures.tables ∙ c.meta.ensures.now told sound leaves.going ∙ ap (λ (s : State). s.tables) (leaves.logs told sound).now in
    c.number_unseen.ensures
    ∙ ap (λ (t : Tables). option_and_then (number_unseen commits t c.args.snapshot.now) c.in-Ok.who) tables
    ∙ ap (option_and_then (number_unseen commits c.args.store.now.now.tables c.args.snapshot.now)) (c.in-Ok.ensures.finds told sound)

pub returns-clause-leaves : goal.returns-clause-leaves
returns-clause-leaves g c = read_answered g.O.Origin.first g.D.Disk (Option ℕ) (Option ℕ) c.in-Ok.who c.number_unseen.result c.args.store.now c.newest.new.store c.in-Ok.ensures.leaves

pub returns-in-Err-clause-refused : goal.returns-in-Err-clause-refused
returns-in-Err-clause-refused g c = λ entry told sound db used.
    let s = c.args.store.now.now in
    undamaged (λ r. r ≡ xids_found (sought_at (is_committed_in s.tables) s.counted (pages_in s) c.args.place)) (damage_told g.D.Disk c.newest.new.store) (Err c.in-Err.fault)
    (c.a_row_is_read_without_damage.ensures.whose s (is_committed_in s.tables) entry c.args.place db used.0) (c.in-Err.ensures.ends told sound)

pub returns-in-Err-clause-leaves : goal.returns-in-Err-clause-leaves
returns-in-Err-clause-leaves g c = read_failed g.O.Origin.first g.D.Disk (Option ℕ) (Option ℕ) c.in-Err.fault c.args.store.now c.newest.new.store c.in-Err.ensures.leaves
