use Rattle.std.proofs.Common.{ℕ, ◌+◌, ◌/◌, ◌%◌, Bool, Result, subst}
use Rattle.std.specs.Prelude.{IsTrue}
use Rattle.ctr_base.specs.Base.{IsSoundImage}
use Rattle.ctr_page.specs.declared.walk.BadChain.{BadChain}
use Rattle.ctr_record_effects.specs.States.{pages_in}
use Rattle.ctr_walk.specs.Damage.{damage_told, EndsOnPage, EndsTold}
use Rattle.ctr_walk.proofs.Damages.{told_ends}
use Rattle.ctr_totals.specs.Columns.{ColumnsTold}
use Rattle.ctr_totals.proofs.Titled.{told_columns, undamaged_columns}
use Rattle.ctr_totals.proofs.columns.fits.Given.{Over}
use Rattle.ctr_totals.proofs.columns.fits.Goals.{After-tell}
use Rattle.ctr_totals.proofs.columns.fits.Goals as goal

ends : (g : Over) (c : After-tell g) → IsTrue g.D.Disk.tells → IsSoundImage g.O.Origin.first
    → EndsTold (damage_told g.D.Disk c.tell.new.store) (EndsOnPage (1 + c.args.entry / 16) (ColumnsTold c.args.store.now.now.counted (c.args.entry % 16) (pages_in c.args.store.now.now (1 + c.args.entry / 16)))) c.tell.result
ends g c told sound =
    let e = c.args.entry in
    let read = c.fits_on-found.ensures in
    let P : ℕ → Result Bool BadChain → Type 0 = λ n. EndsOnPage (1 + e / 16) (ColumnsTold n (e % 16) (pages_in c.args.store.now.now (1 + e / 16))) in
    subst (λ n. EndsTold (damage_told g.D.Disk c.tell.new.store) (P n) c.tell.result) c.counted-counted.ensures
    (told_ends (damage_told g.D.Disk c.tell.new.store) (P c.counted-counted.result) c.fits_on-found.result c.tell.result c.tell.ensures.told (told, sound) (read.leaves.refused told sound) (read.said told sound))

pub returns-clause-tells : goal.returns-clause-tells
returns-clause-tells g c = λ told sound some.
    let s = c.args.store.now.now in
    told_columns (damage_told g.D.Disk c.tell.new.store) s.counted c.args.entry (pages_in s) c.tell.result c.requires.there (ends g c told sound) some

pub returns-clause-refused : goal.returns-clause-refused
returns-clause-refused g c = λ told sound db.
    let s = c.args.store.now.now in
    let e = c.args.entry in
    undamaged_columns (damage_told g.D.Disk c.tell.new.store) s.counted (e % 16) (1 + e / 16) (pages_in s (1 + e / 16)) c.tell.result (db.passed.entries e c.requires.there) (ends g c told sound)
