use Rattle.std.proofs.Common.{◌≡◌, Option, None, Some, sym, subst}
use Rattle.std.specs.Prelude.{IsTrue, IfOk, IfErr, IfSome}
use Rattle.ctr_base.specs.Base.{IsSoundImage}
use Rattle.ctr_disk.specs.declared.fault.StoreFault.TheVariants.{Fault}
use Rattle.ctr_load.specs.Statements.{load_columns}
use Rattle.ctr_area.specs.Chains.{slot_places}
use Rattle.ctr_area.specs.Images.{is_committed_in}
use Rattle.ctr_record_laws.proofs.Bounds.{pages_bounded}
use Rattle.ctr_walk.specs.redo_States.{State}
use Rattle.ctr_record_effects.specs.States.{pages_in, area_in}
use Rattle.ctr_record_effects.specs.Standing.{IsDatabaseState}
use Rattle.ctr_actions.specs.Sites.{site_of}
use Rattle.ctr_walk.proofs.Damages.{reads_err}
use Rattle.ctr_cursor.proofs.reading_Gathers.{eight_buckets}
use Rattle.ctr_cursor.proofs.reading_Told.{reads_behind}
use Rattle.ctr_cursor.specs.declared.position.Position.{Position}
use Rattle.ctr_cursor.specs.declared.position.Position.TheVariants.{Entry}
use Rattle.ctr_cursor.specs.Pass.{next_position}
use Rattle.ctr_cursor.specs.Standing.{IsPosition}
use Rattle.ctr_totals.specs.Along.{GoesAlong}
use Rattle.ctr_totals.specs.Counting.{AreCountedOf}
use Rattle.ctr_totals.proofs.Few.{slots_few}
use Rattle.ctr_totals.proofs.Going.{entry_goes}
use Rattle.ctr_totals.proofs.counting.count.Given.{Over}
use Rattle.ctr_totals.proofs.counting.count.Goals.{After-count_from}
use Rattle.ctr_totals.proofs.counting.count.Goals as goal

pub returns-in-Err-clause-leaves : goal.returns-in-Err-clause-leaves
returns-in-Err-clause-leaves g c = reads_err g.O.Origin.first g.D.Disk (Option Position) _ c.in-Err.fault c.args.store.now c.advance.new.store c.in-Err.ensures.leaves

module _ (g : Over) (c : After-count_from g) (told : IsTrue g.D.Disk.tells) (sound : IsSoundImage g.O.Origin.first) where
  abbrev s : State
  s = c.args.store.now.now

  same : c.advance.new.store.now ≡ s
  same = (c.in-Ok.ensures.leaves.logs told sound).now

  goes : IsDatabaseState s → GoesAlong (site_of s) c.args.entry c.in-Ok.first (slot_places (area_in s) c.args.entry)
  goes database = subst (λ x. GoesAlong (site_of s) c.args.entry x (slot_places (area_in s) c.args.entry)) (sym (c.in-Ok.ensures.next told sound))
      (entry_goes s (λ x y at led. c.a_pass_goes_from_position_to_position.ensures.leads s x y database at led) c.args.entry database c.requires.there)

  position : IsDatabaseState s → IfSome c.in-Ok.first (λ x. IsPosition x (site_of s))
  position database = by c.in-Ok.first (c.in-Ok.ensures.next told sound)
    where
      by : (o : Option Position) → o ≡ next_position (site_of s) (Entry c.args.entry) → IfSome o (λ x. IsPosition x (site_of s))
      by None is = tt
      by (Some y) is = c.a_pass_goes_from_position_to_position.ensures.leads s (Entry c.args.entry) y database c.requires.there (sym is)

pub returns-in-Ok-clause-counts : goal.returns-in-Ok-clause-counts
returns-in-Ok-clause-counts g c = λ told sound database columns.
    let k = (goal.at.returns-in-Ok-clause-counts g c).After-count_from in
    let s = c.args.store.now.now in
    let places = slot_places (area_in s) c.args.entry in
    subst (λ (u : State). IsDatabaseState u → ((area_in u).title c.args.entry).columns ≡ load_columns → GoesAlong (site_of u) c.args.entry c.in-Ok.first places → IfSome c.in-Ok.first (λ x. IsPosition x (site_of u))
    → IfOk c.count_from.result (AreCountedOf (is_committed_in u.tables) (area_in u) places)) (same g k told sound)
    (λ d cs go at. c.count_from.ensures.counts c.args.entry places told sound d cs go at (slots_few (area_in s) c.args.entry (pages_bounded (pages_in s)) (eight_buckets (pages_in s) c.args.entry)))
    database columns (goes g k told sound database) (position g k told sound database)

pub returns-in-Ok-clause-refused : goal.returns-in-Ok-clause-refused
returns-in-Ok-clause-refused g c = λ told sound database columns.
    let k = (goal.at.returns-in-Ok-clause-refused g c).After-count_from in
    let s = c.args.store.now.now in
    let places = slot_places (area_in s) c.args.entry in
    subst (λ (u : State). IsDatabaseState u → ((area_in u).title c.args.entry).columns ≡ load_columns → GoesAlong (site_of u) c.args.entry c.in-Ok.first places → IfSome c.in-Ok.first (λ x. IsPosition x (site_of u))
    → IfErr c.count_from.result (λ f. f ≡ Fault)) (same g k told sound)
    (c.count_from.ensures.refused c.args.entry places told sound) database columns (goes g k told sound database) (position g k told sound database)

pub returns-in-Ok-clause-leaves : goal.returns-in-Ok-clause-leaves
returns-in-Ok-clause-leaves g c = reads_behind g.O.Origin.first g.D.Disk c.in-Ok.first c.count_from.result c.args.store.now c.advance.new.store c.count_from.new.store c.in-Ok.ensures.leaves c.count_from.ensures.leaves
