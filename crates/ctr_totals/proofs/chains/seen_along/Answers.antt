use Rattle.std.proofs.Common.{◌≡◌, ℕ, suc, ℤ, ◌-◌, Bool, true, false, Option, Ok, sym, ◌∙◌, ap, subst, arith}
use Rattle.std.specs.Prelude.{IsTrue, ⊤}
use Rattle.ctr_load.specs.Statements.{load_columns}
use Rattle.ctr_base.specs.Base.{IsSoundImage}
use Rattle.ctr_disk.specs.declared.fault.StoreFault.TheVariants.{Fault}
use Rattle.ctr_walk.specs.redo_States.{State}
use Rattle.ctr_meta.specs.Kept.{TablesKept}
use Rattle.ctr_meta.specs.Tables.{Tables}
use Rattle.ctr_area.specs.Chains.{older_bound, older_places, Leads}
use Rattle.ctr_area.specs.Images.{is_committed_in}
use Rattle.ctr_area.specs.Reading.{columns_on}
use Rattle.ctr_area.specs.Sound.{IsAmong, IsKeptFor}
use Rattle.ctr_record_effects.specs.States.{pages_in, area_in}
use Rattle.ctr_record_effects.specs.Standing.{IsDatabaseState}
use Rattle.ctr_store.specs.Store.{LeavesPage}
use Rattle.ctr_walk.proofs.Damages.{reads_err, reads_behind}
use Rattle.ctr_walk.proofs.Joins.{pages_join, answers_ok}
use Rattle.ctr_totals.specs.declared.facts.OlderFacts.{OlderFacts}
use Rattle.ctr_totals.specs.Facts.{IsKnownOlder}
use Rattle.ctr_totals.proofs.Left.{rests_read}
use Rattle.ctr_totals.proofs.Seen.{way_starts, IsOnWay, kept_here, seen_here, goes_on, ends_here}
use Rattle.ctr_totals.proofs.chains.seen_along.Given.{Over}
use Rattle.ctr_totals.proofs.chains.seen_along.Goals.{In-Ok}
use Rattle.ctr_totals.proofs.chains.seen_along.Goals as goal

-- one step is left, and more
one_more : (n : ℕ) → (n ≡ 0 → ⊥) → n ≡ suc (n - 1)
one_more n some = omega (arith, some)

pub loop-left-init : goal.loop-left-init
loop-left-init g c = record {
  read = rests_read g.O.Origin.first g.D.Disk c.args.store.now tt (λ told sound. c.rests.ensures told sound c.requires.going) c.requires.going;
  way = λ told sound e key database columns leads. way_starts (is_committed_in c.args.store.now.now.tables) (area_in c.args.store.now.now) e key c.args.from leads;
}

pub returns-then-at-eq0-clause-tells : goal.returns-then-at-eq0-clause-tells
returns-then-at-eq0-clause-tells g c = λ e key told sound database columns leads.
    ends_here (is_committed_in c.args.store.now.now.tables) (area_in c.args.store.now.now) e key c.args.from c.loop-left.at c.loop-left.left c.if-at-eq0.true (c.loop-left.invariant.way told sound e key database columns leads)

pub returns-then-at-counted-clause-tells : goal.returns-then-at-counted-clause-tells
returns-then-at-counted-clause-tells g c = λ e key told sound database columns leads.
    let s = c.args.store.now.now in
    let test = is_committed_in s.tables in
    let at = c.loop-left.at in
    let n = c.loop-left.left in
    let way = subst (IsOnWay test (area_in s) e key c.args.from at) (one_more n c.loop-left-test.true) (c.loop-left.invariant.way told sound e key database columns leads) in
    let kept = (kept_here test (area_in s) e key c.args.from at (n - 1) c.if-at-eq0.false way).0 in
    let inside = (c.a_place_of_a_table_fits.ensures.versions s e at database kept.0).4 in
    let same : c.counted.result ≡ s.counted = c.counted.ensures ∙ ap (λ (u : State). u.counted) (c.loop-left.invariant.read.logs told sound).now in
    absurd (omega (arith, inside, same, c.if-at-counted.true))

pub returns-in-Err-clause-leaves : goal.returns-in-Err-clause-leaves
returns-in-Err-clause-leaves g c =
    let first = g.O.Origin.first in
    let mid = c.loop-left.store in
    let new = c.look_older.new.store in
    reads_behind first g.D.Disk (Option ℤ) tt c.args.store.now mid new c.in-Err.fault c.loop-left.invariant.read (reads_err first g.D.Disk OlderFacts ⊤ c.in-Err.fault mid new c.in-Err.ensures.leaves)

pub returns-in-Err-clause-refused : goal.returns-in-Err-clause-refused
returns-in-Err-clause-refused g c = λ e key told sound database columns leads.
    let s = c.args.store.now.now in
    let test = is_committed_in s.tables in
    let at = c.loop-left.at in
    let n = c.loop-left.left in
    let way = subst (IsOnWay test (area_in s) e key c.args.from at) (one_more n c.loop-left-test.true) (c.loop-left.invariant.way told sound e key database columns leads) in
    let kept = (kept_here test (area_in s) e key c.args.from at (n - 1) c.if-at-eq0.false way).0 in
    subst (λ (u : State). IsDatabaseState u → IsAmong at (older_places (area_in u) e) → c.in-Err.fault ≡ Fault) (c.loop-left.invariant.read.logs told sound).now (c.in-Err.ensures.refused e told sound) database kept.0

-- a version entry was read
module _ (g : Over) (c : In-Ok g) where
  abbrev s : State
  s = c.args.store.now.now

  abbrev n : ℕ
  n = c.loop-left.left - 1

  read : LeavesPage {T = OlderFacts} g.O.Origin.first g.D.Disk c.args.store.now c.look_older.new.store (Ok c.in-Ok.facts)
  read = pages_join g.D.Disk c.args.store.now c.loop-left.store c.look_older.new.store g.O.Origin.first ⊤ OlderFacts tt (Ok c.in-Ok.facts) c.loop-left.invariant.read c.in-Ok.ensures.leaves

  module _ (told : IsTrue g.D.Disk.tells) (sound : IsSoundImage g.O.Origin.first) (e : ℕ) (key : ℤ) (database : IsDatabaseState s) (columns : ((area_in s).title e).columns ≡ load_columns)
      (leads : Leads older_bound (area_in s).older (IsKeptFor (area_in s) e key) c.args.from)
    where
      way : IsOnWay (is_committed_in s.tables) (area_in s) e key c.args.from c.loop-left.at (suc n)
      way = subst (IsOnWay (is_committed_in s.tables) (area_in s) e key c.args.from c.loop-left.at) (one_more c.loop-left.left c.loop-left-test.true) (c.loop-left.invariant.way told sound e key database columns leads)

      said : IsKnownOlder ((area_in s).older c.loop-left.at) c.in-Ok.facts
      said =
          let kept = (kept_here (is_committed_in s.tables) (area_in s) e key c.args.from c.loop-left.at n c.if-at-eq0.false way).0 in
          let here = (c.a_place_of_a_table_fits.ensures.versions s e c.loop-left.at database kept.0).2 ∙ columns in
          subst (λ (u : State). columns_on (pages_in u) c.loop-left.at.page ≡ load_columns → IsKnownOlder ((area_in u).older c.loop-left.at) c.in-Ok.facts) (c.loop-left.invariant.read.logs told sound).now (c.in-Ok.ensures.tells told sound) here

      -- the test by the store's tables is that by the state's
      passing : (m : TablesKept) (b : Bool) → m.tables ≡ c.look_older.new.store.now.tables → is_committed_in m.tables c.in-Ok.facts.version.xid ≡ b → is_committed_in s.tables ((area_in s).older c.loop-left.at).version.0 ≡ b
      passing m b now test =
          let same = now ∙ ap (λ (u : State). u.tables) (read.logs told sound).now in
          ap (is_committed_in s.tables) said.version.0 ∙ subst (λ (t : Tables). is_committed_in t c.in-Ok.facts.version.xid ≡ b) same test

pub returns-then-is_committed-clause-tells : goal.returns-then-is_committed-clause-tells
returns-then-is_committed-clause-tells g c = λ e key told sound database columns leads.
    let k = (goal.at.returns-then-is_committed-clause-tells g c).In-Ok in
    let is = passing g k told sound e key database columns leads c.meta.result.now true (ap (λ (m : TablesKept). m.tables) c.meta.ensures.tables ∙ c.meta.ensures.now told sound c.in-Ok.ensures.leaves.going) (sym c.is_committed.ensures ∙ c.if-is_committed.true) in
    seen_here (is_committed_in c.args.store.now.now.tables) (area_in c.args.store.now.now) e key c.args.from c.loop-left.at (n g k) c.if-at-eq0.false (way g k told sound e key database columns leads) is
    c.in-Ok.facts.version.number (said g k told sound e key database columns leads).version.1

pub returns-then-is_committed-clause-leaves : goal.returns-then-is_committed-clause-leaves
returns-then-is_committed-clause-leaves g c =
    answers_ok g.O.Origin.first g.D.Disk c.in-Ok.facts c.in-Ok.facts.version.number c.args.store.now c.look_older.new.store (read g (goal.at.returns-then-is_committed-clause-leaves g c).In-Ok)

pub loop-left-preserved : goal.loop-left-preserved
loop-left-preserved g c =
    let k = (goal.at.loop-left-preserved g c).In-Ok in
    record {
      read = answers_ok g.O.Origin.first g.D.Disk c.in-Ok.facts tt c.args.store.now c.look_older.new.store (read g k);
      way = λ told sound e key database columns leads.
          goes_on (is_committed_in c.args.store.now.now.tables) (area_in c.args.store.now.now) e key c.args.from c.loop-left.at (n g k) c.if-at-eq0.false (way g k told sound e key database columns leads)
          (passing g k told sound e key database columns leads c.meta.result.now false (ap (λ (m : TablesKept). m.tables) c.meta.ensures.tables ∙ c.meta.ensures.now told sound c.in-Ok.ensures.leaves.going) (sym c.is_committed.ensures ∙ c.if-is_committed.false))
          c.in-Ok.facts.next (said g k told sound e key database columns leads).next;
    }

pub returns-clause-tells : goal.returns-clause-tells
returns-clause-tells g c = λ e key told sound database columns leads.
    sym (subst (IsOnWay (is_committed_in c.args.store.now.now.tables) (area_in c.args.store.now.now) e key c.args.from c.loop-left.at) c.loop-left-test.false (c.loop-left.invariant.way told sound e key database columns leads)).same
