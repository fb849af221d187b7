use Rattle.std.proofs.Common.{◌≡◌, ℕ, suc, ◌-◌, Bool, true, false, Ok, sym, ◌∙◌, ap, subst, arith}
use Rattle.std.specs.Prelude.{IsTrue, ⊤}
use Rattle.ctr_pvs.specs.base_Base.{IsSoundImage}
use Rattle.ctr_disk.specs.declared.fault.StoreFault.TheVariants.{Fault}
use Rattle.ctr_pvs.specs.redo_States.{State}
use Rattle.ctr_meta.specs.Kept.{TablesKept}
use Rattle.ctr_meta.specs.Tables.{Tables}
use Rattle.ctr_page.specs.declared.rows.Place.{Place}
use Rattle.ctr_area.specs.Chains.{older_places}
use Rattle.ctr_area.specs.Sound.{IsAmong}
use Rattle.ctr_record_effects.specs.States.{area_in}
use Rattle.ctr_record_effects.specs.Standing.{IsDatabaseState}
use Rattle.ctr_pvs.specs.store_Store.{LeavesPage}
use Rattle.ctr_pvs.proofs.walk_Damages.{reads_err, reads_behind}
use Rattle.ctr_pvs.proofs.walk_Joins.{pages_join, answers_ok}
use Rattle.ctr_clean.specs.declared.older.OlderFacts.{OlderFacts}
use Rattle.ctr_clean.specs.Choosing.{passes_below}
use Rattle.ctr_clean.specs.Older.{IsSaid}
use Rattle.ctr_clean.proofs.Resting.{rests_read}
use Rattle.ctr_clean.specs.declared.cutting.CutFound.{CutFound}
use Rattle.ctr_clean.specs.declared.cutting.CutFound.TheVariants.{Behind, Nowhere}
use Rattle.ctr_clean.proofs.Passed.{IsOnWayTo, way_starts, kept_on_way, passes_on, cut_here, last_here, none_here, none_near}
use Rattle.ctr_clean.proofs.cutting.cut_along.Given.{Over}
use Rattle.ctr_clean.proofs.cutting.cut_along.Goals.{In-Ok}
use Rattle.ctr_clean.proofs.cutting.cut_along.Goals as goal

-- one step is left, and more
one_more : (n : ℕ) → (n ≡ 0 → ⊥) → n ≡ suc (n - 1)
one_more n some = omega (arith, some)

pub loop-left-init : goal.loop-left-init
loop-left-init g c = (
  rests_read g.O.Origin.first g.D.Disk c.args.store.now tt (λ told sound. c.rests.ensures told sound c.requires.going) c.requires.going,
  λ told sound. way_starts (passes_below c.args.low c.args.store.now.now.tables) (area_in c.args.store.now.now) c.args.from,
)

pub returns-then-at-eq0-clause-tells : goal.returns-then-at-eq0-clause-tells
returns-then-at-eq0-clause-tells g c = λ e key told sound database leads.
    none_here (passes_below c.args.low c.args.store.now.now.tables) (area_in c.args.store.now.now) c.args.from c.loop-left.at c.loop-left.left c.if-at-eq0.true (c.loop-left.invariant.1 told sound)

pub returns-then-at-counted-clause-tells : goal.returns-then-at-counted-clause-tells
returns-then-at-counted-clause-tells g c = λ e key told sound database leads.
    let s = c.args.store.now.now in
    let passes = passes_below c.args.low s.tables in
    let at = c.loop-left.at in
    let n = c.loop-left.left in
    let way = subst (IsOnWayTo passes (area_in s) c.args.from at) (one_more n c.loop-left-test.true) (c.loop-left.invariant.1 told sound) in
    let kept = (kept_on_way passes (area_in s) c.args.from at (n - 1) c.if-at-eq0.false way e key leads).0 in
    let inside = (c.a_place_of_a_table_fits.ensures.versions s e at database kept.0).4 in
    let same : c.counted.result ≡ s.counted = c.counted.ensures ∙ ap (λ (u : State). u.counted) (c.loop-left.invariant.0.logs told sound).now in
    absurd (omega (arith, inside, same, c.if-at-counted.true))

pub returns-in-Err-clause-leaves : goal.returns-in-Err-clause-leaves
returns-in-Err-clause-leaves g c =
    let first = g.O.Origin.first in
    let mid = c.loop-left.store in
    let new = c.look_older.new.store in
    reads_behind first g.D.Disk CutFound tt c.args.store.now mid new c.in-Err.fault c.loop-left.invariant.0 (reads_err first g.D.Disk OlderFacts ⊤ c.in-Err.fault mid new c.in-Err.ensures.leaves)

pub returns-in-Err-clause-refused : goal.returns-in-Err-clause-refused
returns-in-Err-clause-refused g c = λ e key told sound database leads.
    let s = c.args.store.now.now in
    let passes = passes_below c.args.low s.tables in
    let at = c.loop-left.at in
    let n = c.loop-left.left in
    let way = subst (IsOnWayTo passes (area_in s) c.args.from at) (one_more n c.loop-left-test.true) (c.loop-left.invariant.1 told sound) in
    let kept = (kept_on_way passes (area_in s) c.args.from at (n - 1) c.if-at-eq0.false way e key leads).0 in
    subst (λ (u : State). IsDatabaseState u → IsAmong at (older_places (area_in u) e) → c.in-Err.fault ≡ Fault) (c.loop-left.invariant.0.logs told sound).now (c.in-Err.ensures.refused e told sound) database kept.0

-- a version entry was read
module _ (g : Over) (c : In-Ok g) where
  abbrev s : State
  s = c.args.store.now.now

  abbrev n : ℕ
  n = c.loop-left.left - 1

  read : LeavesPage {T = OlderFacts} g.O.Origin.first g.D.Disk c.args.store.now c.look_older.new.store (Ok c.in-Ok.facts)
  read = pages_join g.D.Disk c.args.store.now c.loop-left.store c.look_older.new.store g.O.Origin.first ⊤ OlderFacts tt (Ok c.in-Ok.facts) c.loop-left.invariant.0 c.in-Ok.ensures.leaves

  module _ (told : IsTrue g.D.Disk.tells) (sound : IsSoundImage g.O.Origin.first) where
    said : IsSaid ((area_in s).older c.loop-left.at) c.in-Ok.facts
    said = subst (λ (u : State). IsSaid ((area_in u).older c.loop-left.at) c.in-Ok.facts) (c.loop-left.invariant.0.logs told sound).now (c.in-Ok.ensures.tells told sound)

    way : IsOnWayTo (passes_below c.args.low s.tables) (area_in s) c.args.from c.loop-left.at (suc n)
    way = subst (IsOnWayTo (passes_below c.args.low s.tables) (area_in s) c.args.from c.loop-left.at) (one_more c.loop-left.left c.loop-left-test.true) (c.loop-left.invariant.1 told sound)

    -- the test by the store's tables is that by the state's
    passing : (m : TablesKept) (b : Bool) → m.tables ≡ c.look_older.new.store.now.tables → passes_below c.args.low m.tables c.in-Ok.facts.xid ≡ b → passes_below c.args.low s.tables ((area_in s).older c.loop-left.at).version.0 ≡ b
    passing m b now test =
        let same = now ∙ ap (λ (u : State). u.tables) (read.logs told sound).now in
        ap (passes_below c.args.low s.tables) said.xid ∙ subst (λ (t : Tables). passes_below c.args.low t c.in-Ok.facts.xid ≡ b) same test

pub returns-then-facts-eq0-clause-tells : goal.returns-then-facts-eq0-clause-tells
returns-then-facts-eq0-clause-tells g c = λ e key told sound database leads.
    let k = (goal.at.returns-then-facts-eq0-clause-tells g c).In-Ok in
    let is = passing g k told sound c.meta.result.now true (ap (λ (m : TablesKept). m.tables) c.meta.ensures.tables ∙ c.meta.ensures.now told sound c.in-Ok.ensures.leaves.going) (sym c.passes.ensures ∙ c.if-passes.true) in
    last_here (passes_below c.args.low c.args.store.now.now.tables) (area_in c.args.store.now.now) c.args.from c.loop-left.at (n g k) c.if-at-eq0.false (way g k told sound) is (ap (λ (p : Place). p.page) (said g k told sound).next ∙ c.if-facts-eq0.true)

pub returns-then-facts-eq0-clause-leaves : goal.returns-then-facts-eq0-clause-leaves
returns-then-facts-eq0-clause-leaves g c =
    answers_ok g.O.Origin.first g.D.Disk c.in-Ok.facts Nowhere c.args.store.now c.look_older.new.store (read g (goal.at.returns-then-facts-eq0-clause-leaves g c).In-Ok)

pub returns-then-passes-clause-tells : goal.returns-then-passes-clause-tells
returns-then-passes-clause-tells g c = λ e key told sound database leads.
    let k = (goal.at.returns-then-passes-clause-tells g c).In-Ok in
    let is = passing g k told sound c.meta.result.now true (ap (λ (m : TablesKept). m.tables) c.meta.ensures.tables ∙ c.meta.ensures.now told sound c.in-Ok.ensures.leaves.going) (sym c.passes.ensures ∙ c.if-passes.true) in
    cut_here (passes_below c.args.low c.args.store.now.now.tables) (area_in c.args.store.now.now) c.args.from c.loop-left.at (n g k) c.if-at-eq0.false (way g k told sound) e key leads is (λ none. c.if-facts-eq0.false (sym (ap (λ (p : Place). p.page) (said g k told sound).next) ∙ none))

pub returns-then-passes-clause-leaves : goal.returns-then-passes-clause-leaves
returns-then-passes-clause-leaves g c =
    answers_ok g.O.Origin.first g.D.Disk c.in-Ok.facts (Behind c.loop-left.at) c.args.store.now c.look_older.new.store (read g (goal.at.returns-then-passes-clause-leaves g c).In-Ok)

pub loop-left-preserved : goal.loop-left-preserved
loop-left-preserved g c =
    let k = (goal.at.loop-left-preserved g c).In-Ok in (
      answers_ok g.O.Origin.first g.D.Disk c.in-Ok.facts tt c.args.store.now c.look_older.new.store (read g k),
      λ told sound.
          passes_on (passes_below c.args.low c.args.store.now.now.tables) (area_in c.args.store.now.now) c.args.from c.loop-left.at (n g k) c.if-at-eq0.false (way g k told sound)
          (passing g k told sound c.meta.result.now false (ap (λ (m : TablesKept). m.tables) c.meta.ensures.tables ∙ c.meta.ensures.now told sound c.in-Ok.ensures.leaves.going) (sym c.passes.ensures ∙ c.if-passes.false)) c.in-Ok.facts.next (said g k told sound).next,
    )

pub returns-then-at-eq0-2-clause-tells : goal.returns-then-at-eq0-2-clause-tells
returns-then-at-eq0-2-clause-tells g c = λ e key told sound database leads.
    none_here (passes_below c.args.low c.args.store.now.now.tables) (area_in c.args.store.now.now) c.args.from c.loop-left.at c.loop-left.left c.if-at-eq0-2.true (c.loop-left.invariant.1 told sound)

pub returns-else-at-eq0-2-clause-tells : goal.returns-else-at-eq0-2-clause-tells
returns-else-at-eq0-2-clause-tells g c = λ e key told sound database leads.
    none_near (passes_below c.args.low c.args.store.now.now.tables) (area_in c.args.store.now.now) c.args.from c.loop-left.at c.if-at-eq0-2.false
    (subst (IsOnWayTo (passes_below c.args.low c.args.store.now.now.tables) (area_in c.args.store.now.now) c.args.from c.loop-left.at) c.loop-left-test.false (c.loop-left.invariant.1 told sound))
