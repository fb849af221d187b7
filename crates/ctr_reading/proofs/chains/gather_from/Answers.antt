use Rattle.std.proofs.Common.{◌≡◌, ◌<◌, ◌≤◌, ◌-◌, suc, inl, inr, ℕ, length, Result, Ok, Err, refl, sym, ◌∙◌, ap, subst, arith}
use Rattle.std.specs.Prelude.{IfOk, ⊤}
use Rattle.ctr_redo.specs.States.{State}
use Rattle.ctr_area.specs.Chains.{pages_bound, pages_from, places_on}
use Rattle.ctr_walk.specs.record_effects_States.{area_in}
use Rattle.ctr_views.specs.chain_ReadRefusal.{ReadRefusal}
use Rattle.ctr_walk.proofs.PagesRead.{still_goes, same_now, was_read}
use Rattle.ctr_reading.specs.Reading.{as_told, sight_sees, IsDiskOrMemory}
use Rattle.ctr_reading.specs.Gathering.{gathered, Gathers, IsBucketPage}
use Rattle.ctr_reading.proofs.Told.{same_counted, reads_further, told_err, told_ok, ok_so}
use Rattle.ctr_reading.proofs.Walked.{IsWalked, few_steps, walk_begins, walk_ends, is_on, too_many, walk_on, walk_refused, bucket_page, bucket_few}
use Rattle.ctr_reading.proofs.chains.gather_from.Goals as goal

pub loop-at-init : goal.loop-at-init
loop-at-init g c = (
  inl (refl, (refl, refl)),
  c.requires.counted,
  λ told sound.
      let s = c.args.store.now.now in
      walk_begins (sight_sees s.tables c.args.sight.now) (area_in s) c.args.first c.saturating_sub-most.result c.args.rows.now
      (subst (λ m. m < _) (sym (c.saturating_sub-most.ensures ∙ ap (λ n. n - 3) c.counted.ensures)) (few_steps s.counted c.counts_pages.ensures.1)),
)

pub too_long-requires : goal.too_long-requires
too_long-requires g c = record { going = still_goes g.O.Origin.first g.D.Disk _ c.args.store.now c.loop-at.store c.loop-at.invariant.0 c.requires.going }

pub returns-then-left-eq0-clause-gathers : goal.returns-then-left-eq0-clause-gathers
returns-then-left-eq0-clause-gathers g c = λ told sound. ok_so (λ x. ⊥) _ (as_told c.too_long.result) (λ x none. absurd none) c.too_long.ensures.fails

pub returns-then-left-eq0-clause-refused : goal.returns-then-left-eq0-clause-refused
returns-then-left-eq0-clause-refused g c = λ told sound bucket.
    let s = c.args.store.now.now in
    let first = c.args.first in
    let at = c.loop-at.at in
    let most = c.saturating_sub-most.result in
    let test = sight_sees s.tables c.args.sight.now in
    let walked = c.loop-at.invariant.2 told sound in
    let on = is_on test (area_in s) first most c.args.rows.now at c.loop-at.left c.loop-at.rows walked c.loop-at-test.true in
    absurd (too_many test (area_in s) first most c.args.rows.now at c.loop-at.left c.loop-at.rows walked c.loop-at-test.true c.if-left-eq0.true
    (subst (λ m. length (pages_from pages_bound (area_in s).header first) ≤ m) (sym (c.saturating_sub-most.ensures ∙ ap (λ n. n - 3) c.counted.ensures)) (bucket_few c.args.chain first at s bucket on)))

pub returns-then-left-eq0-clause-leaves : goal.returns-then-left-eq0-clause-leaves
returns-then-left-eq0-clause-leaves g c =
    c.too_long.ensures.leaves c.args.store.now (was_read g.O.Origin.first g.D.Disk _ c.args.store.now c.loop-at.store c.loop-at.invariant.0
    (λ u. omega (arith, u.1, c.if-left-eq0.true, c.saturating_sub-most.ensures, c.counted.ensures, c.counts_pages.ensures.0)))

pub gather_page-requires-clause-going : goal.gather_page-requires-clause-going
gather_page-requires-clause-going g c = still_goes g.O.Origin.first g.D.Disk _ c.args.store.now c.loop-at.store c.loop-at.invariant.0 c.requires.going

pub gather_page-requires-clause-counted : goal.gather_page-requires-clause-counted
gather_page-requires-clause-counted g c = subst (λ (n : ℕ). c.loop-at.at < n) (sym (same_counted g.O.Origin.first g.D.Disk _ c.args.store.now c.loop-at.store c.loop-at.invariant.0)) c.loop-at.invariant.1

pub returns-in-Err-clause-gathers : goal.returns-in-Err-clause-gathers
returns-in-Err-clause-gathers g c = λ told sound.
    let s = c.args.store.now.now in
    let at = c.loop-at.at in
    let same = same_now g.O.Origin.first g.D.Disk _ c.args.store.now c.loop-at.store c.loop-at.invariant.0 told sound in
    let r : Result ℕ ReadRefusal = Err c.in-Err.refusal in
    let here = subst (λ (t : State). IfOk (as_told r) (Gathers (gathered (sight_sees t.tables c.args.sight.now) (area_in t) (places_on at 0 ((area_in t).room at)) c.loop-at.rows) c.gather_page.new.rows)) same (c.in-Err.ensures.gathers told sound) in
    walk_refused (sight_sees s.tables c.args.sight.now) (area_in s) c.args.first c.saturating_sub-most.result c.args.rows.now at c.loop-at.left c.loop-at.rows (c.loop-at.invariant.2 told sound) c.loop-at-test.true
    ℕ ⊤ c.in-Err.refusal c.gather_page.new.rows c.gather_page.new.rows here

pub returns-in-Err-clause-refused : goal.returns-in-Err-clause-refused
returns-in-Err-clause-refused g c = λ told sound bucket.
    let s = c.args.store.now.now in
    let at = c.loop-at.at in
    let same = same_now g.O.Origin.first g.D.Disk _ c.args.store.now c.loop-at.store c.loop-at.invariant.0 told sound in
    let on = is_on (sight_sees s.tables c.args.sight.now) (area_in s) c.args.first c.saturating_sub-most.result c.args.rows.now at c.loop-at.left c.loop-at.rows (c.loop-at.invariant.2 told sound) c.loop-at-test.true in
    subst (λ (t : State). IsBucketPage c.args.chain at t → IsDiskOrMemory c.in-Err.refusal) same (c.in-Err.ensures.refused told sound) (bucket_page c.args.chain c.args.first at s bucket on)

pub returns-in-Err-clause-leaves : goal.returns-in-Err-clause-leaves
returns-in-Err-clause-leaves g c =
    told_err g.O.Origin.first g.D.Disk ℕ ⊤ c.in-Err.refusal c.args.store.now c.gather_page.new.store
    (reads_further g.O.Origin.first g.D.Disk _ (as_told {T = ℕ} (Err c.in-Err.refusal)) c.args.store.now c.loop-at.store c.gather_page.new.store c.loop-at.invariant.0 c.in-Err.ensures.leaves)

pub loop-at-preserved : goal.loop-at-preserved
loop-at-preserved g c =
    let goes : c.loop-at.left ≡ suc (c.loop-at.left - 1) = omega (arith, c.if-left-eq0.false) in (
      inr (told_ok g.O.Origin.first g.D.Disk _ tt c.args.store.now c.gather_page.new.store
          (reads_further g.O.Origin.first g.D.Disk _ (Ok (Ok c.in-Ok.next)) c.args.store.now c.loop-at.store c.gather_page.new.store c.loop-at.invariant.0 c.in-Ok.ensures.leaves)),
      subst (λ (n : ℕ). c.in-Ok.next < n) (same_counted g.O.Origin.first g.D.Disk _ c.args.store.now c.loop-at.store c.loop-at.invariant.0) c.in-Ok.ensures.inside,
      λ told sound.
          let s = c.args.store.now.now in
          let at = c.loop-at.at in
          let test = sight_sees s.tables c.args.sight.now in
          let same = same_now g.O.Origin.first g.D.Disk _ c.args.store.now c.loop-at.store c.loop-at.invariant.0 told sound in
          let next_is = subst (λ (t : State). c.in-Ok.next ≡ ((area_in t).header at).next) same (c.in-Ok.ensures.goes told sound) in
          let rows_are = subst (λ (t : State). c.gather_page.new.rows ≡ gathered (sight_sees t.tables c.args.sight.now) (area_in t) (places_on at 0 ((area_in t).room at)) c.loop-at.rows) same (c.in-Ok.ensures.gathers told sound) in
          subst (IsWalked test (area_in s) c.args.first c.saturating_sub-most.result c.in-Ok.next (c.loop-at.left - 1) c.args.rows.now) (sym rows_are)
          (walk_on test (area_in s) c.args.first c.saturating_sub-most.result c.args.rows.now at c.loop-at.left c.loop-at.rows (c.loop-at.invariant.2 told sound) c.loop-at-test.true (c.loop-at.left - 1) c.in-Ok.next goes next_is),
    )

pub returns-clause-gathers : goal.returns-clause-gathers
returns-clause-gathers g c = λ told sound.
    let s = c.args.store.now.now in
    walk_ends (sight_sees s.tables c.args.sight.now) (area_in s) c.args.first c.saturating_sub-most.result c.args.rows.now c.loop-at.at c.loop-at.left c.loop-at.rows (c.loop-at.invariant.2 told sound) c.loop-at-test.false

pub returns-clause-leaves : goal.returns-clause-leaves
returns-clause-leaves g c =
    told_ok g.O.Origin.first g.D.Disk tt _ c.args.store.now c.loop-at.store
    (was_read g.O.Origin.first g.D.Disk _ c.args.store.now c.loop-at.store c.loop-at.invariant.0 (λ u. c.requires.some (sym u.0 ∙ c.loop-at-test.false)))
