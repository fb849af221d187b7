use Rattle.std.proofs.Common.{◌≡◌, ◌≤◌, ◌<◌, ◌+◌, ℕ, suc, Ok, Err, refl, sym, ◌∙◌, ap, subst, arith}
use Rattle.std.specs.Prelude.{⊤}
use Rattle.ctr_pass.proofs.session_world_Disks.{disk_behind, disk_done, disk_failed}
use Rattle.ctr_pass.proofs.walk_Joins.{pages_join}
use Rattle.ctr_world.specs.declared.engine.Engine.{Engine}
use Rattle.ctr_pass.specs.cleaner_Turning.{next_cleaned}
use Rattle.ctr_world.specs.Held.{running}
use Rattle.ctr_world.proofs.Onward.{along_same, next_low}
use Rattle.ctr_world.proofs.Reading.{as_unread, one_read, read_behind_steps}
use Rattle.ctr_world.proofs.engine.Engine.clean_onward.Goals as goal

pub loop-taken-init : goal.loop-taken-init
loop-taken-init g c =
    let old = running c.args.self.now in
    let now = running c.clean_next.new.self in
    let e = c.in-Ok.ensures in (
      e.ready,
      (λ s tells sound shows keeps. e.kept s tells sound shows keeps),
      (0, omega arith, e.cleans),
      subst (λ (n : ℕ). n ≤ old.store.next + 1) (sym e.cleans.numbers) (next_low e.cleans.went.did old.store.next),
      as_unread c.args.self.now c.clean_next.new.self c.clean_next.ensures.same,
      disk_done g.B.Origin.first g.D.Disk old.store now.store _ tt e.disk,
      e.page,
      (λ i. (c.clean_next.ensures.same i).read) ∙ c.requires.unread,
    )

pub loop-taken-preserved : goal.loop-taken-preserved
loop-taken-preserved g c =
    let first = g.B.Origin.first in
    let d = g.D.Disk in
    let old = running c.args.self.now in
    let mid = running c.loop-taken.self in
    let read = running c.read_ahead.new.self in
    let new = running c.clean_next-in-loop-taken.new.self in
    let i = c.loop-taken.invariant in
    let p = c.in-Ok-false.ensures in
    let e = c.in-Ok-clean_next.ensures in
    let none : mid.store.next ≡ old.store.next = sym c.next.ensures ∙ c.if-next.false ∙ c.next-next.ensures in
    let same : read.store.next ≡ old.store.next = p.page.keeps.next ∙ none in
    let page = pages_join d old.store mid.store read.store first ⊤ ⊤ tt (Ok tt) (i.6 none) p.page in (
      e.ready,
      (λ s tells sound shows keeps. let both = i.1 s tells sound shows keeps in let then = p.kept s tells sound both.0 both.1 in e.kept s tells sound then.0 then.1),
      (suc i.2.0, omega (arith, i.2.1), (read, along_same old mid read (λ j. (p.same j).pass) p.page.keeps.next i.2.0 i.2.2, same, e.cleans)),
      subst (λ (n : ℕ). n ≤ old.store.next + 1) (sym e.cleans.numbers) (subst (λ (n : ℕ). next_cleaned e.cleans.went.did n ≤ old.store.next + 1) (sym same) (next_low e.cleans.went.did old.store.next)),
      as_unread c.read_ahead.new.self c.clean_next-in-loop-taken.new.self c.clean_next-in-loop-taken.ensures.same
          ∙ ap (λ (x : Engine g.row.D.Denot g.row.B.Denot). record x { store = new.store; sessions = record x.sessions { txns = new.sessions.txns }; pass = new.pass; read = new.read }) (read_behind_steps c.args.self.now c.loop-taken.self c.read_ahead.new.self i.4 p.same),
      disk_behind first d old.store read.store new.store tt (Ok tt) page (disk_done first d read.store new.store _ tt e.disk),
      (λ it. pages_join d old.store read.store new.store first ⊤ ⊤ tt (Ok tt) page (e.page (it ∙ sym same))),
      (λ j. (c.clean_next-in-loop-taken.ensures.same j).read) ∙ p.none c.in-Ok-false.field-0-test,
    )

pub returns-in-Err-clean_next-clause-kept : goal.returns-in-Err-clean_next-clause-kept
returns-in-Err-clean_next-clause-kept g c = λ s tells sound shows keeps.
    let both = c.loop-taken.invariant.1 s tells sound shows keeps in
    let then = c.in-Ok-false.ensures.kept s tells sound both.0 both.1 in
    c.in-Err-clean_next.ensures.kept s tells sound then.0 then.1

pub returns-in-Err-clean_next-clause-disk : goal.returns-in-Err-clean_next-clause-disk
returns-in-Err-clean_next-clause-disk g c =
    let first = g.B.Origin.first in
    let d = g.D.Disk in
    let old = running c.args.self.now in
    let mid = running c.loop-taken.self in
    let read = running c.read_ahead.new.self in
    let new = running c.clean_next-in-loop-taken.new.self in
    let none : mid.store.next ≡ old.store.next = sym c.next.ensures ∙ c.if-next.false ∙ c.next-next.ensures in
    let page = pages_join d old.store mid.store read.store first ⊤ ⊤ tt (Ok tt) (c.loop-taken.invariant.6 none) c.in-Ok-false.ensures.page in
    disk_behind first d old.store read.store new.store tt (Err c.in-Err-clean_next.fault) page (disk_failed first d read.store new.store c.in-Err-clean_next.fault c.in-Err-clean_next.ensures.disk)

-- a page was read for where the pass has come to
pub returns-in-Ok-true-clause-kept : goal.returns-in-Ok-true-clause-kept
returns-in-Ok-true-clause-kept g c = λ s tells sound shows keeps.
    let both = c.loop-taken.invariant.1 s tells sound shows keeps in
    c.in-Ok-true.ensures.kept s tells sound both.0 both.1

pub returns-in-Ok-true-clause-cleans : goal.returns-in-Ok-true-clause-cleans
returns-in-Ok-true-clause-cleans g c =
    let old = running c.args.self.now in
    let mid = running c.loop-taken.self in
    let read = running c.read_ahead.new.self in
    let i = c.loop-taken.invariant in
    let p = c.in-Ok-true.ensures in (
      (i.2.0, omega (arith, i.2.1, c.loop-taken-test.true), along_same old mid read (λ j. (p.same j).pass) p.page.keeps.next i.2.0 i.2.2),
      one_read mid.read read.read i.7 (p.more c.in-Ok-true.field-0-test).1,
    )

pub returns-in-Ok-true-clause-disk : goal.returns-in-Ok-true-clause-disk
returns-in-Ok-true-clause-disk g c =
    let first = g.B.Origin.first in
    let d = g.D.Disk in
    let old = running c.args.self.now in
    let mid = running c.loop-taken.self in
    let read = running c.read_ahead.new.self in
    let none : mid.store.next ≡ old.store.next = sym c.next.ensures ∙ c.if-next.false ∙ c.next-next.ensures in
    disk_behind first d old.store mid.store read.store tt (Ok tt) (c.loop-taken.invariant.6 none) (disk_done first d mid.store read.store _ tt c.in-Ok-true.ensures.disk)

pub returns-in-Err-read_ahead-clause-kept : goal.returns-in-Err-read_ahead-clause-kept
returns-in-Err-read_ahead-clause-kept g c = λ s tells sound shows keeps.
    let both = c.loop-taken.invariant.1 s tells sound shows keeps in
    c.in-Err-read_ahead.ensures.kept s tells sound both.0 both.1

pub returns-in-Err-read_ahead-clause-disk : goal.returns-in-Err-read_ahead-clause-disk
returns-in-Err-read_ahead-clause-disk g c =
    let first = g.B.Origin.first in
    let d = g.D.Disk in
    let old = running c.args.self.now in
    let mid = running c.loop-taken.self in
    let read = running c.read_ahead.new.self in
    let none : mid.store.next ≡ old.store.next = sym c.next.ensures ∙ c.if-next.false ∙ c.next-next.ensures in
    disk_behind first d old.store mid.store read.store tt (Err c.in-Err-read_ahead.fault) (c.loop-taken.invariant.6 none) (disk_failed first d mid.store read.store c.in-Err-read_ahead.fault c.in-Err-read_ahead.ensures.disk)
