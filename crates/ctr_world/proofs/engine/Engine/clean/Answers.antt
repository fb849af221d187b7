use Rattle.std.proofs.Common.{◌≡◌, ℕ, inl, inr, refl, sym, ◌∙◌, ap}
use Rattle.ctr_store.specs.Store.{View}
use Rattle.ctr_pass.proofs.session_world_Disks.{as_counted, disk_done}
use Rattle.ctr_pass.specs.Passing.{noted}
use Rattle.ctr_pass.specs.declared.pass.Pass.{Pass}
use Rattle.ctr_world.specs.Cleaning.{noted_pass}
use Rattle.ctr_world.specs.Held.{running}
use Rattle.ctr_world.proofs.Cleaned.{pass_looked, shows_looked}
use Rattle.ctr_world.proofs.Onward.{answered_same}
use Rattle.ctr_world.proofs.Passes.{pass_beside}
use Rattle.ctr_world.proofs.Quiet.{disk_answered}
use Rattle.ctr_world.proofs.engine.Engine.clean.Goals as goal

-- the pass is idle
pub returns-then-is_idle-clause-kept : goal.returns-then-is_idle-clause-kept
returns-then-is_idle-clause-kept g c = λ s tells sound shows keeps.
    let w = running c.args.self.now in
    let noted_is : c.noted-noted.result ≡ noted_pass w = c.noted-noted.ensures ∙ ap (λ (n : ℕ). noted w.pass n c.deref.result.now) c.next.ensures ∙ ap (noted w.pass w.store.next) c.deref.ensures.value in
    let idle = sym (ap (λ (p : Pass). p.phase) noted_is) ∙ c.if-is_idle.ensures.yes refl in
    (shows_looked g.B.Opening g.B.Origin.first g.D.Disk w c.noted-noted.result s shows, pass_looked g.B.Opening g.B.Origin.first g.D.Disk w c.noted-noted.result s c.an_idle_pass_is_kept.ensures noted_is idle keeps)

-- a turn for room
pub returns-in-Ok-clause-kept : goal.returns-in-Ok-clause-kept
returns-in-Ok-clause-kept g c = λ s tells sound shows keeps.
    let w = running c.args.self.now in
    let e = c.in-Ok.ensures in (
      e.shows s tells sound shows,
      pass_beside g.B.Opening s w (running c.made_room.new.self) c.a_pass_is_kept_beside_others.ensures (e.disk.goes tells sound) (record { pass = λ i. (e.same i).pass; read = λ i. (e.same i).read; undo = inl (λ i. (e.same i).undo) }) e.adds.entries e.adds.tape keeps,
    )

pub returns-in-Err-clause-kept : goal.returns-in-Err-clause-kept
returns-in-Err-clause-kept g c = λ s tells sound shows keeps. c.in-Err.ensures.shows s tells sound shows

-- a turn in the pass, and answers
pub returns-in-Ok-read_or_clean-clause-kept : goal.returns-in-Ok-read_or_clean-clause-kept
returns-in-Ok-read_or_clean-clause-kept g c = λ s tells sound shows keeps.
    let mid = running c.read_or_clean.new.self in
    let new = running c.answer.new.self in
    let both = c.in-Ok-read_or_clean.ensures.kept s tells sound shows keeps in
    let e = c.answer.ensures in
    let same : new.store ≡ mid.store = λ i. (e.same i).store in (
      e.shows s tells sound both.0,
      pass_beside g.B.Opening s mid new c.a_pass_is_kept_beside_others.ensures (inl (record { next = ap (λ (v : View g.row.D.Denot). v.next) same; now = as_counted mid.store.now new.store.now (ap (λ (v : View g.row.D.Denot). v.now) same) }))
          (record { pass = λ i. (e.same i).pass; read = λ i. (e.same i).read; undo = inl (λ i. (e.same i).undo) }) e.adds.entries e.adds.tape both.1,
    )

pub returns-in-Ok-read_or_clean-clause-disk : goal.returns-in-Ok-read_or_clean-clause-disk
returns-in-Ok-read_or_clean-clause-disk g c = disk_answered g.B.Origin.first g.D.Disk c.args.self.now.store c.read_or_clean.new.self.store c.answer.new.self.store _ (λ i. (c.answer.ensures.same i).store) (disk_done g.B.Origin.first g.D.Disk _ _ _ _ c.in-Ok-read_or_clean.ensures.disk)

pub returns-in-Ok-read_or_clean-clause-went : goal.returns-in-Ok-read_or_clean-clause-went
returns-in-Ok-read_or_clean-clause-went g c =
    let w = running c.args.self.now in
    let mid = running c.read_or_clean.new.self in
    let new = running c.answer.new.self in
    let e = c.answer.ensures in
    let same : new.store ≡ mid.store = λ i. (e.same i).store in
    let noted_is : c.noted-noted.result ≡ noted_pass w = c.noted-noted.ensures ∙ ap (λ (n : ℕ). noted w.pass n c.deref.result.now) c.next.ensures ∙ ap (noted w.pass w.store.next) c.deref.ensures.value in (
      inr (answered_same w mid new (λ i. (e.same i).pass) same (λ i. (e.same i).read) c.in-Ok-read_or_clean.ensures.cleans),
      e.answered,
      λ idle. c.if-is_idle.ensures.no refl (ap (λ (p : Pass). p.phase) noted_is ∙ idle),
    )
