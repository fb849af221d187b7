use Rattle.std.proofs.Common.{◌≡◌, ◌∙◌, ◌+◌, ◌-◌, ◌^◌, ◌<◌, ℕ, List, length, Bool, false, sym, ap, subst}
use Rattle.std.specs.Prelude.{IsTrue}
use Rattle.ctr_base.specs.Base.{IsSoundImage}
use Rattle.ctr_base.specs.ctr_home.declared.root.Root.{Root}
use Rattle.ctr_base.specs.log_Logs.{Log}
use Rattle.ctr_store.specs.declared.parts.Parts.{Parts}
use Rattle.ctr_store.specs.Checkpoints.{SpellsTables}
use Rattle.ctr_store.specs.Parts.{MayCount}
use Rattle.ctr_store.specs.Store.{View, LeavesFront}
use Rattle.ctr_store.specs.StoreInside.{view_of}
use Rattle.ctr_store.specs.Generations.{ShowsSame, AddsCheckpoint}
use Rattle.ctr_store.proofs.StoreLaws.{front_seen, recalls_reserved, recalls_kept}
use Rattle.ctr_store.proofs.GenerationLaws.{nothing_waits, ok_of, still_leaves, still_shows, same_shown, view_room, buffer_room, fold_reserved, numbers_room, buffer_begun, numbers_begun, adds_seen}
use Rattle.ctr_store.proofs.store.Store.begin_checkpoint.Given.{Over}
use Rattle.ctr_store.proofs.store.Store.begin_checkpoint.Goals.{After-spell_checkpoint, After-begin_generation-begun}
use Rattle.ctr_store.proofs.store.Store.begin_checkpoint.Goals as goal

-- no call was answered an error
going : (g : Over) (c : After-spell_checkpoint g) → c.self.inside.stopped ≡ false
going g c = ap (λ (v : View g.row.D.Denot). v.stopped) c.self.view_is ∙ c.requires.going

-- nothing has changed yet
leaves : (g : Over) (c : After-spell_checkpoint g) → IsTrue g.D.Disk.tells → IsSoundImage g.O.Origin.first → LeavesFront g.D.Disk c.args.self.now c.args.self.now
leaves g c told sound =
    let a = c.self.inside in
    still_leaves g.O.Origin.first g.D.Disk g.met.D.Disk.only_now a.parts a.stopped c.args.self.now c.self.view_is c.self.invariant.buffer (c.self.invariant.fold told (going g c)) sound

shows : (g : Over) (c : After-spell_checkpoint g) → IsTrue g.D.Disk.tells → IsSoundImage g.O.Origin.first → ShowsSame g.D.Disk c.args.self.now c.args.self.now
shows g c told sound =
    let a = c.self.inside in
    still_shows g.O.Origin.first g.D.Disk g.met.D.Disk.only_now a.parts a.stopped c.args.self.now c.self.view_is c.self.invariant.buffer (c.self.invariant.fold told (going g c)) sound

pub returns-in-Err-OutOfMemory-clause-any_moment : goal.returns-in-Err-OutOfMemory-clause-any_moment
returns-in-Err-OutOfMemory-clause-any_moment g c = leaves g (goal.at.returns-in-Err-OutOfMemory-clause-any_moment g c).After-spell_checkpoint

pub returns-in-Err-OutOfMemory-clause-shows : goal.returns-in-Err-OutOfMemory-clause-shows
returns-in-Err-OutOfMemory-clause-shows g c = shows g (goal.at.returns-in-Err-OutOfMemory-clause-shows g c).After-spell_checkpoint

pub returns-in-Err-Unfit-clause-any_moment : goal.returns-in-Err-Unfit-clause-any_moment
returns-in-Err-Unfit-clause-any_moment g c = leaves g (goal.at.returns-in-Err-Unfit-clause-any_moment g c).After-spell_checkpoint

-- ---- room was taken, or refused

pub invariant_of-self : goal.invariant_of-self
invariant_of-self g c =
    let a = c.self.inside in
    let e = c.reserve.ensures in
    record {
      fold = λ told going. fold_reserved g.O.Origin.first g.D.Disk a.parts c.reserve.new.self e.same (c.self.invariant.fold told going);
      recalls = λ told sound going. recalls_reserved g.D.Disk a.parts c.reserve.new.self a.directory e.same (c.self.invariant.recalls told sound going);
      buffer = buffer_room a.parts.base.log c.reserve.new.self e.same e.kept c.self.invariant.buffer;
      counted = c.self.invariant.counted;
      numbers = numbers_room a.parts.base.log c.reserve.new.self a.parts.meta.tables e.same c.self.invariant.numbers;
    }

pub returns-in-Err-clause-any_moment : goal.returns-in-Err-clause-any_moment
returns-in-Err-clause-any_moment g c told sound =
    let a = c.self.inside in
    let same = view_room g.O.Origin.first g.D.Disk a.parts c.reserve.new.self a.stopped c.reserve.ensures.same ∙ c.self.view_is in
    subst (λ (v : View g.row.D.Denot). LeavesFront g.D.Disk c.args.self.now v) (sym same) (leaves g (goal.at.returns-in-Err-clause-any_moment g c).After-spell_checkpoint told sound)

pub returns-in-Err-clause-shows : goal.returns-in-Err-clause-shows
returns-in-Err-clause-shows g c told sound =
    let a = c.self.inside in
    let same = view_room g.O.Origin.first g.D.Disk a.parts c.reserve.new.self a.stopped c.reserve.ensures.same ∙ c.self.view_is in
    subst (λ (v : View g.row.D.Denot). ShowsSame g.D.Disk c.args.self.now v) (sym same) (shows g (goal.at.returns-in-Err-clause-shows g c).After-spell_checkpoint told sound)

pub begin_generation-begun-requires-clause-fold : goal.begin_generation-begun-requires-clause-fold
begin_generation-begun-requires-clause-fold g c told =
    let going : c.self.inside.stopped ≡ false = ap (λ (v : View g.row.D.Denot). v.stopped) c.self.view_is ∙ c.requires.going in
    fold_reserved g.O.Origin.first g.D.Disk c.self.inside.parts c.reserve.new.self c.reserve.ensures.same (c.self.invariant.fold told going)

-- ---- the generation was begun, or the disk failed

-- however it ended, a crash leaves what was hardened
any_moment : (g : Over) (c : After-begin_generation-begun g) (k : Bool) → IsTrue g.D.Disk.tells → IsSoundImage g.O.Origin.first → LeavesFront g.D.Disk c.args.self.now (view_of g.D.Disk c.begin_generation-begun.new.self k)
any_moment g c k told sound =
    let d = g.D.Disk in
    let a = c.self.inside in
    let l = c.reserve.new.self in
    let s : Parts g.row.D.Denot g.row.O.Denot = record a.parts { base = record a.parts.base { log = l } } in
    let t = c.begin_generation-begun.new.self in
    let e = c.reserve.ensures in
    let same = view_room g.O.Origin.first d a.parts l a.stopped e.same ∙ c.self.view_is in
    subst (λ (v : View g.row.D.Denot). LeavesFront d v (view_of d t k)) same (front_seen d s t a.stopped k (buffer_room a.parts.base.log l e.same e.kept c.self.invariant.buffer) (c.begin_generation-begun.ensures.goes told sound))

pub returns-in-Ok-begun-clause-any_moment : goal.returns-in-Ok-begun-clause-any_moment
returns-in-Ok-begun-clause-any_moment g c = any_moment g (goal.at.returns-in-Ok-begun-clause-any_moment g c).After-begin_generation-begun c.is_err-self-inside.result

pub returns-clause-any_moment : goal.returns-clause-any_moment
returns-clause-any_moment g c = any_moment g (goal.at.returns-clause-any_moment g c).After-begin_generation-begun c.is_err-self-inside.result

pub invariant_of-self-in-Ok-begun : goal.invariant_of-self-in-Ok-begun
invariant_of-self-in-Ok-begun g c =
    let a = c.self.inside in
    let l = c.reserve.new.self in
    let s : Parts g.row.D.Denot g.row.O.Denot = record a.parts { base = record a.parts.base { log = l } } in
    let t = c.begin_generation-begun.new.self in
    let r = c.begin_generation-begun.result in
    let e = c.begin_generation-begun.ensures in
    let room = c.reserve.ensures in
    let none = ap (λ (x : Log). x.buffered) room.same ∙ nothing_waits a.parts.base.log c.self.invariant.buffer (ap (λ (v : View g.row.D.Denot). v.waiting) c.self.view_is ∙ c.requires.durable) in
    let started = ok_of r tt c.in-Ok-begun.is e.started in
    let low = subst (λ (v : View g.row.D.Denot). v.next < 2 ^ 63 - 1) (sym c.self.view_is) c.requires.number in
    record {
      fold = λ told going. (ok_of r tt c.in-Ok-begun.is (e.switches told)).1;
      recalls = λ told sound going.
          let went : a.stopped ≡ false = ap (λ (v : View g.row.D.Denot). v.stopped) c.self.view_is ∙ c.requires.going in
          recalls_kept g.D.Disk s t a.directory ((ok_of r tt c.in-Ok-begun.is (e.switches told)).0 sound) (recalls_reserved g.D.Disk a.parts l a.directory room.same (c.self.invariant.recalls told sound went));
      buffer = buffer_begun l t.base.log (buffer_room a.parts.base.log l room.same room.kept c.self.invariant.buffer) none started e.keeps.0.room;
      counted = subst (λ (x : Root). MayCount x.pages) (sym e.keeps.1) c.self.invariant.counted;
      numbers = numbers_begun g.O.Origin.first g.D.Disk s t none started e.keeps.3 (subst (λ (x : Log). x.first + length x.buffered < 2 ^ 63 - 1) (sym room.same) low) (numbers_room a.parts.base.log l a.parts.meta.tables room.same c.self.invariant.numbers);
    }

pub returns-in-Ok-begun-clause-shows : goal.returns-in-Ok-begun-clause-shows
returns-in-Ok-begun-clause-shows g c told sound =
    let d = g.D.Disk in
    let a = c.self.inside in
    let l = c.reserve.new.self in
    let s : Parts g.row.D.Denot g.row.O.Denot = record a.parts { base = record a.parts.base { log = l } } in
    let t = c.begin_generation-begun.new.self in
    let k = c.is_err-self-inside.result in
    let r = c.begin_generation-begun.result in
    let e = c.begin_generation-begun.ensures in
    let same = view_room g.O.Origin.first d a.parts l a.stopped c.reserve.ensures.same ∙ c.self.view_is in
    let both = ok_of r tt c.in-Ok-begun.is (e.switches told) in
    let none = ap (λ (x : Log). x.buffered) c.reserve.ensures.same ∙ nothing_waits a.parts.base.log c.self.invariant.buffer (ap (λ (v : View g.row.D.Denot). v.waiting) c.self.view_is ∙ c.requires.durable) in
    let has = buffer_begun l t.base.log (buffer_room a.parts.base.log l c.reserve.ensures.same c.reserve.ensures.kept c.self.invariant.buffer) none (ok_of r tt c.in-Ok-begun.is e.started) e.keeps.0.room in
    subst (λ (v : View g.row.D.Denot). ShowsSame d v (view_of d t k)) same (same_shown g.O.Origin.first d g.met.D.Disk.only_now s t a.stopped k has (both.0 sound) both.1 sound)

pub returns-in-Ok-begun-clause-adds : goal.returns-in-Ok-begun-clause-adds
returns-in-Ok-begun-clause-adds g c told sound is =
    let d = g.D.Disk in
    let a = c.self.inside in
    let l = c.reserve.new.self in
    let s : Parts g.row.D.Denot g.row.O.Denot = record a.parts { base = record a.parts.base { log = l } } in
    let t = c.begin_generation-begun.new.self in
    let k = c.is_err-self-inside.result in
    let r = c.begin_generation-begun.result in
    let e = c.begin_generation-begun.ensures in
    let same = view_room g.O.Origin.first d a.parts l a.stopped c.reserve.ensures.same ∙ c.self.view_is in
    let both = ok_of r tt c.in-Ok-begun.is (e.switches told) in
    let spelled = subst (λ (x : List ℕ). SpellsTables a.parts.meta.tables x) (sym c.deref.ensures.value) c.in-Ok.ensures.made in
    subst (λ (v : View g.row.D.Denot). AddsCheckpoint d v (view_of d t k)) same
    (adds_seen g.O.Origin.first d s t a.stopped k c.deref.result.now both.1 sound e.keeps.1 (ok_of r tt c.in-Ok-begun.is (e.records told sound)) spelled)
