use Rattle.std.proofs.Common.{◌≡◌, ◌∙◌, ◌↔◌, Bool, true, false, Result, sym, ap, subst}
use Rattle.std.specs.Prelude.{IsTrue, IfOk, OnOk}
use Rattle.ctr_disk.specs.declared.fault.StoreFault.{StoreFault}
use Rattle.ctr_store.specs.Parts.{HasBuffer, MayCount}
use Rattle.ctr_store.specs.Store.{View, LeavesFront}
use Rattle.ctr_store.specs.StoreInside.{view_of}
use Rattle.ctr_store.specs.Generations.{CanEnd, ShowsSame, NamesCurrent}
use Rattle.ctr_store.proofs.StoreLaws.{of_ok, front_seen, recalls_kept}
use Rattle.ctr_store.proofs.GenerationLaws.{ok_of, buffer_older, still_leaves, still_shows, same_shown, can_iff, names_seen, buffer_named, numbers_named}
use Rattle.ctr_store.proofs.store.Store.end_checkpoint.Goals as goal
use Rattle.ctr_store.proofs.store.Store.end_checkpoint.Goals.{in-Ok, in-Err}

pub returns-then-not-can_drop-clause-dropped : goal.returns-then-not-can_drop-clause-dropped
returns-then-not-can_drop-clause-dropped g c =
    can_iff g.O.Origin.first g.D.Disk c.self.inside.parts c.self.inside.stopped c.args.self.now c.self.view_is c.can_drop.result false c.if-not-can_drop.true c.can_drop.ensures

pub returns-then-not-can_drop-clause-any_moment : goal.returns-then-not-can_drop-clause-any_moment
returns-then-not-can_drop-clause-any_moment g c told sound =
    let a = c.self.inside in
    let going : a.stopped ≡ false = ap (λ (v : View g.row.D.Denot). v.stopped) c.self.view_is ∙ c.requires in
    still_leaves g.O.Origin.first g.D.Disk g.met.D.Disk.only_now a.parts a.stopped c.args.self.now c.self.view_is c.self.invariant.buffer (c.self.invariant.fold told going) sound

pub returns-then-not-can_drop-clause-shows : goal.returns-then-not-can_drop-clause-shows
returns-then-not-can_drop-clause-shows g c told sound =
    let a = c.self.inside in
    let going : a.stopped ≡ false = ap (λ (v : View g.row.D.Denot). v.stopped) c.self.view_is ∙ c.requires in
    still_shows g.O.Origin.first g.D.Disk g.met.D.Disk.only_now a.parts a.stopped c.args.self.now c.self.view_is c.self.invariant.buffer (c.self.invariant.fold told going) sound

pub returns-clause-any_moment : goal.returns-clause-any_moment
returns-clause-any_moment g c told sound =
    let a = c.self.inside in
    let d = g.D.Disk in
    let shown = view_of d c.drop_older-dropped.new.self c.is_err-self-inside.result in
    subst (λ (v : View g.row.D.Denot). LeavesFront d v shown) c.self.view_is
    (front_seen d a.parts c.drop_older-dropped.new.self a.stopped c.is_err-self-inside.result c.self.invariant.buffer (c.drop_older-dropped.ensures.goes told sound))

pub returns-clause-dropped : goal.returns-clause-dropped
returns-clause-dropped g c =
    let Q : Result Bool StoreFault → Type 0 = λ r. IfOk r (λ dropped. IsTrue dropped ↔ CanEnd c.args.self.now) in
    elim c.match-dropped.branch [
      | in-Ok w ↦ subst Q (sym w.result-is) (can_iff g.O.Origin.first g.D.Disk c.self.inside.parts c.self.inside.stopped c.args.self.now c.self.view_is c.can_drop.result true c.if-not-can_drop.false c.can_drop.ensures)
      | in-Err w ↦ subst Q (sym w.result-is) tt
    ]

pub returns-clause-shows : goal.returns-clause-shows
returns-clause-shows g c told sound =
    let a = c.self.inside in
    let d = g.D.Disk in
    let t = c.drop_older-dropped.new.self in
    let k = c.is_err-self-inside.result in
    let Q : Result Bool StoreFault → Type 0 = λ r. OnOk r (ShowsSame d c.args.self.now (view_of d t k)) in
    elim c.match-dropped.branch [
      | in-Ok w ↦
          let both = ok_of c.drop_older-dropped.result tt w.in-Ok.is (c.drop_older-dropped.ensures.switches told) in
          let log = ok_of c.drop_older-dropped.result tt w.in-Ok.is c.drop_older-dropped.ensures.names.0.log in
          let has = subst HasBuffer (sym log) (buffer_older a.parts.base.log c.self.invariant.buffer) in
          subst Q (sym w.result-is) (subst (λ (v : View g.row.D.Denot). ShowsSame d v (view_of d t k)) c.self.view_is (same_shown g.O.Origin.first d g.met.D.Disk.only_now a.parts t a.stopped k has (both.0 sound) both.1 sound))
      | in-Err w ↦ subst Q (sym w.result-is) tt
    ]

pub returns-clause-names : goal.returns-clause-names
returns-clause-names g c told sound is =
    let a = c.self.inside in
    let d = g.D.Disk in
    let t = c.drop_older-dropped.new.self in
    let k = c.is_err-self-inside.result in
    let going : a.stopped ≡ false = ap (λ (v : View g.row.D.Denot). v.stopped) c.self.view_is ∙ c.requires in
    elim c.match-dropped.branch [
      | in-Ok w ↦
          let r = c.drop_older-dropped.result in
          let both = ok_of r tt w.in-Ok.is (c.drop_older-dropped.ensures.switches told) in
          let names = c.drop_older-dropped.ensures.names.0 in
          subst (λ (v : View g.row.D.Denot). NamesCurrent d v (view_of d t k)) c.self.view_is
          (names_seen g.O.Origin.first d a.parts t a.stopped k (c.self.invariant.fold told going) both.1 sound (ok_of r tt w.in-Ok.is names.first) (ok_of r tt w.in-Ok.is names.log) (ok_of r tt w.in-Ok.is (c.drop_older-dropped.ensures.records told sound)))
      | in-Err w ↦ absurd (cc (sym w.result-is ∙ is))
    ]

pub invariant_of-self : goal.invariant_of-self
invariant_of-self g c =
    let d = g.D.Disk in
    let s = c.self.inside.parts in
    let t = c.drop_older-dropped.new.self in
    let r = c.drop_older-dropped.result in
    let e = c.drop_older-dropped.ensures in
    let inv = c.self.invariant in
    record {
      fold = λ told going. (of_ok r (sym c.is_err-self-inside.ensures.value ∙ going) (e.switches told)).1;
      recalls = λ told sound going.
          let went : c.self.inside.stopped ≡ false = ap (λ (v : View g.row.D.Denot). v.stopped) c.self.view_is ∙ c.requires in
          recalls_kept d s t c.self.inside.directory ((of_ok r (sym c.is_err-self-inside.ensures.value ∙ going) (e.switches told)).0 sound) (inv.recalls told sound went);
      buffer = buffer_named s.base t.base r e.names.0 inv.buffer;
      counted = subst MayCount (sym e.names.0.pages) inv.counted;
      numbers = numbers_named s t r e.names.0 e.names.2 inv.numbers;
    }
