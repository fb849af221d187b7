use Rattle.std.proofs.Common.{◌≡◌, ◌∙◌, Bool, false, sym, ap, subst}
use Rattle.std.proofs.lemmas.Result.{on_ok_weaker}
use Rattle.ctr_base.specs.Base.{IsSoundImage}
use Rattle.ctr_store.specs.Store.{View, LeavesPage}
use Rattle.ctr_store.specs.StoreInside.{view_of}
use Rattle.ctr_store.proofs.BufferLaws.{buffer_kept, count_kept}
use Rattle.ctr_store.proofs.NumberLaws.{numbers_kept}
use Rattle.ctr_store.proofs.StoreLaws.{of_ok, rests_seen, page_left, sound_fault, recalls_moved}
use Rattle.ctr_store.proofs.store.Store.harden.Goals as goal

pub invariant_of-self : goal.invariant_of-self
invariant_of-self g c =
    let e = c.harden-hardened.ensures in
    let went : c.self.inside.stopped ≡ false = ap (λ (v : View g.row.D.Denot). v.stopped) c.self.view_is ∙ c.requires in
    record {
      fold = λ told going. of_ok c.harden-hardened.result (sym c.is_err-self-inside.ensures.value ∙ going) (e.fold told);
      recalls = λ told sound going.
          let moves = of_ok c.harden-hardened.result (sym c.is_err-self-inside.ensures.value ∙ going) (e.moves told) in
          recalls_moved g.D.Disk g.O.Origin.first c.self.inside.parts c.harden-hardened.new.self c.self.inside.directory moves sound (c.self.invariant.recalls told sound went);
      buffer = buffer_kept g.D.Disk c.self.inside.parts.base c.harden-hardened.new.self.base e.keeps.0 c.self.invariant.buffer;
      counted = count_kept g.D.Disk c.self.inside.parts.base c.harden-hardened.new.self.base e.keeps.0 c.self.invariant.counted;
      numbers = numbers_kept g.D.Disk c.self.inside.parts c.harden-hardened.new.self e.keeps.0 e.keeps.1 c.self.invariant.numbers;
    }

pub returns-clause-durable : goal.returns-clause-durable
returns-clause-durable g c told sound =
    let d = g.D.Disk in
    let t = c.harden-hardened.new.self in
    let k = c.is_err-self-inside.result in
    let has = buffer_kept d c.self.inside.parts.base t.base c.harden-hardened.ensures.keeps.0 c.self.invariant.buffer in
    on_ok_weaker c.harden-hardened.result (λ fold. rests_seen d g.O.Origin.first g.met.D.Disk.only_now t k has fold sound) (c.harden-hardened.ensures.fold told)

pub returns-clause-leaves : goal.returns-clause-leaves
returns-clause-leaves g c =
    let d = g.D.Disk in
    let o = g.O.Origin.first in
    let t = c.harden-hardened.new.self in
    let e = c.harden-hardened.ensures in
    let going : c.self.inside.stopped ≡ false = ap (λ (v : View g.row.D.Denot). v.stopped) c.self.view_is ∙ c.requires in
    subst (λ (k : Bool). LeavesPage o d c.args.self.now (view_of d t k) c.harden-hardened.result) (sym c.is_err-self-inside.ensures.value)
    (page_left d o c.self.inside.parts t c.self.inside.stopped c.args.self.now c.self.view_is c.self.invariant.buffer e.goes e.keeps.0 e.keeps.1 c.harden-hardened.result going e.moves (λ told. sound_fault (IsSoundImage o) c.harden-hardened.result e.refused) e.faults)
